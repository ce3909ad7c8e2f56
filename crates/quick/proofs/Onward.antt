-- Places in the window's page: the counter goes on as the place does, and does not wrap.
use Prim.Native.Nat.{ℕ, ◌+◌, ◌-◌, ◌%◌, ◌<◌, ◌≤◌}
use native.Mathlib.Omega.{arith}
use mathlib.Core.Path.{◌≡◌}
use mathlib.Core.List.{List}
use Rattle.machine.specs.Cpu.{ahead}
use Rattle.actions.specs.Answered.{cpu_of}
use Rattle.quick.specs.declared.Window.{Window}
use Rattle.quick.specs.declared.Here.{Here}
use Rattle.quick.specs.Places.{counter_at, Stands}
use Rattle.quick.specs.Turns.{now_of}

module _ (p : Here) where
  pub place_fits : p.at + 6 < 18446744073709551616
  place_fits = omega (arith, p.placed.stands.behind, p.placed.near, p.placed.fits)

  pub counter_on : (n : ℕ) → counter_at p.window (p.at + n) ≡ counter_at p.window p.at + n
  counter_on n = omega (arith, p.placed.stands.behind)

  pub stands_on : (n : ℕ) → n % 2 ≡ 0 → n ≤ 6 → Stands p.window (p.at + n)
  stands_on n e l =
      record {
        behind = omega (arith, p.placed.stands.behind);
        even = omega (arith, p.placed.stands.behind, p.placed.stands.even, e);
        word = omega (arith, p.placed.stands.behind, p.placed.near, l);
      }

  pub ahead_on : (regs : List ℕ) (n : ℕ) → n ≤ 6 → ahead (cpu_of regs (now_of p)) n ≡ counter_at p.window (p.at + n)
  unfolding ahead
  ahead_on regs n l = omega (arith, p.placed.stands.behind, p.placed.near, l)

-- a target in the window is a place
pub target_place : (w : Window) (to : ℕ) → w.first ≤ to → counter_at w (w.base + (to - w.first)) ≡ to
target_place w to h = omega arith

pub target_stands : (w : Window) (to : ℕ) → w.first ≤ to → to % 2 ≡ 0 → to < 4294967296 → Stands w (w.base + (to - w.first))
target_stands w to h e l = record { behind = omega arith; even = omega arith; word = omega arith }
