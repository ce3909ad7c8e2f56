-- Facts about the state's scalars.
use Prim.Native.Nat.{ℕ, ◌-◌, ◌/◌, ◌%◌}
use native.Mathlib.Omega.{arith}
use mathlib.Core.Path.{◌≡◌}
use lib.Dec.{eqb}
use Rattle.machine.specs.Branches.{chosen}

-- a code past 2 chooses the mask's last bit
pub chosen_last : (mask code : ℕ) → (code ≡ 0 → ⊥) → (code ≡ 1 → ⊥) → (code ≡ 2 → ⊥) → eqb (mask % 2) 1 ≡ chosen mask code
unfolding chosen
chosen_last mask code h0 h1 h2 =
    let z : 3 - code ≡ 0 = omega arith in
    let d : mask / 1 ≡ mask = omega arith in
    rw (z, d)
