-- Places of the window's page: an instruction's counter there, and where one may begin.
use Rattle.std.specs.Prelude.{ℕ, ◌+◌, ◌-◌, ◌%◌, ◌<◌, ◌≤◌, ◌≡◌}
use Rattle.actions.specs.declared.Now.{Now}
use Rattle.quick.specs.declared.Window.{Window}

-- the counter of an instruction that lies at this place in memory, and the state's scalars there
abbrev pub counter_at : Window → ℕ → ℕ
counter_at w at = w.first + (at - w.base)

abbrev pub now_at : Window → ℕ → ℕ → ℕ → Now
now_at w at code mask = record { pc = counter_at w at; code = code; mask = mask }

-- a place to go on from: not before the page, and the counter is even, and a word
pub record Stands (w : Window) (at : ℕ) : Type 0 where
  pub behind : w.base ≤ at
  pub even : counter_at w at % 2 ≡ 0
  pub word : counter_at w at < 4294967296

-- a place that an instruction is done at: no sum of it leaves its range, nor does the counter wrap
pub record Placed (w : Window) (at : ℕ) : Type 0 where
  pub stands : Stands w at
  pub near : counter_at w at + 6 < 16777216
  pub fits : w.base + w.len ≤ 9223372036854775807
