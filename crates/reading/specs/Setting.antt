-- What a sheet sets.
use Rattle.std.specs.Prelude.{List, ℕ}

-- memory, page words, registers; program counter, condition code, program mask; the budget of the run
pub record Setting : Type 0 where
  pub mem : List ℕ
  pub map : List ℕ
  pub regs : List ℕ
  pub pc : ℕ
  pub code : ℕ
  pub mask : ℕ
  pub budget : ℕ

-- a setting with one part changed
abbrev pub with_mem : Setting → List ℕ → Setting
with_mem h mem = record { mem = mem; map = h.map; regs = h.regs; pc = h.pc; code = h.code; mask = h.mask; budget = h.budget }

abbrev pub with_map : Setting → List ℕ → Setting
with_map h map = record { mem = h.mem; map = map; regs = h.regs; pc = h.pc; code = h.code; mask = h.mask; budget = h.budget }

abbrev pub with_regs : Setting → List ℕ → Setting
with_regs h regs = record { mem = h.mem; map = h.map; regs = regs; pc = h.pc; code = h.code; mask = h.mask; budget = h.budget }

abbrev pub with_start : Setting → ℕ → ℕ → ℕ → Setting
with_start h pc code mask = record { mem = h.mem; map = h.map; regs = h.regs; pc = pc; code = code; mask = mask; budget = h.budget }

abbrev pub with_budget : Setting → ℕ → Setting
with_budget h budget = record { mem = h.mem; map = h.map; regs = h.regs; pc = h.pc; code = h.code; mask = h.mask; budget = budget }
