-- The state: sixteen registers of 32 bits, the program counter of 24, the condition code, the program mask.
use Rattle.std.specs.Prelude.{ℕ, ◌+◌, ◌%◌, List, eqb, get_or, set}
use Rattle.words.specs.Pick.{pick}
use Rattle.words.specs.declared.Res.{Res}

pub record Cpu : Type 0 where
  pub regs : List ℕ
  pub pc : ℕ
  pub code : ℕ
  pub mask : ℕ

-- register i, and the state with v in register i
unfoldable pub reg : Cpu → ℕ → ℕ
reg c i = get_or c.regs i 0

abbrev pub with_reg : Cpu → ℕ → ℕ → Cpu
with_reg c i v = record { regs = set c.regs i v; pc = c.pc; code = c.code; mask = c.mask }

abbrev pub with_code : Cpu → ℕ → Cpu
with_code c k = record { regs = c.regs; pc = c.pc; code = k; mask = c.mask }

abbrev pub with_pc : Cpu → ℕ → Cpu
with_pc c a = record { regs = c.regs; pc = a; code = c.code; mask = c.mask }

-- a result: its word to register i, its code to the code
abbrev pub with_res : Cpu → ℕ → Res ℕ → Cpu
with_res c i r = with_code (with_reg c i r.value) r.code

-- the address n bytes past the counter, and the state with the counter there: addresses keep 24 bits
unfoldable pub ahead : Cpu → ℕ → ℕ
ahead c n = (c.pc + n) % 16777216

abbrev pub onward : Cpu → ℕ → Cpu
onward c n = with_pc c (ahead c n)

-- a base or index field of 0 means absent; address sums keep 24 bits
unfoldable pub part : Cpu → ℕ → ℕ
part c i = pick (eqb i 0) 0 (reg c i)

unfoldable pub address : Cpu → ℕ → ℕ → ℕ → ℕ
address c x b d = (part c x + part c b + d) % 16777216

-- the address in a register: its low 24 bits
abbrev pub target : Cpu → ℕ → ℕ
target c i = reg c i % 16777216
