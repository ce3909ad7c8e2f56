-- Pairs of registers, each named by its even one (001, L3272).
use Rattle.std.specs.Prelude.{Ok, Err, ℕ, ◌+◌, ◌/◌, ◌%◌, eqb}
use Rattle.words.specs.Pick.{pick}
use Rattle.words.specs.Wide.{Paired, no_quotient, joined, paired_says}
use Rattle.machine.specs.Prog.{Prog, done, fail}
use Rattle.machine.specs.Cpu.{Cpu, reg, with_reg, onward}

-- the double word in the pair r, and the state with v there
unfoldable pub pair : Cpu → ℕ → ℕ
pair c r = joined (reg c r) (reg c (r + 1))

abbrev pub with_pair : Cpu → ℕ → ℕ → Cpu
with_pair c r v = with_reg (with_reg c r (v / 4294967296)) (r + 1) (v % 4294967296)

-- an odd register where a pair is needed: 2 at the program counter (L1071, L3360; document 02)
abbrev pub even_only : ℕ → Cpu → Prog Cpu → Prog Cpu
even_only r c k = pick (eqb (r % 2) 0) k (fail 2 c.pc)

-- the double word goes to the pair r, and the counter `len` bytes on; a divide error has its number at the program counter (document 02)
unfoldable pub into_pair : Paired → ℕ → ℕ → Cpu → Prog Cpu
into_pair (Ok v) len r c = done (with_pair (onward c len) r v)
into_pair (Err x) len r c = fail (paired_says no_quotient).number c.pc
