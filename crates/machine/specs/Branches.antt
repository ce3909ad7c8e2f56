-- Branches (001, L5413-5618). Address, then count or link, then the counter (L5469-5472): registers are read as they stood.
use Rattle.std.specs.Prelude.{ℕ, ◌+◌, ◌-◌, ◌*◌, ◌/◌, ◌%◌, ◌^◌, Bool, eqb, ltb}
use Rattle.words.specs.Pick.{pick, both}
use Rattle.code.specs.declared.Branch.{Branch}
use Rattle.code.specs.declared.Branch.TheVariants.{OnCondition, AndLink, OnCount}
use Rattle.machine.specs.Cpu.{Cpu, reg, with_reg, with_pc, ahead, onward}

-- to a, where the branch is taken
abbrev pub going : Bool → ℕ → Cpu → Cpu
going b a c = pick b (with_pc c a) c

-- the mask's bits, from the left, are for codes 0 to 3 (L5514-5520)
unfoldable pub chosen : ℕ → ℕ → Bool
chosen mask code = eqb (mask / 2 ^ (3 - code) % 2) 1

-- the link word: length code (half the instruction's length), condition code, mask, next address (L5532)
unfoldable pub link : Cpu → ℕ → ℕ
link c len = (len / 2 * 1073741824 + c.code * 268435456 + c.mask * 16777216 + ahead c len) % 4294967296

-- a register less one, in 32 bits
unfoldable pub less_one : ℕ → ℕ
less_one v = (v + 4294967295) % 4294967296

-- an instruction of len bytes with R1 or mask r, to a, where it may branch at all
unfoldable pub branch : Branch → ℕ → ℕ → ℕ → Bool → Cpu → Cpu
-- BCR, BC: L5488
branch OnCondition len r a may c = going (both may (chosen r c.code)) a (onward c len)
-- BALR, BAL: L5527
branch AndLink len r a may c = going may a (with_reg (onward c len) r (link c len))
-- BCTR, BCT: L5558
branch OnCount len r a may c =
    going (both may (ltb 0 (less_one (reg c r)))) a (with_reg (onward c len) r (less_one (reg c r)))
