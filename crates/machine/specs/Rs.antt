-- Actions of the RS format: registers R1 and R3, and an address of base + displacement.
use Rattle.std.specs.Prelude.{ℕ, zero, suc, ◌+◌, ◌-◌, ◌*◌, ◌/◌, ◌%◌, Bool, not}
use Rattle.std.specs.Int.Signed.{lt_z}
use Rattle.words.specs.Whole.{word_top, double_top, signed}
use Rattle.words.specs.Combine.{shifted_left, shifted_right}
use Rattle.words.specs.declared.Direction.{Direction}
use Rattle.words.specs.declared.Res.{Res}
use Rattle.words.specs.SignedShifts.{shifted_of}
use Rattle.pages.specs.declared.Access.TheVariants.{Load, Store}
use Rattle.code.specs.declared.RsFields.{RsFields}
use Rattle.code.specs.declared.RsAction.{RsAction}
use Rattle.code.specs.declared.RsAction.TheVariants.{LoadMultiple, StoreMultiple, ShiftLeft, ShiftRight, BranchHigh, BranchLowEqual, ShiftSigned, ShiftDouble}
use Rattle.machine.specs.Prog.{Prog, done}
use Rattle.machine.specs.Fields.{looks, gets, puts, aligned}
use Rattle.machine.specs.Cpu.{Cpu, reg, with_reg, with_code, onward, address}
use Rattle.machine.specs.Pairs.{pair, with_pair, even_only}
use Rattle.machine.specs.Branches.{going}

abbrev pub rs_address : RsFields → Cpu → ℕ
rs_address f c = address c 0 f.b2 f.d2

-- from R1 to R3 there are so many registers, wrapping 15 to 0 (L3563)
abbrev pub how_many : RsFields → ℕ
how_many f = suc ((f.r3 + 16 - f.r1) % 16)

-- the register after r, and the address of the next word
abbrev pub next_reg : ℕ → ℕ
next_reg r = (r + 1) % 16

abbrev pub next_word : ℕ → ℕ
next_word a = (a + 4) % 16777216

-- n registers from r on take the words from a on
unfoldable pub fills : ℕ → ℕ → ℕ → Cpu → Prog Cpu
fills zero r a c = done c
fills (suc n) r a c = gets a 4 0 (λ v. fills n (next_reg r) (next_word a) (with_reg c r v))

-- the words from a on take n registers from r on, of the state c; then k
unfoldable pub spills : ℕ → ℕ → ℕ → Cpu → Prog Cpu → Prog Cpu
spills zero r a c k = k
spills (suc n) r a c k = puts a 4 (reg c r) (spills n (next_reg r) (next_word a) c k)

-- R1 + R3 in 32 bits, and what it is compared with: R3 when it is odd, else R3 + 1 (L5598)
unfoldable pub index_sum : RsFields → Cpu → ℕ
index_sum f c = (reg c f.r1 + reg c f.r3) % 4294967296

unfoldable pub comparand : RsFields → Cpu → ℕ
comparand f c = reg c (f.r3 / 2 * 2 + 1)

unfoldable pub is_high : RsFields → Cpu → Bool
is_high f c = lt_z (signed word_top (comparand f c)) (signed word_top (index_sum f c))

-- what a signed shift makes of R1's word, and of its pair's double word
unfoldable pub shifted_word : Direction → RsFields → Cpu → Res ℕ
shifted_word d f c = shifted_of d word_top (reg c f.r1) (rs_address f c)

unfoldable pub shifted_pair : Direction → RsFields → Cpu → Res ℕ
shifted_pair d f c = shifted_of d double_top (pair c f.r1) (rs_address f c)

unfoldable pub rs : RsAction → RsFields → Cpu → Prog Cpu
-- LM: L3538
rs LoadMultiple f c =
    aligned 4 (rs_address f c)
    (looks Load (rs_address f c) (how_many f * 4) (fills (how_many f) f.r1 (rs_address f c) (onward c 4)))
-- STM: L3995
rs StoreMultiple f c =
    aligned 4 (rs_address f c)
    (looks Store (rs_address f c) (how_many f * 4) (spills (how_many f) f.r1 (rs_address f c) c (done (onward c 4))))
-- SLL: L5297. SRL: L5325
rs ShiftLeft f c = done (with_reg (onward c 4) f.r1 (shifted_left (reg c f.r1) (rs_address f c)))
rs ShiftRight f c = done (with_reg (onward c 4) f.r1 (shifted_right (reg c f.r1) (rs_address f c)))
-- BXH (its page is lost: the mirror of BXLE). BXLE: L5592
rs BranchHigh f c = done (going (is_high f c) (rs_address f c) (with_reg (onward c 4) f.r1 (index_sum f c)))
rs BranchLowEqual f c =
    done (going (not (is_high f c)) (rs_address f c) (with_reg (onward c 4) f.r1 (index_sum f c)))
-- SLA: L4024. SRA, SLDA, SRDA: their pages are lost
rs (ShiftSigned d) f c =
    done (with_code (with_reg (onward c 4) f.r1 (shifted_word d f c).value) (shifted_word d f c).code)
rs (ShiftDouble d) f c =
    even_only f.r1 c
    (done (with_code (with_pair (onward c 4) f.r1 (shifted_pair d f c).value) (shifted_pair d f c).code))
