-- Slips in MR (1C), M (5C), DR (1D) and D (5D): in their registers, the order of their tests, and number 8. All are of `engine::step`.
use Rattle.std.specs.Prelude.{Ok, Err, ℕ, ◌*◌, ◌/◌, ◌%◌, List, [], ◌∷◌, ◌++◌, eqb}
use Rattle.words.specs.declared.PairOp.{PairOp}
use Rattle.words.specs.declared.PairOp.TheVariants.{Multiply, Divide}
use Rattle.words.specs.Pick.{pick}
use Rattle.words.specs.Whole.{word_top, signed, kept}
use Rattle.words.specs.Codes.{sign_code}
use Rattle.words.specs.Wide.{Paired, remainder_of, pair_of}
use Rattle.pages.specs.declared.Access.TheVariants.{Load}
use Rattle.code.specs.declared.RrFields.{RrFields}
use Rattle.code.specs.declared.RrAction.TheVariants.{PairAndRegister}
use Rattle.code.specs.declared.RxFields.{RxFields}
use Rattle.machine.specs.Prog.{Prog, done, fail}
use Rattle.machine.specs.Fields.{looks, gets, aligned, loading}
use Rattle.machine.specs.Cpu.{Cpu, reg, with_reg, with_code, onward}
use Rattle.machine.specs.Pairs.{pair, with_pair, even_only, into_pair}
use Rattle.machine.specs.Rr.{rr}
use Rattle.machine.specs.Rx.{rx_address}
use Rattle.machine.specs.Machine.{Given, cpu_in}
use Rattle.slips.specs.Row.{Row}
use Rattle.slips.specs.Seen.{lone, steps, operation, as_rr, as_rx}
use Rattle.slips.specs.Refusals.{step_spoiling}

-- the work of M or D on its operand v
abbrev work : PairOp → RxFields → Cpu → ℕ → Prog Cpu
work op f c v = into_pair (pair_of op (pair c f.r1) v) 4 f.r1 c

-- DR that stores the remainder, and then reads R2 again for the quotient
abbrev remainder_first : RrFields → Cpu → Prog Cpu
remainder_first f c =
    let w = pair c f.r1 in
    let stored = with_reg c f.r1 (kept word_top (remainder_of w (reg c f.r2))) in
    even_only f.r1 c (into_pair (pair_of Divide w (reg stored f.r2)) 2 f.r1 c)

-- DR 2,4 that has stored the remainder where it refuses
abbrev remainder_left : Given → Cpu
remainder_left g =
    let c = cpu_in g in
    with_reg c 2 (kept word_top (remainder_of (pair c 2) (reg c 4)))

-- D that gets its divisor and refuses a zero before it looks it up
abbrev eight_first : RxFields → Cpu → Prog Cpu
eight_first f c =
    even_only f.r1 c
    (aligned 4 (rx_address f c)
    (gets (rx_address f c) 4 0 (λ v. pick (eqb v 0) (fail 8 c.pc) (looks Load (rx_address f c) 4 (work Divide f c v)))))

-- M with R1 tested after the operand's boundary, and after its look-up
abbrev after_boundary : RxFields → Cpu → Prog Cpu
after_boundary f c = aligned 4 (rx_address f c) (even_only f.r1 c (loading 4 (rx_address f c) (work Multiply f c)))

abbrev after_look_up : RxFields → Cpu → Prog Cpu
after_look_up f c = loading 4 (rx_address f c) (λ v. even_only f.r1 c (work Multiply f c v))

-- MR of the pair that an odd R1 belongs to
abbrev pair_below : RrFields → Cpu → Prog Cpu
pair_below f c = rr (PairAndRegister Multiply) (record { r1 = f.r1 / 2 * 2; r2 = f.r2 }) c

-- the double word goes where `stored` says, and a divide error is 8 at this place
abbrev into : (ℕ → Cpu) → ℕ → Paired → Prog Cpu
into stored place (Ok v) = done (stored v)
into stored place (Err x) = fail 8 place

-- D with its error at the operand
abbrev at_operand : RxFields → Cpu → Prog Cpu
at_operand f c =
    even_only f.r1 c
    (loading 4 (rx_address f c) (λ v. into (with_pair (onward c 4) f.r1) (rx_address f c) (pair_of Divide (pair c f.r1) v)))

-- the code set by the right word's sign
abbrev coded : PairOp → ℕ → ℕ → ℕ → Cpu → Prog Cpu
coded op b len r c =
    into (λ v. with_code (with_pair (onward c len) r v) (sign_code (signed word_top (v % 4294967296)))) c.pc (pair_of op (pair c r) b)

abbrev coded_rr : PairOp → RrFields → Cpu → Prog Cpu
coded_rr op f c = even_only f.r1 c (coded op (reg c f.r2) 2 f.r1 c)

abbrev coded_rx : PairOp → RxFields → Cpu → Prog Cpu
coded_rx op f c = even_only f.r1 c (loading 4 (rx_address f c) (λ v. coded op v 4 f.r1 c))

-- This instruction of registers at 00A000: 7 in the pair 2, and 2 in register 4.
abbrev seven_and_two : ℕ → ℕ → Given
seven_and_two op registers = lone (op ∷ registers ∷ []) (0 ∷ 0 ∷ 0 ∷ 7 ∷ 2 ∷ [])

-- This instruction at 00A000 with register 5 as its base, and a word at 00A008; page 11 is absent. 7 in the pair 2.
abbrev seven : List ℕ → ℕ → ℕ → Given
seven instruction word base =
    lone (instruction ++ 0 ∷ 0 ∷ 0 ∷ 0 ∷ 0 ∷ 0 ∷ 0 ∷ word ∷ []) (0 ∷ 0 ∷ 0 ∷ 7 ∷ 0 ∷ base ∷ [])

abbrev pub slips : List Row
slips =
    -- DR 2,2: -7 by its left word, -1; DR 2,4: 200000001 by 2
    operation "DR storing the remainder before reading R2" 0x1d (as_rr remainder_first)
    (lone (0x1d ∷ 0x22 ∷ []) (0 ∷ 0 ∷ 0xffffffff ∷ 0xfffffff9 ∷ [])) 0 8
    ∷ steps "the remainder left in its register by a divide error" (step_spoiling remainder_left)
    (lone (0x1d ∷ 0x24 ∷ []) (0 ∷ 0 ∷ 2 ∷ 1 ∷ 2 ∷ [])) 2 1
    -- D 2,16(5) in page 11
    ∷ operation "a divide error told before the look-up" 0x5d (as_rx eight_first) (seven (0x5d ∷ 0x20 ∷ 0x50 ∷ 16 ∷ []) 0 0xb000) 3 8
    -- D 2,8(5)
    ∷ operation "a divide error at the operand" 0x5d (as_rx at_operand) (seven (0x5d ∷ 0x20 ∷ 0x50 ∷ 8 ∷ []) 0 0xa000) 0xa000 0xa008
    -- M 3,1(5) and M 3,0(5) in page 11
    ∷ operation "an odd R1 tested after the operand boundary" 0x5c (as_rx after_boundary)
    (seven (0x5c ∷ 0x30 ∷ 0x50 ∷ 1 ∷ []) 0 0xb000) 0xa000 0xb001
    ∷ operation "an odd R1 tested after the operand look-up" 0x5c (as_rx after_look_up) (seven (0x5c ∷ 0x30 ∷ 0x50 ∷ 0 ∷ []) 0 0xb000) 2 3
    -- MR 3,4
    ∷ operation "an odd R1 taken for the pair below it" 0x1c (as_rr pair_below) (seven_and_two 0x1c 0x34) 2 0
    -- MR 2,4, DR 2,4, M 2,8(5), D 2,8(5)
    ∷ operation "a condition code after MR" 0x1c (as_rr (coded_rr Multiply)) (seven_and_two 0x1c 0x24) 0 2
    ∷ operation "a condition code after DR" 0x1d (as_rr (coded_rr Divide)) (seven_and_two 0x1d 0x24) 0 2
    ∷ operation "a condition code after M" 0x5c (as_rx (coded_rx Multiply)) (seven (0x5c ∷ 0x20 ∷ 0x50 ∷ 8 ∷ []) 2 0xa000) 0 2
    ∷ operation "a condition code after D" 0x5d (as_rx (coded_rx Divide)) (seven (0x5d ∷ 0x20 ∷ 0x50 ∷ 8 ∷ []) 2 0xa000) 0 2
    ∷ []
