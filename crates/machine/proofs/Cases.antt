-- Document 01's checks at the edges, the starred ones first, and some of E2's and E4's: one table, and one proof, by computation.
-- Instructions are run from memory, by the machine's own step and run.
use Prim.Native.Nat.{ℕ, suc, ◌+◌}
use mathlib.Core.Path.{◌≡◌, refl}
use mathlib.Core.List.{List, [], ◌∷◌, ◌++◌}
use lib.ListN.{get_or, take, drop, replicate}
use lib.Seq.{sets}
use Rattle.words.specs.Pick.{pick}
use Rattle.words.specs.Ascii.{same}
use Rattle.words.specs.Whole.{signed, kept, overflows, spread}
use Rattle.words.specs.Codes.{sign_code, compare_signed, zero_code}
use Rattle.words.specs.Combine.{signed_result, carried, combine_of, shifted_left}
use Rattle.words.specs.Wide.{product_of, quotient_of, remainder_of, pair_of}
use Rattle.words.specs.SignedShifts.{sign_bit, leftward, rightward, shifted_of}
use Rattle.pages.specs.declared.Access.{Access}
use Rattle.pages.specs.declared.Access.TheVariants.{Fetch, Load, Store}
use Rattle.pages.specs.Word.{bit_u, bit_s, bit_e, bit_m, bit_h, bits_x, frame, page_of, disp_of, next, base, size, real, word_of, accessed, written}
use Rattle.pages.specs.Tests as tests
use Rattle.pages.specs.Look.{Look, look_says, reach, look_of}
use Rattle.pages.specs.Framed.{accessed_at, written_at, read_byte, write_byte}
use Rattle.code.specs.Table as code
use Rattle.machine.specs.Prog.{interp}
use Rattle.machine.specs.Run.{run}
use Rattle.machine.specs.Fields.{looks, gets, puts, moves, loading, storing, halfword}
use Rattle.machine.specs.Cpu.{reg, ahead, part, address}
use Rattle.machine.specs.Pairs.{pair, into_pair}
use Rattle.machine.specs.Branches.{chosen, link, less_one, branch}
use Rattle.machine.specs.Rr.{rr}
use Rattle.machine.specs.Rx.{taken, rx}
use Rattle.machine.specs.Rs.{rs, shifted_word, shifted_pair}
use Rattle.machine.specs.Ss.{ss}
use Rattle.machine.specs.Step.{act, step}
use Rattle.machine.specs.Machine.{Given, Outcome, given, proper, step_outcome, run_outcome}

-- the definitions that the cases compute
unfoldable computes : Unit {0}
unfolding same signed kept overflows spread sign_code compare_signed zero_code signed_result carried combine_of shifted_left
    product_of quotient_of remainder_of pair_of sign_bit leftward rightward shifted_of
    bit_u bit_s bit_e bit_m bit_h bits_x frame page_of disp_of next base size real word_of accessed written tests.six_tests tests.tests reach look_of
    accessed_at written_at read_byte write_byte code.table code.action_of
    interp run looks gets puts moves loading storing halfword reg ahead part address chosen link less_one branch
    pair into_pair rr taken rx rs shifted_word shifted_pair ss act step proper step_outcome run_outcome
computes = tt

-- n zeros, but these values from place i on
abbrev laid : ℕ → ℕ → List ℕ → List ℕ
laid n i vs = sets (replicate n 0) i vs

-- 65,536 bytes with these from 12,288 on, where frame 3 begins; one page word; registers from 1 on; the counter; code and mask 0
abbrev started : List ℕ → ℕ → ℕ → List ℕ → ℕ → Given
started bytes page word regs pc = given (laid 65536 12288 bytes) (laid 512 page (word ∷ [])) (laid 16 1 regs) pc 0 0

-- one step with these bytes in page 10, from its first on: the instruction, and perhaps its operand
abbrev doing : ℕ → List ℕ → List ℕ → Outcome
doing word bytes regs = step_outcome (started bytes 10 word regs 0xa000)

-- the whole case's instruction, LA 1,5, with the counter at 00A000
abbrev whole : ℕ → ℕ → Given
whole page word = started (0x41 ∷ 0x10 ∷ 0x00 ∷ 0x05 ∷ []) page word [] 0xa000

-- number, place, count, counter, code, register 1, and the word of a page
abbrev seen : ℕ → Outcome → List ℕ
seen page o =
    o.reply.number
    ∷ o.reply.place
    ∷ o.reply.count
    ∷ o.reply.pc
    ∷ o.reply.code
    ∷ get_or o.regs 1 0
    ∷ get_or o.map page 0
    ∷ []

-- the same of page 10, and the six bytes eight on from its first
abbrev moved : Outcome → List ℕ
moved o = seen 10 o ++ take 6 (drop 12296 o.mem)

-- the same of page 10, and the pair of registers 2 and 3
abbrev seen_pair : Outcome → List ℕ
seen_pair o = seen 10 o ++ take 2 (drop 2 o.regs)

-- these page words from page 10 on, and bytes from this place on in frames 3, 4, .., on which pages 10, 11, .. lie; registers from 1 on
abbrev over_pages : ℕ → List ℕ → List ℕ → List ℕ → ℕ → Given
over_pages place bytes words regs pc = given (laid 65536 (12288 + place) bytes) (laid 512 10 words) (laid 16 1 regs) pc 0 0

-- number, place, count, counter, and the words of pages 10 to 13
abbrev marks : Outcome → List ℕ
marks o = o.reply.number ∷ o.reply.place ∷ o.reply.count ∷ o.reply.pc ∷ take 4 (drop 10 o.map)

-- a look-up's number, its real address and its reach, or the place of its refusal
abbrev found : Look → List ℕ
found l = (look_says l).number ∷ (look_says l).values

-- a look-up in a memory of n bytes, with one page word; a load's in one of 65,536
abbrev looked_for : Access → ℕ → ℕ → ℕ → ℕ → List ℕ
looked_for acc n page word a = found (look_of (laid 512 page (word ∷ [])) n acc a)

abbrev looked : ℕ → ℕ → ℕ → List ℕ
looked = looked_for Load 65536

record Case : Type 0 where
  answer : List ℕ
  expected : List ℕ

abbrev case : List ℕ → List ℕ → Case
case a e = record { answer = a; expected = e }

abbrev starred : List Case
starred =
    -- 0: page 10 absent, page 110 word 3003
    case (seen 110 (run_outcome 1 (whole 110 0x3003))) (3 ∷ 0xa000 ∷ 0 ∷ 0xa000 ∷ 0 ∷ 0 ∷ 0x3003 ∷ [])
    -- 1, 2: the whole case with RUN 1 and with RUN 2
    ∷ case (seen 10 (run_outcome 1 (whole 10 0x3003))) (7 ∷ 0 ∷ 1 ∷ 0xa004 ∷ 0 ∷ 5 ∷ 0x7003 ∷ [])
    ∷ case (seen 10 (run_outcome 2 (whole 10 0x3003))) (5 ∷ 0xa004 ∷ 1 ∷ 0xa004 ∷ 0 ∷ 5 ∷ 0x7003 ∷ [])
    -- 3, 4: word 3403, displacement 2,047 and 2,048
    ∷ case (looked 10 0x3403 0xa7ff) (0 ∷ 14335 ∷ 1 ∷ [])
    ∷ case (looked 10 0x3403 0xa800) (4 ∷ 0xa800 ∷ [])
    -- 5: word 3603, displacement 0
    ∷ case (looked 10 0x3603 0xa000) (0 ∷ 14336 ∷ 2048 ∷ [])
    -- 6, 7: word 3803: L 1,8(2) and ST 1,8(2)
    ∷ case (seen 10 (doing 0x3803 (0x58 ∷ 0x10 ∷ 0x20 ∷ 0x08 ∷ 0 ∷ 0 ∷ 0 ∷ 0 ∷ 0x12 ∷ 0x34 ∷ 0x56 ∷ 0x78 ∷ []) (0 ∷ 0xa000 ∷ [])))
    (0 ∷ 0 ∷ 1 ∷ 0xa004 ∷ 0 ∷ 0x12345678 ∷ 0x7803 ∷ [])
    ∷ case (seen 10 (doing 0x3803 (0x50 ∷ 0x10 ∷ 0x20 ∷ 0x08 ∷ []) (9 ∷ 0xa000 ∷ [])))
    (4 ∷ 0xa008 ∷ 0 ∷ 0xa000 ∷ 0 ∷ 9 ∷ 0x7803 ∷ [])
    -- 8: word 1043: U is tested before X
    ∷ case (seen 10 (step_outcome (whole 10 0x1043))) (3 ∷ 0xa000 ∷ 0 ∷ 0xa000 ∷ 0 ∷ 0 ∷ 0x1043 ∷ [])
    -- 9: word 3010 with 65,536 bytes
    ∷ case (seen 10 (step_outcome (whole 10 0x3010))) (1 ∷ 0xa000 ∷ 0 ∷ 0xa000 ∷ 0 ∷ 0 ∷ 0x3010 ∷ [])
    -- 10: AR 1,2: 7FFFFFFF + 1
    ∷ case (seen 10 (doing 0x3003 (0x1a ∷ 0x12 ∷ []) (0x7fffffff ∷ 1 ∷ []))) (0 ∷ 0 ∷ 1 ∷ 0xa002 ∷ 3 ∷ 0x80000000 ∷ 0x7003 ∷ [])
    -- 11, 12: ALR 1,2: FFFFFFFF + 1 and FFFFFFFF + 2
    ∷ case (seen 10 (doing 0x3003 (0x1e ∷ 0x12 ∷ []) (0xffffffff ∷ 1 ∷ []))) (0 ∷ 0 ∷ 1 ∷ 0xa002 ∷ 2 ∷ 0 ∷ 0x7003 ∷ [])
    ∷ case (seen 10 (doing 0x3003 (0x1e ∷ 0x12 ∷ []) (0xffffffff ∷ 2 ∷ []))) (0 ∷ 0 ∷ 1 ∷ 0xa002 ∷ 3 ∷ 1 ∷ 0x7003 ∷ [])
    -- 13: BALR 1,2: the link, and on to 00C000, which is in no page
    ∷ case (seen 10 (doing 0x3003 (0x05 ∷ 0x12 ∷ []) (0 ∷ 0xc000 ∷ []))) (0 ∷ 0 ∷ 1 ∷ 0xc000 ∷ 0 ∷ 0x4000a002 ∷ 0x7003 ∷ [])
    ∷ []

-- document 01's others
abbrev unstarred : List Case
unstarred =
    -- 14, 15: words 2003 and 3043
    case (seen 10 (step_outcome (whole 10 0x2003))) (4 ∷ 0xa000 ∷ 0 ∷ 0xa000 ∷ 0 ∷ 0 ∷ 0x2003 ∷ [])
    ∷ case (seen 10 (step_outcome (whole 10 0x3043))) (4 ∷ 0xa000 ∷ 0 ∷ 0xa000 ∷ 0 ∷ 0 ∷ 0x3043 ∷ [])
    -- 16, 17: 1FFFFF is in page 511; 200000
    ∷ case (looked 511 0x3003 0x1fffff) (0 ∷ 16383 ∷ 1 ∷ [])
    ∷ case (looked 511 0x3003 0x200000) (1 ∷ 0x200000 ∷ [])
    -- 18: LA at 00AFFE, page 11 absent
    ∷ case (seen 10 (step_outcome (given (laid 65536 16382 (0x41 ∷ 0x10 ∷ [])) (laid 512 10 (0x3003 ∷ [])) (laid 16 1 []) 0xaffe 0 0)))
    (3 ∷ 0xb000 ∷ 0 ∷ 0xaffe ∷ 0 ∷ 0 ∷ 0x7003 ∷ [])
    -- 19: LCR 1,2 of 80000000
    ∷ case (seen 10 (doing 0x3003 (0x13 ∷ 0x12 ∷ []) (0 ∷ 0x80000000 ∷ []))) (0 ∷ 0 ∷ 1 ∷ 0xa002 ∷ 3 ∷ 0x80000000 ∷ 0x7003 ∷ [])
    -- 20: MVC 9(4,2),8(2): one byte right of its source
    ∷ case (moved (doing 0x3003 (0xd2 ∷ 0x03 ∷ 0x20 ∷ 0x09 ∷ 0x20 ∷ 0x08 ∷ 0 ∷ 0 ∷ 0x5a ∷ 1 ∷ 2 ∷ 3 ∷ 4 ∷ 6 ∷ []) (0 ∷ 0xa000 ∷ [])))
    (0 ∷ 0 ∷ 1 ∷ 0xa006 ∷ 0 ∷ 0 ∷ 0xf003 ∷ 0x5a ∷ 0x5a ∷ 0x5a ∷ 0x5a ∷ 0x5a ∷ 6 ∷ [])
    -- 21: BCTR 1,2 on 0
    ∷ case (seen 10 (doing 0x3003 (0x06 ∷ 0x12 ∷ []) (0 ∷ 0xc000 ∷ []))) (0 ∷ 0 ∷ 1 ∷ 0xc000 ∷ 0 ∷ 0xffffffff ∷ 0x7003 ∷ [])
    -- 22: LH 1,8(2) of 8000
    ∷ case (seen 10 (doing 0x3003 (0x48 ∷ 0x10 ∷ 0x20 ∷ 0x08 ∷ 0 ∷ 0 ∷ 0 ∷ 0 ∷ 0x80 ∷ 0 ∷ []) (0 ∷ 0xa000 ∷ [])))
    (0 ∷ 0 ∷ 1 ∷ 0xa004 ∷ 0 ∷ 0xffff8000 ∷ 0x7003 ∷ [])
    -- 23: SLL 1,32
    ∷ case (seen 10 (doing 0x3003 (0x89 ∷ 0x10 ∷ 0x00 ∷ 0x20 ∷ []) (0xffffffff ∷ []))) (0 ∷ 0 ∷ 1 ∷ 0xa004 ∷ 0 ∷ 0 ∷ 0x7003 ∷ [])
    ∷ []

-- not in its list: which end of a branch's mask comes first, and the first test of a step
abbrev beside : List Case
beside =
    -- 24: BC 8,0(2) with code 0
    case (seen 10 (doing 0x3003 (0x47 ∷ 0x80 ∷ 0x20 ∷ 0x00 ∷ []) (0 ∷ 0xc000 ∷ []))) (0 ∷ 0 ∷ 1 ∷ 0xc000 ∷ 0 ∷ 0 ∷ 0x7003 ∷ [])
    -- 25: an odd counter, in no page
    ∷ case (seen 10 (step_outcome (started [] 110 0x3003 [] 0xa001))) (2 ∷ 0xa001 ∷ 0 ∷ 0xa001 ∷ 0 ∷ 0 ∷ 0 ∷ [])
    ∷ []

-- E2: what a pair holds afterwards, and the order of refusals. Register 1 is 0 where it is not shifted or added to
abbrev of_pairs : List Case
of_pairs =
    -- 26: MR 2,4: -3 times 5; what register 2 held is not looked at
    case (seen_pair (doing 0x3003 (0x1c ∷ 0x24 ∷ []) (0 ∷ 7 ∷ 0xfffffffd ∷ 5 ∷ [])))
    (0 ∷ 0 ∷ 1 ∷ 0xa002 ∷ 0 ∷ 0 ∷ 0x7003 ∷ 0xffffffff ∷ 0xfffffff1 ∷ [])
    -- 27: M 2,8(4): 80000000 squared
    ∷ case (seen_pair (doing 0x3003 (0x5c ∷ 0x20 ∷ 0x40 ∷ 0x08 ∷ 0 ∷ 0 ∷ 0 ∷ 0 ∷ 0x80 ∷ 0 ∷ 0 ∷ 0 ∷ []) (0 ∷ 0 ∷ 0x80000000 ∷ 0xa000 ∷ [])))
    (0 ∷ 0 ∷ 1 ∷ 0xa004 ∷ 0 ∷ 0 ∷ 0x7003 ∷ 0x40000000 ∷ 0 ∷ [])
    -- 28, 29: DR 2,4: -7 by 2; 2^31 by -1, whose quotient just fits
    ∷ case (seen_pair (doing 0x3003 (0x1d ∷ 0x24 ∷ []) (0 ∷ 0xffffffff ∷ 0xfffffff9 ∷ 2 ∷ [])))
    (0 ∷ 0 ∷ 1 ∷ 0xa002 ∷ 0 ∷ 0 ∷ 0x7003 ∷ 0xffffffff ∷ 0xfffffffd ∷ [])
    ∷ case (seen_pair (doing 0x3003 (0x1d ∷ 0x24 ∷ []) (0 ∷ 0 ∷ 0x80000000 ∷ 0xffffffff ∷ [])))
    (0 ∷ 0 ∷ 1 ∷ 0xa002 ∷ 0 ∷ 0 ∷ 0x7003 ∷ 0 ∷ 0x80000000 ∷ [])
    -- 30: DR 2,4: 2^31 by 1 does not fit
    ∷ case (seen_pair (doing 0x3003 (0x1d ∷ 0x24 ∷ []) (0 ∷ 0 ∷ 0x80000000 ∷ 1 ∷ [])))
    (8 ∷ 0xa000 ∷ 0 ∷ 0xa000 ∷ 0 ∷ 0 ∷ 0x7003 ∷ 0 ∷ 0x80000000 ∷ [])
    -- 31: D 2,8(4) by a word of zeros in its own page: 8, and the mark of the fetch
    ∷ case (seen_pair (doing 0x3003 (0x5d ∷ 0x20 ∷ 0x40 ∷ 0x08 ∷ []) (0 ∷ 0 ∷ 9 ∷ 0xa000 ∷ [])))
    (8 ∷ 0xa000 ∷ 0 ∷ 0xa000 ∷ 0 ∷ 0 ∷ 0x7003 ∷ 0 ∷ 9 ∷ [])
    -- 32, 33, 34: D 3,10(4), D 2,10(4) and D 2,8(4): odd before the boundary, the boundary before an absent page, that before 8
    ∷ case (seen_pair (doing 0x3003 (0x5d ∷ 0x30 ∷ 0x40 ∷ 0x0a ∷ []) (0 ∷ 0 ∷ 9 ∷ 0xb000 ∷ [])))
    (2 ∷ 0xa000 ∷ 0 ∷ 0xa000 ∷ 0 ∷ 0 ∷ 0x7003 ∷ 0 ∷ 9 ∷ [])
    ∷ case (seen_pair (doing 0x3003 (0x5d ∷ 0x20 ∷ 0x40 ∷ 0x0a ∷ []) (0 ∷ 0 ∷ 9 ∷ 0xb000 ∷ [])))
    (2 ∷ 0xb00a ∷ 0 ∷ 0xa000 ∷ 0 ∷ 0 ∷ 0x7003 ∷ 0 ∷ 9 ∷ [])
    ∷ case (seen_pair (doing 0x3003 (0x5d ∷ 0x20 ∷ 0x40 ∷ 0x08 ∷ []) (0 ∷ 0 ∷ 9 ∷ 0xb000 ∷ [])))
    (3 ∷ 0xb008 ∷ 0 ∷ 0xa000 ∷ 0 ∷ 0 ∷ 0x7003 ∷ 0 ∷ 9 ∷ [])
    -- 35, 36, 37: SLDA 2,1, over the middle and past the end; SRDA 2,32 of a negative number; SRDA 3,0
    ∷ case (seen_pair (doing 0x3003 (0x8f ∷ 0x20 ∷ 0x00 ∷ 0x01 ∷ []) (0 ∷ 0x40000000 ∷ 0x80000000 ∷ [])))
    (0 ∷ 0 ∷ 1 ∷ 0xa004 ∷ 3 ∷ 0 ∷ 0x7003 ∷ 1 ∷ 0 ∷ [])
    ∷ case (seen_pair (doing 0x3003 (0x8e ∷ 0x20 ∷ 0x00 ∷ 0x20 ∷ []) (0 ∷ 0xfffffffe ∷ 1 ∷ [])))
    (0 ∷ 0 ∷ 1 ∷ 0xa004 ∷ 1 ∷ 0 ∷ 0x7003 ∷ 0xffffffff ∷ 0xfffffffe ∷ [])
    ∷ case (seen_pair (doing 0x3003 (0x8e ∷ 0x30 ∷ 0x00 ∷ 0x00 ∷ []) (0 ∷ 5 ∷ 6 ∷ [])))
    (2 ∷ 0xa000 ∷ 0 ∷ 0xa000 ∷ 0 ∷ 0 ∷ 0x7003 ∷ 5 ∷ 6 ∷ [])
    ∷ []

-- E2: single registers and halfwords
abbrev of_singles : List Case
of_singles =
    -- 38, 39: SLA 1,1 of 40000000; SRA 1,63 of 80000000
    case (seen 10 (doing 0x3003 (0x8b ∷ 0x10 ∷ 0x00 ∷ 0x01 ∷ []) (0x40000000 ∷ []))) (0 ∷ 0 ∷ 1 ∷ 0xa004 ∷ 3 ∷ 0 ∷ 0x7003 ∷ [])
    ∷ case (seen 10 (doing 0x3003 (0x8a ∷ 0x10 ∷ 0x00 ∷ 0x3f ∷ []) (0x80000000 ∷ []))) (0 ∷ 0 ∷ 1 ∷ 0xa004 ∷ 1 ∷ 0xffffffff ∷ 0x7003 ∷ [])
    -- 40 to 43: AH, SH, CH and MH 1,8(2) with the halfword 8000, which is -32,768
    ∷ case (seen 10 (doing 0x3003 (0x4a ∷ 0x10 ∷ 0x20 ∷ 0x08 ∷ 0 ∷ 0 ∷ 0 ∷ 0 ∷ 0x80 ∷ 0 ∷ []) (0x80000000 ∷ 0xa000 ∷ [])))
    (0 ∷ 0 ∷ 1 ∷ 0xa004 ∷ 3 ∷ 0x7fff8000 ∷ 0x7003 ∷ [])
    ∷ case (seen 10 (doing 0x3003 (0x4b ∷ 0x10 ∷ 0x20 ∷ 0x08 ∷ 0 ∷ 0 ∷ 0 ∷ 0 ∷ 0x80 ∷ 0 ∷ []) (1 ∷ 0xa000 ∷ [])))
    (0 ∷ 0 ∷ 1 ∷ 0xa004 ∷ 2 ∷ 0x8001 ∷ 0x7003 ∷ [])
    ∷ case (seen 10 (doing 0x3003 (0x49 ∷ 0x10 ∷ 0x20 ∷ 0x08 ∷ 0 ∷ 0 ∷ 0 ∷ 0 ∷ 0x80 ∷ 0 ∷ []) (0xffff7fff ∷ 0xa000 ∷ [])))
    (0 ∷ 0 ∷ 1 ∷ 0xa004 ∷ 1 ∷ 0xffff7fff ∷ 0x7003 ∷ [])
    ∷ case (seen 10 (doing 0x3003 (0x4c ∷ 0x10 ∷ 0x20 ∷ 0x08 ∷ 0 ∷ 0 ∷ 0 ∷ 0 ∷ 0x80 ∷ 0 ∷ []) (0x20001 ∷ 0xa000 ∷ [])))
    (0 ∷ 0 ∷ 1 ∷ 0xa004 ∷ 0 ∷ 0xffff8000 ∷ 0x7003 ∷ [])
    ∷ []

-- E4: the marks of what a refused instruction fetched
abbrev of_marks : List Case
of_marks =
    -- 44, 45: an operation that is not in the set: G on its page; one that was there already, with W
    case (marks (step_outcome (over_pages 0 [] (0x3003 ∷ []) [] 0xa000))) (5 ∷ 0xa000 ∷ 0 ∷ 0xa000 ∷ 0x7003 ∷ 0 ∷ 0 ∷ 0 ∷ [])
    ∷ case (marks (step_outcome (over_pages 0 [] (0xf003 ∷ []) [] 0xa000))) (5 ∷ 0xa000 ∷ 0 ∷ 0xa000 ∷ 0xf003 ∷ 0 ∷ 0 ∷ 0 ∷ [])
    -- 46: an odd counter in an open page: nothing was fetched
    ∷ case (marks (step_outcome (over_pages 0 [] (0x3003 ∷ []) [] 0xa001))) (2 ∷ 0xa001 ∷ 0 ∷ 0xa001 ∷ 0x3003 ∷ 0 ∷ 0 ∷ 0 ∷ [])
    -- 47: LA at displacement 2,046 of a 2,048-byte page: its second halfword is refused, its first was fetched from that page
    ∷ case (marks (step_outcome (over_pages 2046 (0x41 ∷ 0x10 ∷ []) (0x3403 ∷ []) [] 0xa7fe))) (4 ∷ 0xa800 ∷ 0 ∷ 0xa7fe ∷ 0x7403 ∷ 0 ∷ 0 ∷ 0 ∷ [])
    -- 48, 49: MVC 0(1,1),0(2) at 00AFFE and at 00AFFC, from page 13, which is absent, to page 12: both pages that it was fetched from, not page 12
    ∷ case (marks (step_outcome (over_pages 4094 mvc (0x3003 ∷ 0x3004 ∷ 0x3005 ∷ []) (0xc000 ∷ 0xd000 ∷ []) 0xaffe)))
    (3 ∷ 0xd000 ∷ 0 ∷ 0xaffe ∷ 0x7003 ∷ 0x7004 ∷ 0x3005 ∷ 0 ∷ [])
    ∷ case (marks (step_outcome (over_pages 4092 mvc (0x3003 ∷ 0x3004 ∷ 0x3005 ∷ []) (0xc000 ∷ 0xd000 ∷ []) 0xaffc)))
    (3 ∷ 0xd000 ∷ 0 ∷ 0xaffc ∷ 0x7003 ∷ 0x7004 ∷ 0x3005 ∷ 0 ∷ [])
    -- 50: the same at 00AFFC with page 11 absent: its third halfword is refused
    ∷ case (marks (step_outcome (over_pages 4092 mvc (0x3003 ∷ 0 ∷ 0x3005 ∷ []) (0xc000 ∷ 0xd000 ∷ []) 0xaffc)))
    (3 ∷ 0xb000 ∷ 0 ∷ 0xaffc ∷ 0x7003 ∷ 0 ∷ 0x3005 ∷ 0 ∷ [])
    -- 51: the same at 00AFFE to its own second page: G by the fetch, and no W
    ∷ case (marks (step_outcome (over_pages 4094 mvc (0x3003 ∷ 0x3004 ∷ []) (0xb000 ∷ 0xd000 ∷ []) 0xaffe)))
    (3 ∷ 0xd000 ∷ 0 ∷ 0xaffe ∷ 0x7003 ∷ 0x7004 ∷ 0 ∷ 0 ∷ [])
    -- 52: D 2,0(1) by a word of zeros in page 11
    ∷ case (marks (step_outcome (over_pages 0 (0x5d ∷ 0x20 ∷ 0x10 ∷ 0x00 ∷ []) (0x3003 ∷ 0x3004 ∷ []) (0xb000 ∷ 0 ∷ 9 ∷ []) 0xa000)))
    (8 ∷ 0xa000 ∷ 0 ∷ 0xa000 ∷ 0x7003 ∷ 0x3004 ∷ 0 ∷ 0 ∷ [])
    -- 53, 54: LA at 00AFFC, and behind it in page 11 no operation of the set: the run's own marks, and those of what was refused; with a
    -- budget of 1 it is not tried
    ∷ case (marks (run_outcome 9 (over_pages 4092 (0x41 ∷ 0x10 ∷ 0x00 ∷ 0x05 ∷ []) (0x3003 ∷ 0x3004 ∷ []) [] 0xaffc)))
    (5 ∷ 0xb000 ∷ 1 ∷ 0xb000 ∷ 0x7003 ∷ 0x7004 ∷ 0 ∷ 0 ∷ [])
    ∷ case (marks (run_outcome 1 (over_pages 4092 (0x41 ∷ 0x10 ∷ 0x00 ∷ 0x05 ∷ []) (0x3003 ∷ 0x3004 ∷ []) [] 0xaffc)))
    (7 ∷ 0 ∷ 1 ∷ 0xb000 ∷ 0x7003 ∷ 0x3004 ∷ 0 ∷ 0 ∷ [])
    ∷ []
  where
    mvc : List ℕ
    mvc = 0xd2 ∷ 0x00 ∷ 0x10 ∷ 0x00 ∷ 0x20 ∷ 0x00 ∷ []

-- E5: how far a look-up reaches
abbrev of_reach : List Case
of_reach =
    -- 55 to 58: word 3003, displacement 0, 2,047, 2,048 and 4,095
    case (looked 10 0x3003 0xa000) (0 ∷ 12288 ∷ 4096 ∷ [])
    ∷ case (looked 10 0x3003 0xa7ff) (0 ∷ 14335 ∷ 2049 ∷ [])
    ∷ case (looked 10 0x3003 0xa800) (0 ∷ 14336 ∷ 2048 ∷ [])
    ∷ case (looked 10 0x3003 0xafff) (0 ∷ 16383 ∷ 1 ∷ [])
    -- 59, 60: word 3403, displacement 0 and 4,095 (2,047 and 2,048 are 3 and 4)
    ∷ case (looked 10 0x3403 0xa000) (0 ∷ 12288 ∷ 2048 ∷ [])
    ∷ case (looked 10 0x3403 0xafff) (4 ∷ 0xafff ∷ [])
    -- 61, 62: word 3603, displacement 2,047 and 2,048 (0 is 5)
    ∷ case (looked 10 0x3603 0xa7ff) (0 ∷ 16383 ∷ 1 ∷ [])
    ∷ case (looked 10 0x3603 0xa800) (4 ∷ 0xa800 ∷ [])
    -- 63: word 3203: H is ignored when M is reset
    ∷ case (looked 10 0x3203 0xa000) (0 ∷ 12288 ∷ 4096 ∷ [])
    -- 64: memory's last byte is the page's last
    ∷ case (looked 10 0x300f 0xafff) (0 ∷ 65535 ∷ 1 ∷ [])
    -- 65 to 68: memory ends within the page: two bytes before its end, at its last byte, behind it; and within an upper half
    ∷ case (looked_for Load 61450 10 0x300f 0xa008) (0 ∷ 61448 ∷ 2 ∷ [])
    ∷ case (looked_for Load 61450 10 0x300f 0xa009) (0 ∷ 61449 ∷ 1 ∷ [])
    ∷ case (looked_for Load 61450 10 0x300f 0xa00a) (1 ∷ 0xa00a ∷ [])
    ∷ case (looked_for Load 63500 10 0x360f 0xa000) (0 ∷ 63488 ∷ 12 ∷ [])
    -- 69 to 71: word 3803: fetched from and loaded from to the page's end, not stored to
    ∷ case (looked_for Fetch 65536 10 0x3803 0xa010) (0 ∷ 12304 ∷ 4080 ∷ [])
    ∷ case (looked_for Load 65536 10 0x3803 0xa010) (0 ∷ 12304 ∷ 4080 ∷ [])
    ∷ case (looked_for Store 65536 10 0x3803 0xa010) (4 ∷ 0xa010 ∷ [])
    -- 72: page 511, its first byte (its last, and the address behind it, stand among the checks above)
    ∷ case (looked 511 0x3003 0x1ff000) (0 ∷ 12288 ∷ 4096 ∷ [])
    ∷ []

abbrev cases : List Case
cases = starred ++ unstarred ++ beside ++ of_pairs ++ of_singles ++ of_marks ++ of_reach

-- the places, from n on, of the cases whose answer is not the expected one
abbrev failing : ℕ → List Case → List ℕ
failing n [] = []
failing n (c ∷ cs) = let rest = failing (suc n) cs in pick (same c.answer c.expected) rest (n ∷ rest)

all_pass : failing 0 cases ≡ []
unfolding computes
all_pass = refl
