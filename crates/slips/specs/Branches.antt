-- Slips in branches and in the link. All are of `engine::step`.
use Rattle.std.specs.Prelude.{◌+◌, ◌*◌, ◌/◌, ◌%◌, ◌^◌, true, not, List, [], ◌∷◌, eqb, ltb}
use Rattle.std.specs.Int.Signed.{lt_z}
use Rattle.words.specs.Whole.{word_top, signed}
use Rattle.code.specs.declared.Branch.TheVariants.{OnCount}
use Rattle.code.specs.declared.RrFields.{RrFields}
use Rattle.code.specs.declared.RxFields.{RxFields}
use Rattle.code.specs.declared.RsFields.{RsFields}
use Rattle.machine.specs.Prog.{Prog, done}
use Rattle.machine.specs.Cpu.{Cpu, with_reg, with_pc, onward, ahead, target}
use Rattle.machine.specs.Branches.{going, link, branch}
use Rattle.machine.specs.Rx.{rx_address}
use Rattle.machine.specs.Rs.{rs_address, index_sum, comparand}
use Rattle.slips.specs.Row.{Row}
use Rattle.slips.specs.Seen.{lone, operation, as_rr, as_rx, as_rs}

-- BALR that stores the link before it reads the target
abbrev link_first : RrFields → Cpu → Prog Cpu
link_first f c =
    let linked = with_reg (onward c 2) f.r1 (link c 2) in
    done (going (ltb 0 f.r2) (target linked f.r2) linked)

-- BAL whose link has the instruction's length in bytes
abbrev length_in_bytes : RxFields → Cpu → Prog Cpu
length_in_bytes f c =
    let word_top = (4 * 1073741824 + c.code * 268435456 + c.mask * 16777216 + ahead c 4) % 4294967296 in
    done (with_pc (with_reg c f.r1 word_top) (rx_address f c))

-- BCTR that branches through register 0
abbrev through_zero : RrFields → Cpu → Prog Cpu
through_zero f c = done (branch OnCount 2 f.r1 (target c f.r2) true c)

-- BC whose mask is read from the right
abbrev from_the_right : RxFields → Cpu → Prog Cpu
from_the_right f c = done (going (eqb (f.r1 / 2 ^ c.code % 2) 1) (rx_address f c) (onward c 4))

-- BXLE whose comparand is read after the sum is stored
abbrev sum_first : RsFields → Cpu → Prog Cpu
sum_first f c =
    let stored = with_reg (onward c 4) f.r1 (index_sum f c) in
    done (going (not (lt_z (signed word_top (comparand f stored)) (signed word_top (index_sum f c)))) (rs_address f c) stored)

-- BXLE whose compare is logical
abbrev logical_compare : RsFields → Cpu → Prog Cpu
logical_compare f c =
    done (going (not (ltb (comparand f c) (index_sum f c))) (rs_address f c) (with_reg (onward c 4) f.r1 (index_sum f c)))

abbrev pub slips : List Row
slips =
    -- BALR 1,1
    operation "BALR storing the link before reading the target" 0x05 (as_rr link_first)
    (lone (0x05 ∷ 0x11 ∷ []) (0 ∷ 0xc000 ∷ [])) 0xc000 0xa002
    -- BAL 1,0(2)
    ∷ operation "BAL's length code in bytes" 0x45 (as_rx length_in_bytes)
    (lone (0x45 ∷ 0x10 ∷ 0x20 ∷ 0 ∷ []) (0 ∷ 0 ∷ 0xc000 ∷ [])) 0x8000a004 0xa004
    -- BCTR 1,0
    ∷ operation "BCTR branching through register 0" 0x06 (as_rr through_zero) (lone (0x06 ∷ 0x10 ∷ []) (0xc000 ∷ 5 ∷ [])) 0xa002 0xc000
    -- BC 8,0(2)
    ∷ operation "branch mask from the right" 0x47 (as_rx from_the_right)
    (lone (0x47 ∷ 0x80 ∷ 0x20 ∷ 0 ∷ []) (0 ∷ 0 ∷ 0xc000 ∷ [])) 0xc000 0xa004
    -- BXLE 5,4,0(2), where R1 itself is compared with: 5 and 1 against 5
    ∷ operation "BXLE comparand read after the sum is stored" 0x87 (as_rs sum_first)
    (lone (0x87 ∷ 0x54 ∷ 0x20 ∷ 0 ∷ []) (0 ∷ 0 ∷ 0xc000 ∷ 0 ∷ 1 ∷ 5 ∷ [])) 0xa004 0xc000
    -- BXLE 3,4,0(2): -1 and 0 against 1
    ∷ operation "BXLE with a logical compare" 0x87 (as_rs logical_compare)
    (lone (0x87 ∷ 0x34 ∷ 0x20 ∷ 0 ∷ []) (0 ∷ 0 ∷ 0xc000 ∷ 0xffffffff ∷ 0 ∷ 1 ∷ [])) 0xc000 0xa004
    ∷ []
