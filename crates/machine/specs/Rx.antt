-- Actions of the RX format: a register and a storage operand at index + base + displacement.
use Rattle.std.specs.Prelude.{ℕ, ◌+◌, ◌*◌, ◌/◌, true}
use Rattle.words.specs.declared.Res.{Res}
use Rattle.words.specs.Whole.{spread}
use Rattle.words.specs.Combine.{combine_of, result_of}
use Rattle.words.specs.Wide.{pair_of}
use Rattle.code.specs.declared.Operand.{Operand}
use Rattle.code.specs.declared.Operand.TheVariants.{WordWith, HalfWith, ByteInserted}
use Rattle.code.specs.declared.Width.{Width}
use Rattle.code.specs.declared.Width.TheVariants.{Word, Half, Byte}
use Rattle.code.specs.declared.RxFields.{RxFields}
use Rattle.code.specs.declared.RxAction.{RxAction}
use Rattle.code.specs.declared.RxAction.TheVariants.{Taking, Storing, LoadAddress, AddressBranch, PairAndWord}
use Rattle.machine.specs.Prog.{Prog, done}
use Rattle.machine.specs.Fields.{bytes_of, loading, storing}
use Rattle.machine.specs.Cpu.{Cpu, reg, with_reg, with_res, onward, address}
use Rattle.machine.specs.Pairs.{pair, even_only, into_pair}
use Rattle.machine.specs.Branches.{branch}

-- how wide the operand of a load is
abbrev pub width_of : Operand → Width
width_of (WordWith op) = Word
width_of (HalfWith op) = Half
width_of ByteInserted = Byte

-- what a load makes of register a and operand v, with the code as it was
unfoldable pub taken : Operand → ℕ → ℕ → ℕ → Res ℕ
-- L A S C AL SL CL N O X
taken (WordWith op) a v cc = combine_of op a v cc
-- LH AH SH CH MH: the sign is spread
taken (HalfWith op) a v cc = combine_of op a (spread v) cc
-- IC: L5005. The other 24 bits stay
taken ByteInserted a v cc = result_of (a / 256 * 256 + v) cc

-- the operand's address
abbrev pub rx_address : RxFields → Cpu → ℕ
rx_address f c = address c f.x2 f.b2 f.d2

unfoldable pub rx : RxAction → RxFields → Cpu → Prog Cpu
rx (Taking op) f c =
    loading (bytes_of (width_of op)) (rx_address f c)
    (λ v. done (with_res (onward c 4) f.r1 (taken op (reg c f.r1) v c.code)))
-- ST STH STC: the low bytes of the register
rx (Storing w) f c = storing (bytes_of w) (rx_address f c) (reg c f.r1) (done (onward c 4))
-- LA: L5056. Nothing is looked up
rx LoadAddress f c = done (with_reg (onward c 4) f.r1 (rx_address f c))
-- BC BAL BCT
rx (AddressBranch b) f c = done (branch b 4 f.r1 (rx_address f c) true c)
-- M D: R1, then the operand's boundary and its look-up, then, of D, whether it divides
rx (PairAndWord op) f c =
    even_only f.r1 c
    (loading 4 (rx_address f c) (λ v. into_pair (pair_of op (pair c f.r1) v) 4 f.r1 c))
