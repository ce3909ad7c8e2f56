use mathlib.Core.Path.{◌≡◌, refl}
use Rattle.words.specs.declared.Direction.{Direction}
use Rattle.words.specs.declared.Direction.TheVariants.{Left, Right}
use Rattle.code.specs.declared.RsFields.{RsFields}
use Rattle.machine.specs.Prog.{done}
use Rattle.machine.specs.Cpu.{Cpu, reg, with_reg, onward}
use Rattle.machine.specs.Rs.{rs, rs_address}
use Rattle.rs_ss.specs.Logical.{logical_shift, shifted}
use Rattle.rs_ss.proofs.rs.shift_logical.Goals as goal

-- the two differ in the word alone
either : (to : Direction) (f : RsFields) (c : Cpu)
    → rs (logical_shift to) f c ≡ done (with_reg (onward c 4) f.r1 (shifted to (reg c f.r1) (rs_address f c)))
unfolding rs
either Left f c = refl
either Right f c = refl

pub returns : goal.returns
unfolding reg
returns c = rw (either, ← c.operand_address-amount.ensures, ← c.reg.ensures, ← c.shifted-v.ensures, ← c.put_reg.ensures, ← c.ahead_of-next.ensures)
