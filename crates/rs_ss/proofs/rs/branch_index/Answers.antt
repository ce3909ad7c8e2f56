use mathlib.Core.Bool.{Bool, true, false, beq}
use mathlib.Core.Path.{◌≡◌, refl, ap}
use Rattle.std.specs.Prelude.{not}
use Rattle.words.specs.Pick.{pick}
use Rattle.code.specs.declared.RsFields.{RsFields}
use Rattle.code.specs.declared.RsAction.TheVariants.{BranchHigh, BranchLowEqual}
use Rattle.machine.specs.Prog.{done}
use Rattle.machine.specs.Cpu.{Cpu, with_reg, onward}
use Rattle.machine.specs.Branches.{going}
use Rattle.machine.specs.Rs.{rs, rs_address, index_sum, is_high}
use Rattle.rs_ss.proofs.rs.branch_index.Goals as goal

is_true : (b : Bool) → b ≡ beq b true
is_true true = refl
is_true false = refl

is_false : (b : Bool) → not b ≡ beq b false
is_false true = refl
is_false false = refl

-- the two differ in the test alone
either : (high : Bool) (f : RsFields) (c : Cpu)
    → rs (pick high BranchHigh BranchLowEqual) f c
    ≡ done (going (beq (is_high f c) high) (rs_address f c) (with_reg (onward c 4) f.r1 (index_sum f c)))
unfolding rs
either true f c = ap (λ (b : Bool). done (going b (rs_address f c) (with_reg (onward c 4) f.r1 (index_sum f c)))) (is_true (is_high f c))
either false f c = ap (λ (b : Bool). done (going b (rs_address f c) (with_reg (onward c 4) f.r1 (index_sum f c)))) (is_false (is_high f c))

pub is_high-is-requires : goal.is_high-is-requires
is_high-is-requires c = c.index_sum-sum.ensures

pub returns : goal.returns
returns c = rw (either, ← c.operand_address-to.ensures, ← c.index_sum-sum.ensures, ← c.is_high-is.ensures, ← c.put_reg.ensures, ← c.ahead_of-next.ensures) (ap done c.go.ensures)
