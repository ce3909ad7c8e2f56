use native.Mathlib.Omega.{arith}
use mathlib.Core.Path.{refl, sym, ◌∙◌}
use Rattle.fields.proofs.Pieces.{less}
use Rattle.rs_ss.specs.Multiple.{filled}
use Rattle.rs_ss.proofs.RegisterLoops.{words_none}
use Rattle.rs_ss.proofs.MultiplesReached.{fill_on, never_refused, piece, piece_inside, piece_small, piece_on}
use Rattle.rs_ss.proofs.rs.fill.Goals as goal

pub loop-left-init : goal.loop-left-init
loop-left-init c = (refl, refl, c.requires.0, c.requires.1)

pub shape_of-regs-in_default : goal.shape_of-regs-in_default
shape_of-regs-in_default c = c.loop-left.invariant.1

pub returns-in_default : goal.returns-in_default
returns-in_default c = absurd (never_refused _ _ _ _ _ c.loop-left.invariant.2 c.loop-left.invariant.3 c.loop-left-test.true _ c.look_up.ensures _ _ c.in_default.is)

pub fill_at-requires : goal.fill_at-requires
fill_at-requires c = piece_inside _ _ _ _ _ c.loop-left.invariant.2 c.loop-left.invariant.3 c.loop-left-test.true _ _ _ (sym c.look_up.ensures ∙ c.in-Ok.is) c.fewer_of-n.ensures

pub overflow_mul-n : goal.overflow_mul-n
overflow_mul-n c = omega (arith, piece_small _ _ _ _ _ c.loop-left.invariant.2 c.loop-left.invariant.3 c.loop-left-test.true _ _ _ (sym c.look_up.ensures ∙ c.in-Ok.is) c.fewer_of-n.ensures)

pub overflow_sub-left : goal.overflow_sub-left
overflow_sub-left c = (piece _ _ _ _ _ c.loop-left.invariant.2 c.loop-left.invariant.3 c.loop-left-test.true _ _ _ (sym c.look_up.ensures ∙ c.in-Ok.is) c.fewer_of-n.ensures).1

pub loop-left-smaller : goal.loop-left-smaller
loop-left-smaller c = let p = piece _ _ _ _ _ c.loop-left.invariant.2 c.loop-left.invariant.3 c.loop-left-test.true _ _ _ (sym c.look_up.ensures ∙ c.in-Ok.is) c.fewer_of-n.ensures in less p.0 p.1

pub loop-left-preserved : goal.loop-left-preserved
loop-left-preserved c = let e = sym c.look_up.ensures ∙ c.in-Ok.is in let p = piece _ _ _ _ _ c.loop-left.invariant.2 c.loop-left.invariant.3 c.loop-left-test.true _ _ _ e c.fewer_of-n.ensures in let o = piece_on _ _ _ _ _ c.loop-left.invariant.2 c.loop-left.invariant.3 c.loop-left-test.true _ _ _ e c.fewer_of-n.ensures in (rw (c.reg_past-r.ensures, c.past_of-a.ensures) (c.loop-left.invariant.0 ∙ fill_on _ _ _ _ _ e _ _ _ _ _ p.0 p.1 p.2 c.fill_at.ensures), c.fill_at.auto.regs ∙ c.loop-left.invariant.1, rw c.past_of-a.ensures o.0, rw c.past_of-a.ensures o.1)

pub shape_of-regs : goal.shape_of-regs
shape_of-regs c = c.loop-left.invariant.1

pub returns : goal.returns
unfolding filled
returns c = sym (c.loop-left.invariant.0 ∙ words_none _ _ _ _ _ _ c.loop-left-test.false)
