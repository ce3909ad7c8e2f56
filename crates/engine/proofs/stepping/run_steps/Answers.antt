use native.Mathlib.Omega.{arith}
use mathlib.Core.Path.{refl, sym, ◌∙◌}
use Rattle.engine.proofs.Runs.{run_start, run_further, run_on, run_stop, run_spent}
use Rattle.engine.proofs.stepping.run_steps.Goals as goal

pub loop-left-init : goal.loop-left-init
loop-left-init c = (run_start _ _ _, omega arith, refl, refl, refl)

pub overflow_sub-result : goal.overflow_sub-result
overflow_sub-result c = omega (arith, c.hurry-spun.ensures.most)

pub shape_of-regs-in-Err : goal.shape_of-regs-in-Err
shape_of-regs-in-Err c = c.step_once-out.auto.regs ∙ c.hurry-spun.auto.regs ∙ c.loop-left.invariant.2

pub shape_of-mem-in-Err : goal.shape_of-mem-in-Err
shape_of-mem-in-Err c = c.step_once-out.auto.mem ∙ c.hurry-spun.auto.mem ∙ c.loop-left.invariant.3

pub shape_of-map-in-Err : goal.shape_of-map-in-Err
shape_of-map-in-Err c = c.step_once-out.auto.map ∙ c.hurry-spun.auto.map ∙ c.loop-left.invariant.4

pub returns-in-Err : goal.returns-in-Err
returns-in-Err c = (run_stop _ _ _ _ _ _ (c.hurry-spun.ensures.stays c.if-spun.true c.loop-left-test.true) _ _ _ _ _ c.step_once-out.ensures c.in-Err.is ∙ sym (run_further _ _ _ c.loop-left.invariant.1 c.hurry-spun.ensures.most _ _ _ c.loop-left.invariant.0 c.hurry-spun.ensures.so_far), omega arith)

pub overflow_sub-left : goal.overflow_sub-left
overflow_sub-left c = omega (arith, c.hurry-spun.ensures.stays c.if-spun.true c.loop-left-test.true)

pub loop-left-smaller-in-Ok : goal.loop-left-smaller-in-Ok
loop-left-smaller-in-Ok c = omega (arith, c.hurry-spun.ensures.most, c.hurry-spun.ensures.stays c.if-spun.true c.loop-left-test.true)

pub loop-left-preserved-in-Ok : goal.loop-left-preserved-in-Ok
loop-left-preserved-in-Ok c = (run_further _ _ _ c.loop-left.invariant.1 c.hurry-spun.ensures.most _ _ _ c.loop-left.invariant.0 c.hurry-spun.ensures.so_far ∙ run_on _ _ _ _ _ _ (c.hurry-spun.ensures.stays c.if-spun.true c.loop-left-test.true) (omega (arith, c.loop-left.invariant.1, c.hurry-spun.ensures.most)) _ _ _ _ _ c.step_once-out.ensures c.in-Ok.is, omega (arith, c.loop-left.invariant.1, c.hurry-spun.ensures.most), c.step_once-out.auto.regs ∙ c.hurry-spun.auto.regs ∙ c.loop-left.invariant.2, c.step_once-out.auto.mem ∙ c.hurry-spun.auto.mem ∙ c.loop-left.invariant.3, c.step_once-out.auto.map ∙ c.hurry-spun.auto.map ∙ c.loop-left.invariant.4)

pub loop-left-smaller : goal.loop-left-smaller
loop-left-smaller c = c.hurry-spun.ensures.goes c.if-spun.false c.loop-left-test.true

pub loop-left-preserved : goal.loop-left-preserved
loop-left-preserved c = (run_further _ _ _ c.loop-left.invariant.1 c.hurry-spun.ensures.most _ _ _ c.loop-left.invariant.0 c.hurry-spun.ensures.so_far, omega (arith, c.loop-left.invariant.1, c.hurry-spun.ensures.most), c.hurry-spun.auto.regs ∙ c.loop-left.invariant.2, c.hurry-spun.auto.mem ∙ c.loop-left.invariant.3, c.hurry-spun.auto.map ∙ c.loop-left.invariant.4)

pub overflow_sub-result-2 : goal.overflow_sub-result-2
overflow_sub-result-2 c = c.loop-left.invariant.1

pub shape_of-regs : goal.shape_of-regs
shape_of-regs c = c.loop-left.invariant.2

pub shape_of-mem : goal.shape_of-mem
shape_of-mem c = c.loop-left.invariant.3

pub shape_of-map : goal.shape_of-map
shape_of-map c = c.loop-left.invariant.4

pub returns : goal.returns
returns c = (run_spent _ _ _ _ _ _ c.loop-left-test.false ∙ sym c.loop-left.invariant.0, omega arith)
