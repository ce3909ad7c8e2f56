use Rattle.std.proofs.Common.{get_or, sym, refl, ◌∙◌, arith, length-set}
use Rattle.fields.proofs.ByteLoops.{none_done, one_done, some_left, all_done}
use Rattle.fields.proofs.FlatLoops.{flat_move_turn, flat_move_none}
use Rattle.fields.proofs.blocks.move_on.Goals as goal

pub loop-init : goal.loop-init
loop-init c = (rw (none_done c.args.len) refl, refl, omega arith, omega arith)

pub loop-preserved : goal.loop-preserved
loop-preserved c = (
  rw (one_done c.args.len c.loop.counter) (c.loop.invariant.0 ∙ flat_move_turn _ _ _ _ (some_left _ _ c.loop-test.true)),
  length-set c.loop.mem c.loop.a (get_or c.loop.mem c.loop.b 0) ∙ c.loop.invariant.1,
  omega (arith, c.loop.invariant.2),
  omega (arith, c.loop.invariant.3),
)

pub returns : goal.returns
returns c = sym (c.loop.invariant.0 ∙ flat_move_none _ _ _ _ (all_done _ _ c.loop-test.false))
