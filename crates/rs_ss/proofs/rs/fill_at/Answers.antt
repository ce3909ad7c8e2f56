use native.Mathlib.Omega.{arith}
use mathlib.Core.Path.{sym, ◌∙◌}
use Rattle.fields.proofs.ByteLoops.{one_done, some_left, all_done}
use Rattle.rs_ss.specs.Multiple.{filled_at}
use Rattle.rs_ss.proofs.RegisterLoops.{words_turn, words_none}
use Rattle.rs_ss.proofs.rs.fill_at.Goals as goal

pub loop-preserved : goal.loop-preserved
unfolding filled_at
loop-preserved c = (rw (one_done c.args.count c.loop.counter, c.put_reg.ensures, c.word_of.ensures, c.next_reg-r.ensures) (c.loop.invariant.0 ∙ words_turn _ _ _ _ _ _ (some_left _ _ c.loop-test.true)), c.put_reg.auto.regs ∙ c.loop.invariant.1, omega (arith, c.loop.invariant.2, c.loop-test.true))

pub returns : goal.returns
unfolding filled_at
returns c = sym (c.loop.invariant.0 ∙ words_none _ _ _ _ _ _ (all_done _ _ c.loop-test.false))
