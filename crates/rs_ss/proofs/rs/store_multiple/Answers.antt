use native.Mathlib.Omega.{arith}
use Rattle.std.proofs.lemmas.Result.{err_from_is_err_and}
use mathlib.Core.Path.{refl}
use Rattle.machine.specs.Rs.{rs}
use Rattle.actions.proofs.Executed.{operand_off, operand_stop, operand_go}
use Rattle.rs_ss.proofs.Multiples.{spills_done}
use Rattle.rs_ss.proofs.MultiplesReached.{words_inside, words_spilled, words_clear}
use Rattle.rs_ss.proofs.rs.store_multiple.Goals as goal

pub returns-then-at-ne0 : goal.returns-then-at-ne0
unfolding rs
returns-then-at-ne0 c = rw (← c.operand_address-at.ensures) (operand_off _ _ _ _ _ _ _ _ _ c.if-at-ne0.true)

pub returns-in_err-found : goal.returns-in_err-found
unfolding rs
returns-in_err-found c = let p = err_from_is_err_and c.from_residual.result c.from_residual.ensures.1 in rw (p.1, ← c.operand_address-at.ensures, ← c.how_many-count.ensures.0) (operand_stop _ _ _ _ _ _ _ _ _ tt c.if-at-ne0.false _ c.look_one.ensures _ _ (omega (arith, c.how_many-count.ensures.0)) p.2 c.in_err-found.was)

pub spill_at-requires : goal.spill_at-requires
spill_at-requires c = words_inside c.args.mem.now _ _ _ _ _ _ _ c.look_one.ensures c.in_ok-found.was c.if-count-found.true

pub returns-then-count-found : goal.returns-then-count-found
unfolding rs
returns-then-count-found c = rw (← c.operand_address-at.ensures, ← c.how_many-count.ensures.0, ← c.ahead_of-next.ensures) (operand_go _ _ _ _ _ _ _ _ _ tt c.if-at-ne0.false _ c.look_one.ensures _ _ _ _ _ _ c.in_ok-found.was c.note_field.ensures (spills_done _ _ _ _ _ _ _ _ _ _ (words_spilled c.args.mem.now _ _ _ _ _ _ c.look_one.ensures c.in_ok-found.was c.if-count-found.true _ c.note_field.ensures (omega (arith, c.how_many-count.ensures.0)) _ _ _ _ c.spill_at.ensures c.note_written.ensures) refl))

pub spill-requires : goal.spill-requires
spill-requires c = (omega (arith, c.if-at-ne0.false), words_clear _ _ _ _ _ _ _ _ c.look_one.ensures c.in_ok-found.was _ c.note_field.ensures)

pub returns-else-count-found : goal.returns-else-count-found
unfolding rs
returns-else-count-found c = rw (← c.operand_address-at.ensures, ← c.how_many-count.ensures.0, ← c.ahead_of-next.ensures) (operand_go _ _ _ _ _ _ _ _ _ tt c.if-at-ne0.false _ c.look_one.ensures _ _ _ _ _ _ c.in_ok-found.was c.note_field.ensures (spills_done _ _ _ _ _ _ _ _ _ _ c.spill.ensures refl))
