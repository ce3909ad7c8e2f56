use Rattle.std.proofs.lemmas.Result.{err_from_is_err_and}
use Rattle.pages.specs.declared.Access.TheVariants.{Load}
use Rattle.actions.proofs.Executed.{operand_off, operand_stop, operand_go, loaded, taken_done, taken_at_lem}
use Rattle.fields.proofs.Widths.{room_of}
use Rattle.fields.proofs.Found.{off_is, on_is, len_is, width_some, aligned_fits, found_inside, found_read, found_note}
use Rattle.machine.specs.Rx.{rx}
use Rattle.machine.specs.Fields.{loading, bytes_of}
use mathlib.Core.Path.{ap}
use Rattle.rx_si.proofs.rx.load.Goals as goal

pub returns-then-is_off : goal.returns-then-is_off
unfolding rx loading
returns-then-is_off c = rw (← c.width_of-width.ensures, ← c.operand_address-at.ensures) (operand_off _ _ _ _ _ _ _ _ _ (off_is _ _ c.is_off.ensures c.if-is_off.true))

pub look_operand-requires : goal.look_operand-requires
look_operand-requires c = rw c.bytes_of.ensures.0 (aligned_fits c.width_of-width.result _ (on_is _ _ c.is_off.ensures c.if-is_off.false))

pub returns-in_err-found : goal.returns-in_err-found
unfolding rx loading
returns-in_err-found c = let p = err_from_is_err_and c.from_residual.result c.from_residual.ensures.1 in rw p.1 (rw (← c.width_of-width.ensures, ← c.operand_address-at.ensures) (operand_stop _ _ _ _ _ _ _ _ _ tt (on_is _ _ c.is_off.ensures c.if-is_off.false) _ (len_is _ _ _ _ _ _ _ c.look_operand.ensures c.bytes_of.ensures.0) _ _ (width_some c.width_of-width.result) p.2 c.in_err-found.was))

pub take-result-requires : goal.take-result-requires
take-result-requires c = room_of c.width_of-width.result _ c.width_of-width.ensures _ _ (found_inside (c.args.mem.now) _ Load _ _ _ _ _ (len_is _ _ _ _ _ _ _ c.look_operand.ensures c.bytes_of.ensures.0) c.in_ok-found.was (width_some c.width_of-width.result) (aligned_fits c.width_of-width.result _ (on_is _ _ c.is_off.ensures c.if-is_off.false)))

pub returns : goal.returns
unfolding rx loading
returns c = rw (← c.width_of-width.ensures, ← c.operand_address-at.ensures) (operand_go _ _ _ _ _ _ _ _ _ tt (on_is _ _ c.is_off.ensures c.if-is_off.false) _ (len_is _ _ _ _ _ _ _ c.look_operand.ensures c.bytes_of.ensures.0) _ _ _ _ _ _ c.in_ok-found.was (found_note (c.args.mem.now) _ Load _ _ _ _ _ (len_is _ _ _ _ _ _ _ c.look_operand.ensures c.bytes_of.ensures.0) c.in_ok-found.was (width_some c.width_of-width.result) (aligned_fits c.width_of-width.result _ (on_is _ _ c.is_off.ensures c.if-is_off.false)) _ c.mark.ensures) (loaded _ _ _ _ _ _ _ (taken_done _ _ _ _ _ _ _ _ _ _ _ (ap bytes_of c.width_of-width.ensures) (taken_at_lem _ c.width_of-width.result _ _ _ _ (c.args.mem.now) _ _ c.width_of-width.ensures c.take-result.ensures (found_read (c.args.mem.now) _ Load _ _ _ _ _ (len_is _ _ _ _ _ _ _ c.look_operand.ensures c.bytes_of.ensures.0) c.in_ok-found.was (width_some c.width_of-width.result) (aligned_fits c.width_of-width.result _ (on_is _ _ c.is_off.ensures c.if-is_off.false)) _ (found_note (c.args.mem.now) _ Load _ _ _ _ _ (len_is _ _ _ _ _ _ _ c.look_operand.ensures c.bytes_of.ensures.0) c.in_ok-found.was (width_some c.width_of-width.result) (aligned_fits c.width_of-width.result _ (on_is _ _ c.is_off.ensures c.if-is_off.false)) _ c.mark.ensures))) c.reg.ensures c.put_reg.ensures c.ahead_of-next.ensures)))
