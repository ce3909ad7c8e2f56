use Rattle.std.proofs.lemmas.Result.{err_from_is_err_and}
use Rattle.pages.specs.declared.Access.TheVariants.{Store}
use Rattle.actions.proofs.Executed.{operand_off, operand_stop, operand_go, stored}
use Rattle.fields.proofs.Found.{off_is, on_is, len_is, width_some, aligned_fits, found_inside, found_write, found_note}
use Rattle.machine.specs.Rx.{rx}
use Rattle.machine.specs.Cpu.{reg}
use Rattle.machine.specs.Fields.{storing}
use mathlib.Core.Path.{refl}
use Rattle.rx_si.proofs.rx.store.Goals as goal

pub returns-then-is_off : goal.returns-then-is_off
unfolding rx storing
returns-then-is_off c = rw (← c.operand_address-at.ensures) (operand_off _ _ _ _ _ _ _ _ _ (off_is _ _ c.is_off.ensures c.if-is_off.true))

pub look_operand-requires : goal.look_operand-requires
look_operand-requires c = rw c.bytes_of.ensures.0 (aligned_fits c.args.width _ (on_is _ _ c.is_off.ensures c.if-is_off.false))

pub returns-in_err-found : goal.returns-in_err-found
unfolding rx storing
returns-in_err-found c = let p = err_from_is_err_and c.from_residual.result c.from_residual.ensures.1 in rw p.1 (rw (← c.operand_address-at.ensures) (operand_stop _ _ _ _ _ _ _ _ _ tt (on_is _ _ c.is_off.ensures c.if-is_off.false) _ (len_is _ _ _ _ _ _ _ c.look_operand.ensures c.bytes_of.ensures.0) _ _ (width_some c.args.width) p.2 c.in_err-found.was))

pub put_field-requires : goal.put_field-requires
put_field-requires c = found_inside (c.args.mem.now) _ Store _ _ _ _ _ (len_is _ _ _ _ _ _ _ c.look_operand.ensures c.bytes_of.ensures.0) c.in_ok-found.was (width_some c.args.width) (aligned_fits c.args.width _ (on_is _ _ c.is_off.ensures c.if-is_off.false))

pub returns : goal.returns
unfolding rx storing reg
returns c = rw (← c.operand_address-at.ensures, ← c.reg.ensures, ← c.ahead_of.ensures) (operand_go _ _ _ _ _ _ _ _ _ tt (on_is _ _ c.is_off.ensures c.if-is_off.false) _ (len_is _ _ _ _ _ _ _ c.look_operand.ensures c.bytes_of.ensures.0) _ _ _ _ _ _ c.in_ok-found.was (found_note (c.args.mem.now) _ Store _ _ _ _ _ (len_is _ _ _ _ _ _ _ c.look_operand.ensures c.bytes_of.ensures.0) c.in_ok-found.was (width_some c.args.width) (aligned_fits c.args.width _ (on_is _ _ c.is_off.ensures c.if-is_off.false)) _ refl) (stored _ _ _ _ _ _ _ _ _ (found_write (c.args.mem.now) _ _ _ _ _ _ (len_is _ _ _ _ _ _ _ c.look_operand.ensures c.bytes_of.ensures.0) c.in_ok-found.was (width_some c.args.width) (aligned_fits c.args.width _ (on_is _ _ c.is_off.ensures c.if-is_off.false)) _ _ _ _ (found_note (c.args.mem.now) _ Store _ _ _ _ _ (len_is _ _ _ _ _ _ _ c.look_operand.ensures c.bytes_of.ensures.0) c.in_ok-found.was (width_some c.args.width) (aligned_fits c.args.width _ (on_is _ _ c.is_off.ensures c.if-is_off.false)) _ refl) c.put_field.ensures c.mark.ensures) refl))
