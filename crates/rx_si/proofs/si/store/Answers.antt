use Rattle.std.proofs.lemmas.Result.{err_from_is_err_and}
use Rattle.pages.specs.declared.Access.TheVariants.{Store}
use Rattle.actions.proofs.Executed.{byte_no, byte_yes}
use Rattle.fields.proofs.Found.{byte_inside, byte_write}
use Rattle.machine.specs.Si.{si}
use Rattle.machine.specs.Prog.{interp}
use mathlib.Core.Path.{refl}
use Rattle.rx_si.proofs.si.store.Goals as goal

pub returns-in_err-found : goal.returns-in_err-found
unfolding si
returns-in_err-found c = let p = err_from_is_err_and c.from_residual.result c.from_residual.ensures.1 in rw p.1 (rw (← c.operand_address-at.ensures) (byte_no _ _ _ _ _ tt _ _ _ c.look_up.ensures _ _ p.2 c.in_err-found.was))

pub put_byte-requires : goal.put_byte-requires
put_byte-requires c = byte_inside (c.args.mem.now) _ Store _ _ _ _ c.look_up.ensures c.in_ok-found.was

pub returns : goal.returns
unfolding si
returns c = rw (← c.operand_address-at.ensures, ← c.ahead_of.ensures) (byte_yes _ _ _ _ _ tt _ _ _ c.look_up.ensures _ _ _ _ _ c.in_ok-found.was refl (unfold interp in rw (← byte_write (c.args.mem.now) _ _ _ _ _ c.look_up.ensures c.in_ok-found.was _ _ _ _ refl c.put_byte.ensures c.mark.ensures)))
