use Rattle.pages.proofs.LookLaws.{found_less}
use Rattle.pages.proofs.StoreLaws.{write_refused, write_found}
use Rattle.lookup.proofs.write_byte.Goals as goal

pub returns-in_default : goal.returns-in_default
returns-in_default c = search write_refused

pub bounds-mem-spot : goal.bounds-mem-spot
bounds-mem-spot c = found_less _ _ _ _ _ _ _ c.look_up.ensures c.in-Ok.is

pub returns-in-Ok : goal.returns-in-Ok
returns-in-Ok c = search write_found
