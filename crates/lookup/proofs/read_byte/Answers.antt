use Rattle.pages.proofs.LookLaws.{found_less}
use Rattle.pages.proofs.StoreLaws.{read_refused, read_found}
use Rattle.lookup.proofs.read_byte.Goals as goal

pub returns-in-Err : goal.returns-in-Err
returns-in-Err c = search read_refused

pub bounds-mem-spot : goal.bounds-mem-spot
bounds-mem-spot c = found_less _ _ _ _ _ _ _ c.look_up.ensures c.in-Ok.is

pub returns-in-Ok : goal.returns-in-Ok
returns-in-Ok c = search read_found
