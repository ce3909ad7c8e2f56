use mathlib.Core.Path.{refl}
use native.Mathlib.Omega.{arith}
use Rattle.engine.proofs.Windows.{open_ready}
use Rattle.engine.proofs.window.open.Goals as goal

pub returns : goal.returns
returns c = open_ready _ _ _ _ _ _ _ _ _ refl c.is_seen.ensures c.if-not-is_seen.false c.look_up.ensures c.in-Ok.is (omega (arith, c.if-found-lt6.false))
