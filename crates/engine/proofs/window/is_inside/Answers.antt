use borrow.Author.Tests.{le-leb, lt-leb}
use Rattle.engine.proofs.window.is_inside.Goals as goal

pub returns-then-w-pc : goal.returns-then-w-pc
returns-then-w-pc c = rw (le-leb _ _ c.if-w-pc.true)

pub returns-else-w-pc : goal.returns-else-w-pc
returns-else-w-pc c = rw (lt-leb _ _ c.if-w-pc.false)
