use borrow.Author.Tests.{lt-ltb, le-ltb}
use Rattle.lookup.proofs.fewer_of.Goals as goal

pub returns-then-y-x : goal.returns-then-y-x
returns-then-y-x c = simp (lt-ltb _ _ c.if-y-x.true)

pub returns : goal.returns
returns c = simp (le-ltb _ _ c.if-y-x.false)
