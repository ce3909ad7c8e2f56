use Rattle.std.proofs.Common.{le-ltb, lt-ltb}
use Rattle.fields.specs.Direct.{in_page}
use Rattle.fields.proofs.in_page.Goals as goal

pub returns-then-at-lt16777216 : goal.returns-then-at-lt16777216
unfolding in_page
returns-then-at-lt16777216 c = simp (lt-ltb _ _ c.if-at-lt16777216.true)

pub returns-else-at-lt16777216 : goal.returns-else-at-lt16777216
unfolding in_page
returns-else-at-lt16777216 c = simp (le-ltb _ _ c.if-at-lt16777216.false)
