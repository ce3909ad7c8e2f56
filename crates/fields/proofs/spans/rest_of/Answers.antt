use Rattle.std.proofs.Common.{sym}
use Rattle.fields.proofs.Spanned.{rest_first, rest_rest}
use Rattle.fields.proofs.spans.rest_of.Goals as goal

pub returns-then-i-s : goal.returns-then-i-s
returns-then-i-s c = sym (rest_first _ _ _ c.if-i-s.true)

pub returns : goal.returns
returns c = sym (rest_rest _ _ _ c.if-i-s.false)
