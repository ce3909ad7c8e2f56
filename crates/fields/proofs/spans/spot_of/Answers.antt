use Rattle.std.proofs.Common.{sym, arith}
use Rattle.fields.proofs.Spanned.{spot_first, spot_rest}
use Rattle.fields.proofs.spans.spot_of.Goals as goal

pub overflow_add-result : goal.overflow_add-result
overflow_add-result c = record { fits = omega (arith, c.requires, spot_first c.args.s c.args.i c.if-i-s.true) }

pub returns-then-i-s : goal.returns-then-i-s
returns-then-i-s c = sym (spot_first _ _ c.if-i-s.true)

pub overflow_add-result-2 : goal.overflow_add-result-2
overflow_add-result-2 c = record { fits = omega (arith, c.requires, spot_rest c.args.s c.args.i c.if-i-s.false) }

pub returns : goal.returns
returns c = sym (spot_rest _ _ c.if-i-s.false)
