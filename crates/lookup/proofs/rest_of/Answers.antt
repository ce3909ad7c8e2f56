use native.Mathlib.Omega.{arith}
use Rattle.pages.specs.Word.{bit_m, frame, disp_of}
use Rattle.lookup.proofs.Answers.{rest_large, rest_past, rest_small}
use Rattle.lookup.proofs.rest_of.Goals as goal

pub returns-then-w-eq0 : goal.returns-then-w-eq0
unfolding bit_m frame disp_of
returns-then-w-eq0 c = let t = rest_large _ _ c.if-w-eq0.true in (rw c.from.ensures t.0, t.1, rw c.from.ensures (omega arith))

pub returns-then-d-ge2048 : goal.returns-then-d-ge2048
unfolding bit_m disp_of
returns-then-d-ge2048 c = (c.base_of.ensures.0, rest_past _ _ c.if-w-eq0.false c.if-d-ge2048.true, c.base_of.ensures.1)

pub returns : goal.returns
unfolding bit_m disp_of
returns c = (c.base_of-2.ensures.0, rest_small _ _ c.if-w-eq0.false, c.base_of-2.ensures.1)
