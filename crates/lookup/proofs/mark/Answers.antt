use Prim.Native.Nat.{◌/◌}
use lib.ListN.{set}
use mathlib.Core.Path.{refl, ap, ◌∙◌}
use native.Mathlib.Omega.{arith}
use Rattle.pages.specs.Word.{word_of, page_of}
use Rattle.lookup.proofs.HasMarks.{marks_set, marks_there, marks_out}
use Rattle.lookup.proofs.mark.Goals as goal

pub returns-then-not-is_marked : goal.returns-then-not-is_marked
unfolding word_of page_of
returns-then-not-is_marked c = ap (set c.args.map.now (c.args.a / 4096)) c.with_marks.ensures ∙ marks_set _ _ _ c.if-page-map.true

pub returns-else-not-is_marked : goal.returns-else-not-is_marked
unfolding word_of page_of
returns-else-not-is_marked c = marks_there _ _ _ c.is_marked.ensures c.if-not-is_marked.false (omega (arith, c.type_inv.map (c.args.a / 4096))) _ 0 _ refl

pub returns-else-page-map : goal.returns-else-page-map
unfolding page_of
returns-else-page-map c = marks_out _ _ _ c.if-page-map.false
