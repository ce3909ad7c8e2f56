use Prim.Native.Nat.{◌/◌}
use mathlib.Core.Path.{refl}
use native.Mathlib.Omega.{arith}
use Rattle.pages.specs.Word.{word_of, page_of}
use Rattle.lookup.proofs.HasMarks.{marked_whole}
use Rattle.lookup.proofs.look_marked.Goals as goal

pub returns : goal.returns
unfolding word_of page_of
returns c = marked_whole _ _ _ c.is_marked.ensures c.if-not-is_marked.false (omega (arith, c.type_inv.map (c.args.a / 4096))) _ _ _ refl _ c.look_whole.ensures
