use Rattle.pages.proofs.Marks.{written_new, written_old}
use Rattle.pages.specs.Framed.{written_at}
use Rattle.pages.specs.Word.{word_of, page_of}
use lib.ListN.{set}
use lib.Seq.{set_out}
use mathlib.Core.Path.{refl, sym, ap}
use native.Mathlib.Omega.{arith}
use Prim.Native.Nat.{◌/◌}
use Rattle.lookup.proofs.note_written.Goals as goal

pub returns-then-w-lt32768 : goal.returns-then-w-lt32768
unfolding written_at word_of page_of
returns-then-w-lt32768 c = ap (set c.args.map.now (c.args.a / 4096)) (written_new _ c.if-w-lt32768.true)

pub returns-else-w-lt32768 : goal.returns-else-w-lt32768
unfolding written_at word_of page_of
returns-else-w-lt32768 c = written_old _ _ _ refl c.if-w-lt32768.false (omega (arith, c.type_inv.map (c.args.a / 4096)))

pub returns-else-page-map : goal.returns-else-page-map
unfolding written_at word_of page_of
returns-else-page-map c = sym (set_out _ _ _ c.if-page-map.false)
