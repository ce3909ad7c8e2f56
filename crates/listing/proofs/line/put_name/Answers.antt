use mathlib.Core.Path.{sym, ap, ◌∙◌}
use Rattle.decode.proofs.Grid.{name_in_cell}
use Rattle.decode.specs.Names.{name_in}
use Rattle.printing.proofs.WritingLoops.{all_left}
use Rattle.listing.proofs.Loops.{name_dot, name_turn, name_end}
use borrow.Author.Rules.{rules}
use Rattle.listing.proofs.line.put_name.Goals as goal

pub loop-b-init : goal.loop-b-init
loop-b-init c = all_left _ _ _ (sym (ap name_in c.name_of-cell.ensures ∙ name_in_cell c.args.op (search rules)))

pub returns-then-b-eq46 : goal.returns-then-b-eq46
returns-then-b-eq46 c = search name_dot

pub loop-b-preserved : goal.loop-b-preserved
loop-b-preserved c = search name_turn

pub returns : goal.returns
returns c = search name_end
