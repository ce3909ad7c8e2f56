use borrow.Author.Rules.{rules}
use Rattle.code.specs.Table.{table, name_of}
use Rattle.decode.specs.Names.{cell_of}
use Rattle.decode.proofs.Grid.{cell_at}
use Rattle.decode.proofs.names.name_of.Goals as goal

pub returns : goal.returns
unfolding cell_of name_of table
returns c = cell_at c.args.op (search rules)
