use Rattle.printing.proofs.Joined.{field_of}
use Rattle.printing.proofs.writing.Writer.put_decimal.Goals as goal

pub returns : goal.returns
returns c = search field_of
