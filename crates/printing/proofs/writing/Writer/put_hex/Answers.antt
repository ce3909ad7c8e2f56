use Rattle.printing.proofs.Joined.{field_of}
use Rattle.printing.proofs.writing.Writer.put_hex.Goals as goal

pub returns : goal.returns
returns c = search field_of
