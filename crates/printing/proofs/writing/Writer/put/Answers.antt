use mathlib.Core.Path.{refl}
use Rattle.printing.proofs.WrittenText.{put_in, put_out_lem}
use Rattle.printing.proofs.writing.Writer.put.Goals as goal

pub returns-then-self : goal.returns-then-self
returns-then-self c = record { same_buffer = refl; written = search put_in }

pub returns-else-self : goal.returns-else-self
returns-else-self c = record { same_buffer = refl; written = search put_out_lem }
