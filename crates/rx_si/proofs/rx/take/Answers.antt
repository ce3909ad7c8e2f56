use Rattle.fields.proofs.Widths.{flat_byte}
use Rattle.actions.proofs.Executed.{take_room, take_byte_room}
use Rattle.machine.specs.Rx.{taken}
use mathlib.Core.Path.{◌∙◌}
use Rattle.rx_si.proofs.rx.take.Goals as goal

pub word_of-requires : goal.word_of-requires
word_of-requires c = take_room _ _ c.in-WordWith.is _ _ c.requires

pub half_of-requires : goal.half_of-requires
half_of-requires c = take_room _ _ c.in-HalfWith.is _ _ c.requires

pub byte_of-requires : goal.byte_of-requires
byte_of-requires c = take_byte_room _ c.in-ByteInserted.is _ _ c.requires

pub returns-in-WordWith : goal.returns-in-WordWith
unfolding taken
returns-in-WordWith c = rw (c.in-WordWith.is, ← c.word_of.ensures) c.combine.ensures

pub returns-in-HalfWith : goal.returns-in-HalfWith
unfolding taken
returns-in-HalfWith c = rw (c.in-HalfWith.is, ← c.half_of.ensures, ← c.widen.ensures) c.combine-in-HalfWith.ensures

pub returns-in-ByteInserted : goal.returns-in-ByteInserted
unfolding taken
returns-in-ByteInserted c = rw (c.in-ByteInserted.is, c.from.ensures, ← (c.byte_of.ensures ∙ flat_byte (c.args.mem.now) c.args.at))
