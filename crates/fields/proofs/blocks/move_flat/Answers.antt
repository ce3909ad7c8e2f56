use Rattle.std.proofs.Common.{refl, ◌∙◌, arith}
use Rattle.fields.proofs.Stretches.{fill_is_move}
use Rattle.fields.proofs.blocks.move_flat.Goals as goal

pub returns-then-to-from : goal.returns-then-to-from
returns-then-to-from c = c.fill.ensures ∙ fill_is_move _ _ _ _ _ (omega arith) refl (omega arith)
