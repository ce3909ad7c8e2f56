use Rattle.std.proofs.Common.{refl, ◌∙◌}
use Rattle.pages.proofs.LookLaws.{handed_on}
use Rattle.fields.proofs.BothLooked.{both_first, both_second, both_there, moved_yes}
use Rattle.fields.proofs.each.move_field.Goals as goal

pub returns-in_err-there : goal.returns-in_err-there
returns-in_err-there c = rw (handed_on _ _ c.from_residual.ensures.1) (both_first _ _ _ _ _ _ c.requires _ c.in_err-there.ensures _ _ refl, refl)

pub returns-in_err-look_bytes : goal.returns-in_err-look_bytes
returns-in_err-look_bytes c = rw (handed_on _ _ c.from_residual-in_err-look_bytes.ensures.1) (both_second _ _ _ _ _ _ c.requires _ c.in_ok-there.ensures _ _ refl _ c.in_err-look_bytes.ensures _ _ refl, refl)

pub shape_of-mem : goal.shape_of-mem
shape_of-mem c = c.move_bytes.auto.mem

pub shape_of-map : goal.shape_of-map
shape_of-map c = c.move_bytes.auto.map ∙ c.note_bytes-2.auto.map ∙ c.note_bytes.auto.map

pub returns : goal.returns
returns c = (both_there _ _ _ _ _ _ c.requires _ c.in_ok-there.ensures _ _ refl _ c.in_ok-look_bytes.ensures _ _ refl, moved_yes _ _ _ _ _ _ c.in_ok-there.there.at c.in_ok-there.there.reach refl _ _ _ _ c.note_bytes.ensures c.note_bytes-2.ensures c.move_bytes.ensures)
