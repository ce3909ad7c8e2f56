use Rattle.std.proofs.Common.{refl, ◌∙◌}
use Rattle.pages.proofs.LookLaws.{handed_on}
use Rattle.fields.proofs.BothLooked.{both_first, both_second, both_there, order_no, order_yes}
use Rattle.fields.proofs.each.compare_field.Goals as goal

pub returns-in_err-look_bytes : goal.returns-in_err-look_bytes
returns-in_err-look_bytes c = rw (handed_on _ _ c.from_residual.ensures.1) (order_no _ _ _ _ _ _ _ (both_first _ _ _ _ _ _ c.requires _ c.in_err-look_bytes.ensures _ _ refl) _ _ refl)

pub returns-in_err-look_bytes-2 : goal.returns-in_err-look_bytes-2
returns-in_err-look_bytes-2 c = rw (handed_on _ _ c.from_residual-in_err-look_bytes-2.ensures.1) (order_no _ _ _ _ _ _ _ (both_second _ _ _ _ _ _ c.requires _ c.in_ok-look_bytes.ensures _ _ refl _ c.in_err-look_bytes-2.ensures _ _ refl) _ _ refl)

pub shape_of-map : goal.shape_of-map
shape_of-map c = c.note_bytes-2.auto.map ∙ c.note_bytes.auto.map

pub returns : goal.returns
returns c = order_yes _ _ _ _ _ _ _ (both_there _ _ _ _ _ _ c.requires _ c.in_ok-look_bytes.ensures _ _ refl _ c.in_ok-look_bytes-2.ensures _ _ refl) _ _ refl _ _ c.note_bytes.ensures c.note_bytes-2.ensures _ c.compare_bytes.ensures
