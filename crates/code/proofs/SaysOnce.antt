-- What the table's answer says in document 01's terms it says once.
use mathlib.Core.Path.{◌≡◌, refl, sym, ◌∙◌, ap}
use mathlib.Core.List.{List, [], ◌∷◌}
use Rattle.std.specs.Prelude.{Option, Some, None}
use Rattle.words.specs.Said.{Said}
use Rattle.code.specs.declared.Action.{Action}
use Rattle.code.specs.Table.{found_says}

-- the one action, or none
abbrev as_found : List Action → Option Action
as_found [] = None
as_found (x ∷ xs) = Some x

back : (f : Option Action) → as_found (found_says f).values ≡ f
back (Some x) = refl
back None = refl

pub found_once : (f g : Option Action) → found_says f ≡ found_says g → f ≡ g
found_once f g e = sym (back f) ∙ ap (λ (s : Said (List Action)). as_found s.values) e ∙ back g
