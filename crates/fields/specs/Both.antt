-- The two fields of a move or a compare, n bytes each: every byte of both is looked up, first field, then second; only then are they
-- marked, and moved or compared. A refusal alters nothing.
use Rattle.std.specs.Prelude.{ℕ, List, [], ◌∷◌, Result, Ok, Err}
use Rattle.pages.specs.declared.Access.{Access}
use Rattle.pages.specs.declared.Access.TheVariants.{Load}
use Rattle.pages.specs.declared.Refusal.{Refusal}
use Rattle.pages.specs.Look.{Look, look_of}
use Rattle.pages.specs.Framed.{Framed, framed_of}
use Rattle.fields.specs.Direct.{look_fields, note_field, move_field, compare_field}

-- the first refusal, or the first byte's look-up; acc is what the first field is wanted for
abbrev pub look_both : List ℕ → ℕ → Access → ℕ → ℕ → ℕ → Look
look_both map size acc a b n =
    look_fields map size (record { access = acc; at = a; len = n } ∷ record { access = Load; at = b; len = n } ∷ []) (look_of map size acc a)

abbrev pub note_both : List ℕ → ℕ → ℕ → ℕ → List ℕ
note_both map a b n = note_field (note_field map a n) b n

-- memory and map after a move, by what the look-ups said
abbrev pub moved_by : Look → List ℕ → List ℕ → ℕ → ℕ → ℕ → Framed
moved_by (Ok s) mem map a b n = move_field (framed_of mem (note_both map a b n)) a b n
moved_by (Err e) mem map a b n = framed_of mem map

-- a compare's answer: the condition code, or the refusal
abbrev pub Order : Type 0
Order = Result ℕ Refusal

abbrev pub order_of : Look → List ℕ → List ℕ → ℕ → ℕ → ℕ → Order
order_of (Ok s) mem map a b n = Ok (compare_field (framed_of mem (note_both map a b n)) a b n)
order_of (Err e) mem map a b n = Err e

-- the map after it
abbrev pub noted_by : Look → List ℕ → ℕ → ℕ → ℕ → List ℕ
noted_by (Ok s) map a b n = note_both map a b n
noted_by (Err e) map a b n = map
