-- What the tables show. The promise of a function is an equation with the right definition for every input; so where the right and the
-- slipped answer differ on some input, no proof of the slipped program can exist, whatever its shape.
use Prim.Native.Nat.{ℕ}
use Prim.Native.String.{String}
use mathlib.Core.Path.{◌≡◌, refl, sym, ◌∙◌, ap, subst}
use mathlib.Core.Logic.{◌≢◌}
use mathlib.Core.Bool.{Bool, true, false}
use mathlib.Core.List.{List, [], ◌∷◌}
use borrow.Author.Tests.{eq-eqb}
use lib.Dec.{T, eqb}
use Rattle.words.specs.Pick.{pick, both}
use Rattle.slips.specs.Row.{Row, part, unshown}

-- Whatever meets the promise of the right definition is not the slipped one, if on one input the two differ in what is seen.
pub not_slipped : {A B : Type 0} (f right slipped : A → B) → ((x : A) → f x ≡ right x)
    → (x : A) (see : B → List ℕ) → see (right x) ≢ see (slipped x) → ((y : A) → f y ≡ slipped y) → ⊥
not_slipped f right slipped promise x see differ is-slipped = differ (ap see (sym (promise x) ∙ is-slipped x))

-- A table that leaves no slip unshown has a difference in each row.
abbrev pub Differ : List Row → Type 0
Differ [] = Unit {0}
Differ (r ∷ rs) = (r.right ≢ r.slipped) × Differ rs

self_part : (xs : List ℕ) (one other : ℕ) → part xs xs one other ≡ false
self_part [] one other = refl
self_part (x ∷ xs) one other =
    ap (λ (b : Bool). pick b (part xs xs one other) (both (eqb x one) (eqb x other))) (eq-eqb x x refl) ∙ self_part xs one other

abbrev Some : List String → Type 0
Some [] = ⊥
Some (s ∷ ss) = Unit {0}

first : (r : Row) (rest : List String)
    → pick (part r.right r.slipped r.one r.other) rest (r.slip ∷ rest) ≡ []
    → (r.right ≢ r.slipped) × (rest ≡ [])
first r rest e = go (part r.right r.slipped r.one r.other) refl e
  where
    go : (b : Bool) → part r.right r.slipped r.one r.other ≡ b → pick b rest (r.slip ∷ rest) ≡ []
        → (r.right ≢ r.slipped) × (rest ≡ [])
    go true parted none = (
      λ same.
          subst T
          (sym parted
          ∙ sym (ap (λ (l : List ℕ). part r.right l r.one r.other) same)
          ∙ self_part r.right r.one r.other)
          tt,
      none,
    )
    go false parted none = absurd (subst Some none tt)

pub differ : (rs : List Row) → unshown rs ≡ [] → Differ rs
differ [] e = tt
differ (r ∷ rs) e = ((first r (unshown rs) e).0, differ rs (first r (unshown rs) e).1)
