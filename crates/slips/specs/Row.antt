-- A row of the tables: a slip in plain words, what the right definition answers on some input, and what the slipped definition answers on
-- the same input. What a difference between the two shows is in proofs/Argument.
use Rattle.std.specs.Prelude.{ℕ, Bool, false, List, [], ◌∷◌, eqb}
use Prim.Native.String.{String}
use Rattle.words.specs.Pick.{pick, both}

-- `one` and `other` are the numbers of the right and of the slipped answer at the first place where the two part
pub record Row : Type 0 where
  pub slip : String
  pub right : List ℕ
  pub slipped : List ℕ
  pub one : ℕ
  pub other : ℕ

abbrev pub row : String → List ℕ → List ℕ → ℕ → ℕ → Row
row slip right slipped one other = record { slip = slip; right = right; slipped = slipped; one = one; other = other }

-- the two lists part, and with these numbers
abbrev pub part : List ℕ → List ℕ → ℕ → ℕ → Bool
part [] ys one other = false
part (x ∷ xs) [] one other = false
part (x ∷ xs) (y ∷ ys) one other =
    let rest = part xs ys one other in
    pick (eqb x y) rest (both (eqb x one) (eqb y other))

-- the slips that their rows fail to show
abbrev pub unshown : List Row → List String
unshown [] = []
unshown (r ∷ rs) =
    let rest = unshown rs in
    pick (part r.right r.slipped r.one r.other) rest (r.slip ∷ rest)
