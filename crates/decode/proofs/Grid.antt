-- The grid of names: one test, computed at each of the 256 codes, holds it to the table.
use Prim.Native.Nat.{ℕ, zero, suc, ◌+◌, ◌*◌, ◌<◌}
use native.Mathlib.Omega.{arith}
use native.Mathlib.Nat.{add-zero, zero-add, add_assoc}
use mathlib.Core.Path.{◌≡◌, refl, ap, ◌∙◌, subst}
use mathlib.Core.Bool.{Bool, true}
use mathlib.Core.List.{List, [], ◌∷◌, ◌++◌}
use lib.ListN.{get_or, drop}
use lib.Seq.{get_or-drop}
use Rattle.words.specs.Pick.{both}
use Rattle.words.specs.Ascii.{same}
use Rattle.words.proofs.Tests.{left_of_lem, right_of_lem}
use Rattle.words.proofs.SameText.{same_is}
use Rattle.code.specs.Table.{table, name_of}
use Rattle.decode.specs.Names.{cell_of, name_in}

-- four places from a place on
abbrev pub four : List ℕ → ℕ → List ℕ
four names i = get_or names i 0 ∷ get_or names (i + 1) 0 ∷ get_or names (i + 2) 0 ∷ get_or names (i + 3) 0 ∷ []

-- the cell at the front is that of the code k, and its name can be read off it
unfoldable holds : ℕ → List ℕ → Bool
holds k names = both (same (four names 0) (cell_of k)) (same (name_in (cell_of k)) (name_of k))

-- n codes from the code k on
unfoldable all_hold : ℕ → ℕ → List ℕ → Bool
all_hold zero k names = true
all_hold (suc n) k names = both (holds k names) (all_hold n (suc k) (drop 4 names))

abbrev Right : ℕ → List ℕ → Type 0
Right op cell = (cell ≡ cell_of op) × (name_in (cell_of op) ≡ name_of op)

right : (k : ℕ) (names : List ℕ) → holds k names ≡ true → Right k (four names 0)
unfolding holds
right k names e =
    let x = same (four names 0) (cell_of k) in
    let y = same (name_in (cell_of k)) (name_of k) in
    (same_is (four names 0) (cell_of k) (left_of_lem x y e), same_is (name_in (cell_of k)) (name_of k) (right_of_lem x y e))

in_grid : (n k i : ℕ) (names : List ℕ) → all_hold n k names ≡ true → i < n → Right (k + i) (four names (i * 4))
unfolding all_hold
in_grid zero k i names e h = absurd (omega arith)
in_grid (suc n) k zero names e h = rw add-zero (right k names (left_of_lem (holds k names) (all_hold n (suc k) (drop 4 names)) e))
in_grid (suc n) k (suc i) names e h =
    let m : 4 + i * 4 ≡ suc i * 4 = omega arith in
    let at : four (drop 4 names) (i * 4) ≡ four names (suc i * 4) = simp (get_or-drop, add_assoc) refl ∙ ap (four names) m in
    let on : suc k + i ≡ k + suc i = omega arith in
    subst (λ (l : List ℕ). Right (k + suc i) l) at
    (subst (λ (op : ℕ). Right op (four (drop 4 names) (i * 4))) on
    (in_grid n (suc k) i (drop 4 names) (right_of_lem (holds k names) (all_hold n (suc k) (drop 4 names)) e) (omega arith)))

-- the grid as the table has it: antt computes it, and compares it with the code's
abbrev cells : ℕ → ℕ → List ℕ
cells zero k = []
cells (suc n) k = cell_of k ++ cells n (suc k)

abbrev pub grid : List ℕ
grid = cells 256 0

all_codes : all_hold 256 0 grid ≡ true
unfolding same all_hold holds cell_of name_in name_of table
all_codes = refl

at_code : (op : ℕ) → op < 256 → Right op (four grid (op * 4))
at_code op h = subst (λ (k : ℕ). Right k (four grid (op * 4))) (zero-add op) (in_grid 256 0 op grid all_codes h)

pub cell_at : (op : ℕ) → op < 256 → four grid (op * 4) ≡ cell_of op
cell_at op h = (at_code op h).0

pub name_in_cell : (op : ℕ) → op < 256 → name_in (cell_of op) ≡ name_of op
name_in_cell op h = (at_code op h).1
