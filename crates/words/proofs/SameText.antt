-- Texts that are found to be the same are the same.
use mathlib.Core.Path.{◌≡◌, refl, ap, ◌∙◌}
use mathlib.Core.Bool.{true}
use mathlib.Core.List.{List, [], ◌∷◌}
use Prim.Native.Nat.{ℕ}
use native.Mathlib.Omega.{arith}
use lib.Dec.{eqb}
use borrow.Author.Tests.{eqb-true}
use Rattle.words.specs.Ascii.{same}
use Rattle.words.proofs.Tests.{left_of_lem, right_of_lem}

pub same_is : (xs ys : List ℕ) → same xs ys ≡ true → xs ≡ ys
unfolding same
same_is [] [] e = refl
same_is [] (y ∷ ys) e = absurd (let z : ◌≡◌ {A = ℕ} 0 1 = cc in omega arith)
same_is (x ∷ xs) [] e = absurd (let z : ◌≡◌ {A = ℕ} 0 1 = cc in omega arith)
same_is (x ∷ xs) (y ∷ ys) e =
    let h = eqb-true x y (left_of_lem (eqb x y) (same xs ys) e) in
    let t = same_is xs ys (right_of_lem (eqb x y) (same xs ys) e) in
    ap (λ (n : ℕ). n ∷ xs) h ∙ ap (λ (l : List ℕ). y ∷ l) t
