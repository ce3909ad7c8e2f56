-- Two texts byte by byte.
use mathlib.Core.Path.{◌≡◌, refl}
use mathlib.Core.Bool.{Bool, true, false, ◌&&◌}
use mathlib.Core.List.{List, [], ◌∷◌}
use Prim.Native.Nat.{ℕ}
use lib.Dec.{eqb}
use Rattle.std.specs.Str.{bytes_eq}
use Rattle.words.specs.Pick.{both}
use Rattle.words.specs.Ascii.{same}

-- the library's `==` of two slices of bytes
pub same_as_eq : (xs ys : List ℕ) → bytes_eq xs ys ≡ same xs ys
unfolding same
same_as_eq [] [] = refl
same_as_eq [] (y ∷ ys) = refl
same_as_eq (x ∷ xs) [] = refl
same_as_eq (x ∷ xs) (y ∷ ys) = by (eqb x y) (same_as_eq xs ys)
  where
    by : (t : Bool) → bytes_eq xs ys ≡ same xs ys → (t && bytes_eq xs ys) ≡ both t (same xs ys)
    by true e = e
    by false e = refl
