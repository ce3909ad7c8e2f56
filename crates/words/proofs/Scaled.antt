-- What a word stands for, times a number m that is not zero: its sign is the word's, and its low bits are those of the word's bits times m.
use mathlib.Core.Path.{◌≡◌, refl, sym, ap, ◌∙◌}
use Prim.Native.Nat.{ℕ, suc, ◌+◌, ◌*◌, ◌-◌, ◌/◌, ◌%◌, ◌<◌}
use native.Mathlib.Nat.{mod-lt, div-add-mod', lt_of_mul-lt-mul_right, mul-pos}
use native.Mathlib.Omega.{arith}
use lib.Arith.{digits_mod}
use lib.Dec.{leb}
use lib.IntN.{ℤ, pos, negsuc, ◌*ℤ◌}
use Rattle.words.specs.Whole.{signed, kept}
use Rattle.words.proofs.Choice.{by_order}
use Rattle.words.proofs.Signs.{is_minus, neg_pos}
use Rattle.words.proofs.Range.{signed_low, signed_high, signed_minus}

-- a negative product, as negsuc
pub negative : (n m : ℕ) → 0 < m → negsuc n *ℤ pos m ≡ negsuc (suc n * m - 1)
negative n m h = neg_pos (suc n * m) (omega arith)

-- the sign is the word's
pub scaled_minus : (top a m : ℕ) → 0 < m → a < top + top → is_minus (signed top a *ℤ pos m) ≡ leb top a
scaled_minus top a m p h = go (signed top a) ∙ signed_minus top a h
  where
    go : (z : ℤ) → is_minus (z *ℤ pos m) ≡ is_minus z
    go (pos n) = refl
    go (negsuc n) = rw (negative n m p)

-- x and y, and one, are a multiple of n: the rest of y is the complement of the rest of x
complement : (n k x y : ℕ) → 0 < n → suc x + y ≡ k * n → n - 1 - x % n ≡ y % n
complement n k x y p e =
    let v = x % n in
    let u = x / n in
    let split : u * n + v ≡ x = div-add-mod' x n in
    let less : u < k = lt_of_mul-lt-mul_right n (omega arith) in
    let j = k - suc u in
    let m : suc u + j ≡ k = omega arith in
    let all : (suc u + j) * n ≡ k * n = ap (λ (i : ℕ). i * n) m in
    let l : v < n = mod-lt x p in
    let f : y ≡ j * n + (n - 1 - v) = omega arith in
    rw f (sym (digits_mod j (omega arith)))

-- b + a is n: b times m and a times m are a multiple of n
multiple : (n a b m : ℕ) → b + a ≡ n → 0 < b → 0 < m → suc (b * m - 1) + a * m ≡ m * n
multiple n a b m e p h =
    let all : (b + a) * m ≡ n * m = ap (λ (i : ℕ). i * m) e in
    let some : 0 < b * m = mul-pos p h in
    omega arith

-- the low bits are those of the word's bits times m
pub scaled_bits : (top a m : ℕ) → 0 < m → a < top + top → kept top (signed top a *ℤ pos m) ≡ a * m % (top + top)
unfolding kept
scaled_bits top a m p h =
    let n = suc (top + top - suc a) in
    let e = multiple (top + top) a n m (omega arith) (omega arith) p in
    by_order a top
    (λ l. rw (signed_low top a l))
    (λ l. rw (signed_high top a l h, negative (top + top - suc a) m p) (complement (top + top) m (n * m - 1) (a * m) (omega arith) e))
