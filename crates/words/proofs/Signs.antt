-- Whole numbers by their signs and sizes: negations, sums, products, quotients and remainders.
use mathlib.Core.Path.{◌≡◌, refl, sym, ap, ◌∙◌}
use mathlib.Core.Bool.{Bool, true, false, not, beq}
use Prim.Native.Nat.{ℕ, zero, suc, ◌*◌, ◌-◌, ◌/◌, ◌%◌, ◌<◌}
use native.Mathlib.Nat.{zero-mul}
use native.Mathlib.Omega.{arith}
use lib.IntN.{ℤ, pos, negsuc, neg_ℤ, nat_abs, ◌+ℤ◌, ◌*ℤ◌, neg_ℤ-neg_ℤ, pos-ne-negsuc}
use lib.Signed.{non_neg, quot_z, rem_z}
use Rattle.words.specs.Pick.{pick}
use Rattle.words.proofs.Differences.{sub_low}

abbrev pub is_minus : ℤ → Bool
is_minus z = not (non_neg z)

abbrev pub unlike : Bool → Bool → Bool
unlike s t = not (beq s t)

-- the whole number of a size, with a minus or without
abbrev pub sized : Bool → ℕ → ℤ
sized minus n = pick minus (neg_ℤ (pos n)) (pos n)

pub size_sized : (minus : Bool) (n : ℕ) → nat_abs (sized minus n) ≡ n
size_sized true zero = refl
size_sized true (suc n) = refl
size_sized false n = refl

-- the size of a product and of a quotient is that of the sizes; there is a minus where the signs are unlike
pub product_sized : (y z : ℤ) → y *ℤ z ≡ sized (unlike (is_minus y) (is_minus z)) (nat_abs y * nat_abs z)
product_sized (pos m) (pos n) = refl
product_sized (pos m) (negsuc n) = refl
product_sized (negsuc m) (pos n) = refl
product_sized (negsuc m) (negsuc n) = refl

pub quotient_sized : (y z : ℤ) → quot_z y z ≡ sized (unlike (is_minus y) (is_minus z)) (nat_abs y / nat_abs z)
quotient_sized (pos m) (pos n) = refl
quotient_sized (pos m) (negsuc n) = refl
quotient_sized (negsuc m) (pos n) = refl
quotient_sized (negsuc m) (negsuc n) = refl

-- the remainder has the dividend's sign
pub remainder_sized : (y z : ℤ) → rem_z y z ≡ sized (is_minus y) (nat_abs y % nat_abs z)
remainder_sized (pos m) z = refl
remainder_sized (negsuc m) z = refl

-- below zero, as negsuc
pub neg_pos : (k : ℕ) → 0 < k → neg_ℤ (pos k) ≡ negsuc (k - 1)
neg_pos zero h = absurd (omega arith)
neg_pos (suc k) h = ap negsuc (omega arith)

-- a negation goes out of a product
pub neg_product : (x y : ℤ) → neg_ℤ x *ℤ y ≡ neg_ℤ (x *ℤ y)
neg_product (pos zero) (pos b) = rw zero-mul
neg_product (pos zero) (negsuc b) = rw zero-mul
neg_product (pos (suc a)) (pos b) = refl
neg_product (pos (suc a)) (negsuc b) = sym (neg_ℤ-neg_ℤ (pos (suc a * suc b)))
neg_product (negsuc a) (pos b) = sym (neg_ℤ-neg_ℤ (pos (suc a * b)))
neg_product (negsuc a) (negsuc b) = refl

-- equal whole numbers that are not negative are equal numbers
pub same_pos : (a b : ℕ) → pos a ≡ pos b → a ≡ b
same_pos a b e = ap nat_abs e

-- where more is taken away, the difference is negative
pub short : (m c : ℕ) → c < m → neg_ℤ (pos m) +ℤ pos c ≡ negsuc (m - suc c)
short zero c h = absurd (omega arith)
short (suc m) c h = sub_low c (suc m) h

pub never_pos : (a m c : ℕ) → c < m → pos a ≡ neg_ℤ (pos m) +ℤ pos c → ⊥
never_pos a m c h e = pos-ne-negsuc a (m - suc c) (e ∙ short m c h)
