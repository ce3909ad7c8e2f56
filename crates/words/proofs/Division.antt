-- Whole numbers divided, the quotient cut toward zero (quot_z, rem_z): the dividend is quotient times divisor and the remainder, the
-- remainder is smaller than the divisor and has the dividend's sign or is zero; and no other quotient and remainder do.
use mathlib.Core.Path.{◌≡◌, refl, sym, ap, ◌∙◌}
use mathlib.Core.Logic.{◌⊎◌, inl, inr}
use Prim.Native.Nat.{ℕ, zero, suc, ◌+◌, ◌*◌, ◌/◌, ◌%◌, ◌<◌}
use native.Mathlib.Nat.{mod-lt, div-add-mod', zero-mul}
use native.Mathlib.Omega.{arith}
use lib.Arith.{digits_div, digits_mod}
use lib.IntN.{ℤ, pos, negsuc, neg_ℤ, nat_abs, ◌+ℤ◌, ◌*ℤ◌, neg_ℤ-neg_ℤ, neg_ℤ-+ℤ}
use lib.Signed.{quot_z, rem_z, non_neg}
use Rattle.words.proofs.Signs.{size_sized, remainder_sized, neg_product, same_pos, never_pos}

-- the remainder is zero, or it has the dividend's sign
abbrev pub SameSign : ℤ → ℤ → Type 0
SameSign r z = (r ≡ pos 0) ⊎ (non_neg r ≡ non_neg z)

-- a negative dividend is divided as its size is, and the quotient negated
quot_neg : (a : ℕ) (d : ℤ) → quot_z (negsuc a) d ≡ neg_ℤ (quot_z (pos (suc a)) d)
quot_neg a (pos b) = refl
quot_neg a (negsuc b) = sym (neg_ℤ-neg_ℤ (pos (suc a / suc b)))

dividend_pos : (a : ℕ) (d : ℤ) → pos a ≡ quot_z (pos a) d *ℤ d +ℤ rem_z (pos a) d
dividend_pos a (pos b) = ap pos (sym (div-add-mod' a b))
dividend_pos a (negsuc b) =
    rw (neg_product (pos (a / suc b)) (negsuc b), neg_ℤ-neg_ℤ) (ap pos (sym (div-add-mod' a (suc b))))

-- quotient times divisor, and the remainder, are the dividend
pub dividend : (z d : ℤ) → z ≡ quot_z z d *ℤ d +ℤ rem_z z d
dividend (pos a) d = dividend_pos a d
dividend (negsuc a) d =
    ap neg_ℤ (dividend_pos (suc a) d)
    ∙ neg_ℤ-+ℤ (quot_z (pos (suc a)) d *ℤ d) (rem_z (pos (suc a)) d)
    ∙ rw (quot_neg a d, neg_product (quot_z (pos (suc a)) d) d)

-- the remainder is smaller than the divisor
pub smaller : (z d : ℤ) → 0 < nat_abs d → nat_abs (rem_z z d) < nat_abs d
smaller z d h = rw (remainder_sized z d, size_sized) (mod-lt (nat_abs z) h)

-- the remainder is zero or has the dividend's sign
pub same_sign : (z d : ℤ) → SameSign (rem_z z d) z
same_sign (pos a) d = inr refl
same_sign (negsuc a) d = go (suc a % nat_abs d)
  where
    go : (r : ℕ) → SameSign (neg_ℤ (pos r)) (negsuc a)
    go zero = inl refl
    go (suc r) = inr refl

-- of numbers: a is k times b and c, with c less than b, only where k and c are what / and % give
only_number : (a k b c : ℕ) → a ≡ k * b + c → c < b → (k ≡ a / b) × (c ≡ a % b)
only_number a k b c e h = (sym (rw e (digits_div k h)), sym (rw e (digits_mod k h)))

-- of a dividend that is not negative
only_pos : (a c : ℕ) (q d : ℤ) → pos a ≡ q *ℤ d +ℤ pos c → c < nat_abs d → (q ≡ quot_z (pos a) d) × (c ≡ a % nat_abs d)
only_pos a c (pos k) (pos b) e h =
    let (u, v) = only_number a k b c (same_pos a (k * b + c) e) h in
    (ap pos u, v)
only_pos a c (pos zero) (negsuc b) e h =
    let (u, v) = only_number a 0 (suc b) c (same_pos a (0 + c) (rw zero-mul at e) ∙ rw zero-mul) h in
    (ap (λ (n : ℕ). neg_ℤ (pos n)) u, v)
only_pos a c (pos (suc k)) (negsuc b) e h = absurd (never_pos a (suc k * suc b) c (omega arith) e)
only_pos a c (negsuc k) (pos b) e h = absurd (never_pos a (suc k * b) c (omega arith) e)
only_pos a c (negsuc k) (negsuc b) e h =
    let (u, v) = only_number a (suc k) (suc b) c (same_pos a (suc k * suc b + c) e) h in
    (ap (λ (n : ℕ). neg_ℤ (pos n)) u, v)

-- a remainder with the dividend's sign, or zero, is known by its size
not_negative : (a : ℕ) (r : ℤ) → SameSign r (pos a) → r ≡ pos (nat_abs r)
not_negative a (pos c) s = refl
not_negative a (negsuc c) (inl e) = cc
not_negative a (negsuc c) (inr e) = cc

not_positive : (a : ℕ) (r : ℤ) → SameSign r (negsuc a) → r ≡ neg_ℤ (pos (nat_abs r))
not_positive a (pos c) (inl e) = e ∙ ap (λ (z : ℤ). neg_ℤ (pos (nat_abs z))) (sym e)
not_positive a (pos c) (inr e) = cc
not_positive a (negsuc c) s = refl

-- no other quotient and remainder do
pub only : (z q d r : ℤ) → z ≡ q *ℤ d +ℤ r → nat_abs r < nat_abs d → SameSign r z → (q ≡ quot_z z d) × (r ≡ rem_z z d)
only (pos a) q d r e h s =
    let p = not_negative a r s in
    let (u, v) = only_pos a (nat_abs r) q d (e ∙ ap (λ (x : ℤ). q *ℤ d +ℤ x) p) h in
    (u, p ∙ ap pos v)
only (negsuc a) q d r e h s = (sym (neg_ℤ-neg_ℤ q) ∙ ap neg_ℤ found.0 ∙ sym (quot_neg a d), p ∙ ap (λ (n : ℕ). neg_ℤ (pos n)) found.1)
  where
    p : r ≡ neg_ℤ (pos (nat_abs r))
    p = not_positive a r s

    turned : pos (suc a) ≡ neg_ℤ q *ℤ d +ℤ pos (nat_abs r)
    turned =
        ap neg_ℤ e
        ∙ neg_ℤ-+ℤ (q *ℤ d) r
        ∙ ap (λ (x : ℤ). x +ℤ neg_ℤ r) (sym (neg_product q d))
        ∙ ap (λ (x : ℤ). neg_ℤ q *ℤ d +ℤ x) (ap neg_ℤ p ∙ neg_ℤ-neg_ℤ (pos (nat_abs r)))

    found : (neg_ℤ q ≡ quot_z (pos (suc a)) d) × (nat_abs r ≡ suc a % nat_abs d)
    found = only_pos (suc a) (nat_abs r) (neg_ℤ q) d turned h
