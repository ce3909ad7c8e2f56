-- Whole numbers as differences of two numbers, `sub_ℕ a b`: a less b, negative where a is less than b. When two are equal, their
-- negation, sum and order.
use mathlib.Core.Path.{◌≡◌, refl, sym, ap, ◌∙◌}
use Prim.Native.Nat.{ℕ, zero, suc, ◌+◌, ◌-◌, ◌≤◌, ◌<◌}
use native.Mathlib.Omega.{arith}
use borrow.Author.Tests.{lt-ltb, le-ltb}
use lib.Dec.{ltb}
use lib.IntN.{ℤ, pos, negsuc, neg_ℤ, sub_ℕ, ◌+ℤ◌, ◌-ℤ◌, +ℤ_assoc, +ℤ_comm, neg_ℤ-+ℤ, neg_ℤ-neg_ℤ}
use lib.Signed.{lt_z}
use Rattle.words.proofs.Choice.{by_order}

pub sub_low : (a b : ℕ) → a < b → sub_ℕ a b ≡ negsuc (b - suc a)
sub_low a b h = rw (lt-ltb a b h)

pub sub_high : (a b : ℕ) → b ≤ a → sub_ℕ a b ≡ pos (a - b)
sub_high a b h = rw (le-ltb a b h)

-- a - b is c - d where a + d is c + b
pub same_difference : (a b c d : ℕ) → a + d ≡ c + b → sub_ℕ a b ≡ sub_ℕ c d
same_difference a b c d e =
    by_order a b
    (λ h. rw (sub_low a b h, sub_low c d (omega arith)) (ap negsuc (omega arith)))
    (λ h. rw (sub_high a b h, sub_high c d (omega arith)) (ap pos (omega arith)))

sub_is : (a b : ℕ) → sub_ℕ a b ≡ pos a -ℤ pos b
sub_is a zero = sub_high a 0 (omega arith) ∙ ap pos (omega arith)
sub_is a (suc b) = refl

pub neg_sub : (a b : ℕ) → neg_ℤ (sub_ℕ a b) ≡ sub_ℕ b a
neg_sub a b =
    ap neg_ℤ (sub_is a b)
    ∙ neg_ℤ-+ℤ (pos a) (neg_ℤ (pos b))
    ∙ ap (λ (z : ℤ). neg_ℤ (pos a) +ℤ z) (neg_ℤ-neg_ℤ (pos b))
    ∙ +ℤ_comm (neg_ℤ (pos a)) (pos b)
    ∙ sym (sub_is b a)

-- (p + q) + (r + s) is (p + r) + (q + s)
swap : (p q r s : ℤ) → p +ℤ q +ℤ (r +ℤ s) ≡ p +ℤ r +ℤ (q +ℤ s)
swap p q r s =
    +ℤ_assoc p q (r +ℤ s)
    ∙ ap (λ (z : ℤ). p +ℤ z) (sym (+ℤ_assoc q r s) ∙ ap (λ (z : ℤ). z +ℤ s) (+ℤ_comm q r) ∙ +ℤ_assoc r q s)
    ∙ sym (+ℤ_assoc p r (q +ℤ s))

pub add_sub : (a b c d : ℕ) → sub_ℕ a b +ℤ sub_ℕ c d ≡ sub_ℕ (a + c) (b + d)
add_sub a b c d =
    ap (λ (z : ℤ). z +ℤ sub_ℕ c d) (sub_is a b)
    ∙ ap (λ (z : ℤ). pos a -ℤ pos b +ℤ z) (sub_is c d)
    ∙ swap (pos a) (neg_ℤ (pos b)) (pos c) (neg_ℤ (pos d))
    ∙ ap (λ (z : ℤ). pos (a + c) +ℤ z) (sym (neg_ℤ-+ℤ (pos b) (pos d)))
    ∙ sym (sub_is (a + c) (b + d))

-- two tests of order that tell the same
pub same_order : (m n k l : ℕ) → (m < n → k < l) → (n ≤ m → l ≤ k) → ltb m n ≡ ltb k l
same_order m n k l f g = by_order m n (λ p. lt-ltb m n p ∙ sym (lt-ltb k l (f p))) (λ p. le-ltb m n p ∙ sym (le-ltb k l (g p)))

-- the order of two differences from one number
pub lt_sub : (h x y : ℕ) → lt_z (sub_ℕ x h) (sub_ℕ y h) ≡ ltb x y
lt_sub h x y = by_order x h low high
  where
    low : x < h → lt_z (sub_ℕ x h) (sub_ℕ y h) ≡ ltb x y
    low p =
        by_order y h
        (λ q. rw (sub_low x h p, sub_low y h q) (same_order (h - suc y) (h - suc x) x y (omega arith) (omega arith)))
        (λ q. rw (sub_low x h p, sub_high y h q, lt-ltb x y (omega arith)))

    high : h ≤ x → lt_z (sub_ℕ x h) (sub_ℕ y h) ≡ ltb x y
    high p =
        by_order y h
        (λ q. rw (sub_high x h p, sub_low y h q, le-ltb x y (omega arith)))
        (λ q. rw (sub_high x h p, sub_high y h q) (same_order (x - h) (y - h) x y (omega arith) (omega arith)))
