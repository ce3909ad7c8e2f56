-- What the functions of wide.rt have in hand where they return: x and y are the sizes of what w (or a) and b stand for.
use mathlib.Core.Path.{◌≡◌, sym, ◌∙◌}
use mathlib.Core.Bool.{Bool, true, false}
use Prim.Native.Nat.{ℕ, ◌+◌, ◌*◌, ◌/◌, ◌%◌, ◌≤◌, ◌<◌}
use native.Mathlib.Nat.{mul-le-mul}
use native.Mathlib.Omega.{arith}
use lib.Dec.{leb}
use lib.IntN.{nat_abs}
use borrow.Author.Tests.{eq-eqb, ne_eqb}
use Rattle.std.specs.Prelude.{Ok}
use Rattle.words.specs.declared.PairOp.TheVariants.{Divide}
use Rattle.words.specs.Whole.{word_top, double_top, signed, kept, overflows}
use Rattle.words.specs.Wide.{no_quotient, product_of, quotient_of, remainder_of, pair_of}
use Rattle.words.proofs.Signs.{sized, unlike, product_sized, quotient_sized, remainder_sized}
use Rattle.words.proofs.Range.{signed_minus}

-- the product of two sizes of words
pub product_small : (x y : ℕ) → x ≤ 2147483648 → y ≤ 2147483648 → x * y < 18446744073709551616
product_small x y h k =
    let l : x * y ≤ 4611686018427387904 = mul-le-mul h k in
    omega arith

pub product_told : (a b x y r : ℕ) → a < 4294967296 → b < 4294967296 → x ≡ nat_abs (signed word_top a) → y ≡ nat_abs (signed word_top b)
    → r ≡ kept double_top (sized (unlike (leb 2147483648 a) (leb 2147483648 b)) (x * y)) → r ≡ product_of a b
unfolding product_of
product_told a b x y r l k e f h =
    h ∙ rw (e, f, ← signed_minus word_top a l, ← signed_minus word_top b k, product_sized (signed word_top a) (signed word_top b))

module _ (w b x y : ℕ) (l : w < 18446744073709551616) (k : b < 4294967296)
    (e : x ≡ nat_abs (signed double_top w)) (f : y ≡ nat_abs (signed word_top b)) where
  quotient_told : quotient_of w b ≡ sized (unlike (leb 9223372036854775808 w) (leb 2147483648 b)) (x / y)
  unfolding quotient_of
  quotient_told =
      rw (e, f, ← signed_minus double_top w l, ← signed_minus word_top b k) (quotient_sized (signed double_top w) (signed word_top b))

  remainder_told : remainder_of w b ≡ sized (leb 9223372036854775808 w) (x % y)
  unfolding remainder_of
  remainder_told = rw (e, f, ← signed_minus double_top w l) (remainder_sized (signed double_top w) (signed word_top b))

  module _ (o : Bool) (n : b ≡ 0 → ⊥)
      (h : o ≡ overflows word_top (sized (unlike (leb 9223372036854775808 w) (leb 2147483648 b)) (x / y))) where
    pub divide_over : o ≡ true → no_quotient ≡ pair_of Divide w b
    unfolding pair_of
    divide_over t = rw (ne_eqb b 0 n, quotient_told, sym h ∙ t)

    pub divide_fits : (left right : ℕ) → o ≡ false → left ≡ kept word_top (sized (leb 9223372036854775808 w) (x % y))
        → right ≡ kept word_top (sized (unlike (leb 9223372036854775808 w) (leb 2147483648 b)) (x / y))
        → Ok (left * 4294967296 + right) ≡ pair_of Divide w b
    unfolding pair_of
    divide_fits left right t p q = rw (ne_eqb b 0 n, quotient_told, sym h ∙ t, remainder_told, p, q)

pub divide_zero : (w b : ℕ) → b ≡ 0 → no_quotient ≡ pair_of Divide w b
unfolding pair_of
divide_zero w b e = rw (eq-eqb b 0 e)
