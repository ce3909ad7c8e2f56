-- What each function of signed.rt has in hand where it returns, and what it is to show.
use mathlib.Core.Path.{◌≡◌, sym, ap, ◌∙◌}
use mathlib.Core.Bool.{true}
use Prim.Native.Nat.{ℕ, ◌+◌, ◌-◌, ◌/◌, ◌%◌, ◌≤◌, ◌<◌}
use native.Mathlib.Omega.{arith}
use lib.Dec.{ltb}
use lib.IntN.{pos, neg_ℤ, sub_ℕ, nat_abs, ◌+ℤ◌, ◌-ℤ◌}
use lib.Signed.{lt_z}
use borrow.Author.Tests.{lt-ltb, le-ltb}
use Rattle.words.specs.declared.Res.{Res}
use Rattle.words.specs.Whole.{word_top, signed, magnitude}
use Rattle.words.specs.Codes.{sign_code, compare_signed, compare_bits}
use Rattle.words.specs.Combine.{result_of, signed_result}
use Rattle.words.proofs.Choice.{by_order}
use Rattle.words.proofs.Differences.{sub_low, sub_high, same_difference, neg_sub, add_sub, lt_sub}
use Rattle.words.proofs.SignCodes.{code_zero, code_above}
use Rattle.arithmetic.proofs.Lifted.{lifted_kept, lifted_over, positive_is}

-- t / 2147483648 tells the sign and whether the number fits
module _ (t : ℕ) where
  fits : (k : ℕ) → 2147483648 ≤ t → t < 6442450944 → k ≡ sign_code (sub_ℕ t 4294967296)
      → result_of (t % 4294967296) k ≡ signed_result (sub_ℕ t 4294967296)
  unfolding signed_result
  fits k h l e = rw (lifted_over t, le-ltb t 2147483648 h, le-ltb 6442450943 t (omega arith), lifted_kept t, e)

  pub result_below : t / 2147483648 ≡ 1 → result_of (t % 4294967296) 1 ≡ signed_result (sub_ℕ t 4294967296)
  unfolding sign_code
  result_below q = fits 1 (omega arith) (omega arith) (rw (sub_low t 4294967296 (omega arith)))

  module _ (q : t / 2147483648 ≡ 2) where
    not_below : (k : ℕ) → k ≡ sign_code (pos (t % 4294967296)) → result_of (t % 4294967296) k ≡ signed_result (sub_ℕ t 4294967296)
    not_below k e =
        let m : t % 4294967296 ≡ t - 4294967296 = omega arith in
        fits k (omega arith) (omega arith) (rw (sub_high t 4294967296 (omega arith), ← m) e)

    pub result_zero : t % 4294967296 ≡ 0 → result_of (t % 4294967296) 0 ≡ signed_result (sub_ℕ t 4294967296)
    result_zero z = not_below 0 (code_zero (t % 4294967296) z)

    pub result_above : (t % 4294967296 ≡ 0 → ⊥) → result_of (t % 4294967296) 2 ≡ signed_result (sub_ℕ t 4294967296)
    result_above n = not_below 2 (code_above (t % 4294967296) n)

  pub result_over : (t / 2147483648 ≡ 1 → ⊥) → (t / 2147483648 ≡ 2 → ⊥)
      → record { value = t % 4294967296; code = 3; over = true } ≡ signed_result (sub_ℕ t 4294967296)
  unfolding signed_result
  result_over m n =
      by_order t 2147483648
      (λ h. rw (lifted_over t, lt-ltb t 2147483648 h, lifted_kept t))
      (λ h. rw (lifted_over t, le-ltb t 2147483648 h, lt-ltb 6442450943 t (omega arith), lifted_kept t))

-- x is the word lifted
module _ (b x : ℕ) (r : Res ℕ) (e : signed word_top b ≡ sub_ℕ x 2147483648) where
  pub test_word : r ≡ signed_result (sub_ℕ (x + 2147483648) 4294967296) → r ≡ signed_result (signed word_top b)
  test_word h = rw (h, e) (ap signed_result (same_difference (x + 2147483648) 4294967296 x 2147483648 (omega arith)))

  pub complement_word : x < 4294967296 → r ≡ signed_result (sub_ℕ (6442450944 - x) 4294967296) → r ≡ signed_result (neg_ℤ (signed word_top b))
  complement_word l h =
      rw (h, e) (ap signed_result (same_difference (6442450944 - x) 4294967296 2147483648 x (omega arith) ∙ sym (neg_sub x 2147483648)))

-- n is its magnitude
module _ (b n : ℕ) (r : Res ℕ) (e : n ≡ nat_abs (signed word_top b)) where
  pub positive_word : r ≡ signed_result (sub_ℕ (4294967296 + n) 4294967296) → r ≡ signed_result (magnitude (signed word_top b))
  positive_word h = rw (h, ← e, positive_is n)

  pub negative_word : n ≤ 2147483648 → r ≡ signed_result (sub_ℕ (4294967296 - n) 4294967296)
      → r ≡ signed_result (neg_ℤ (magnitude (signed word_top b)))
  negative_word l h =
      let d = same_difference (4294967296 - n) 4294967296 4294967296 (4294967296 + n) (omega arith) in
      rw (h, ← e) (ap signed_result (d ∙ sym (neg_sub (4294967296 + n) 4294967296) ∙ ap neg_ℤ (sym (positive_is n))))

-- x and y are the words lifted
module _ (a b x y : ℕ) (e : signed word_top a ≡ sub_ℕ x 2147483648) (f : signed word_top b ≡ sub_ℕ y 2147483648) where
  pub add_words : (r : Res ℕ) → r ≡ signed_result (sub_ℕ (x + y) 4294967296) → r ≡ signed_result (signed word_top a +ℤ signed word_top b)
  add_words r h = rw (h, e, f) (ap signed_result (sym (add_sub x 2147483648 y 2147483648)))

  pub subtract_words : (r : Res ℕ) → y < 4294967296 → r ≡ signed_result (sub_ℕ (4294967296 + x - y) 4294967296)
      → r ≡ signed_result (signed word_top a -ℤ signed word_top b)
  subtract_words r l h =
      let d = same_difference (4294967296 + x - y) 4294967296 (x + 2147483648) (2147483648 + y) (omega arith) in
      rw (h, e, f, neg_sub y 2147483648) (ap signed_result (d ∙ sym (add_sub x 2147483648 2147483648 y)))

  pub compare_words : (r : ℕ) → r ≡ compare_bits x y → r ≡ compare_signed (signed word_top a) (signed word_top b)
  unfolding compare_signed compare_bits
  compare_words r h = rw (e, f, lt_sub 2147483648 x y, lt_sub 2147483648 y x) h

  pub order_words : ltb x y ≡ lt_z (signed word_top a) (signed word_top b)
  order_words = rw (e, f) (sym (lt_sub 2147483648 x y))
