-- Signed words and results as lifted numbers: a word's value is `sub_ℕ r 2147483648`, a result `sub_ℕ t 4294967296`.
use mathlib.Core.Path.{◌≡◌, ap, ◌∙◌}
use mathlib.Core.Bool.{Bool}
use Prim.Native.Nat.{ℕ, ◌+◌, ◌-◌, ◌%◌, ◌≤◌, ◌<◌}
use native.Mathlib.Omega.{arith}
use borrow.Author.Tests.{le-ltb}
use lib.Dec.{ltb}
use lib.IntN.{pos, sub_ℕ}
use lib.Signed.{lt_z}
use Rattle.words.specs.Pick.{either}
use Rattle.words.specs.Whole.{word_top, half_top, signed, kept, overflows, spread}
use Rattle.words.proofs.Choice.{by_order}
use Rattle.words.proofs.Differences.{sub_low, sub_high, same_difference, lt_sub}
use Rattle.words.proofs.Range.{signed_low, signed_high}

-- ---- what a result tells

pub lifted_kept : (t : ℕ) → kept word_top (sub_ℕ t 4294967296) ≡ t % 4294967296
unfolding kept
lifted_kept t =
    by_order t 4294967296 (λ h. rw (sub_low t 4294967296 h) (omega arith)) (λ h. rw (sub_high t 4294967296 h) (omega arith))

pub lifted_over : (t : ℕ) → overflows word_top (sub_ℕ t 4294967296) ≡ either (ltb t 2147483648) (ltb 6442450943 t)
unfolding overflows
lifted_over t =
    ap (λ (b : Bool). either b (lt_z (pos 2147483647) (sub_ℕ t 4294967296))) (lt_sub 4294967296 t 2147483648)
    ∙ ap (λ (b : Bool). either (ltb t 2147483648) b) (lt_sub 4294967296 6442450943 t)

-- ---- words

pub lift_low : (a : ℕ) → a < 2147483648 → signed word_top a ≡ sub_ℕ (a + 2147483648) 2147483648
lift_low a h = rw (signed_low word_top a h, sub_high (a + 2147483648) 2147483648 (omega arith)) (ap pos (omega arith))

pub lift_high : (a : ℕ) → 2147483648 ≤ a → signed word_top a ≡ sub_ℕ (a - 2147483648) 2147483648
unfolding signed
lift_high a h = rw (le-ltb a 2147483648 h) (same_difference a 4294967296 (a - 2147483648) 2147483648 (omega arith))

pub spread_low : (h : ℕ) → h < 32768 → h ≡ spread h
unfolding spread kept
spread_low h l = rw (signed_low half_top h l) (omega arith)

pub spread_high : (h : ℕ) → 32768 ≤ h → h < 65536 → h + 4294901760 ≡ spread h
unfolding spread kept
spread_high h l k = rw (signed_high half_top h l k) (omega arith)

-- ---- a magnitude as a result

pub positive_is : (n : ℕ) → pos n ≡ sub_ℕ (4294967296 + n) 4294967296
positive_is n = rw (sub_high (4294967296 + n) 4294967296 (omega arith)) (ap pos (omega arith))
