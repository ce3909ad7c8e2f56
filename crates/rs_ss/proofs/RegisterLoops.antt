-- Registers and words, one after the other: a turn at a time, and in two parts.
use Prim.Native.Nat.{ℕ, zero, suc, ◌+◌, ◌-◌, ◌*◌, ◌%◌, ◌<◌, ◌≤◌}
use native.Mathlib.Omega.{arith}
use mathlib.Core.Path.{◌≡◌, ◌∙◌}
use Rattle.machine.specs.Rs.{next_reg, next_word}
use Rattle.fields.proofs.ByteLoops.{pred_suc}
use Rattle.rs_ss.specs.Multiple.{words}

module _ {X : Type 0} (on : ℕ → ℕ) (each : ℕ → ℕ → X → X) where
  pub words_turn : (left r a : ℕ) (x : X) → 0 < left → words on each left r a x ≡ words on each (left - 1) (next_reg r) (on a) (each r a x)
  unfolding words
  words_turn zero r a x h = absurd (omega arith)
  words_turn (suc k) r a x h = rw pred_suc

  pub words_none : (left r a : ℕ) (x : X) → left ≤ 0 → words on each left r a x ≡ x
  unfolding words
  words_none left r a x h = let z : left ≡ 0 = omega arith in rw z

-- the first n of them, and on from there
pub words_parts : {X : Type 0} (each : ℕ → ℕ → X → X) (n left r a : ℕ) (x : X) → 0 < n → n ≤ left
    → words next_word each left r a x
    ≡ words next_word each (left - n) ((r + n) % 16) ((a + n * 4) % 16777216) (words next_word each n r a x)
unfolding words
words_parts each zero left r a x p h = absurd (omega arith)
words_parts each (suc zero) left r a x p h = words_turn next_word each left r a x (omega arith)
words_parts each (suc (suc n)) left r a x p h =
    let i : left - 1 - suc n ≡ left - suc (suc n) = omega arith in
    let j : (next_reg r + suc n) % 16 ≡ (r + suc (suc n)) % 16 = omega arith in
    let k : (next_word a + suc n * 4) % 16777216 ≡ (a + suc (suc n) * 4) % 16777216 = omega arith in
    words_turn next_word each left r a x (omega arith)
    ∙ words_parts each (suc n) (left - 1) (next_reg r) (next_word a) (each r a x) (omega arith) (omega arith)
    ∙ rw (i, j, k)
