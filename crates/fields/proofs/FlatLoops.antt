-- The loops by real address, a turn at a time.
use Rattle.std.proofs.Common.{◌≡◌, ℕ, zero, suc, ◌+◌, ◌-◌, ◌<◌, ◌≤◌, List, get_or, set, refl, arith, le-ltb, lt-ltb, eq-eqb, ne_eqb}
use Rattle.words.specs.Codes.{compare_bits}
use Rattle.fields.specs.Direct.{flat_move, flat_compare}
use Rattle.fields.proofs.ByteLoops.{pred_suc}

pub flat_move_turn : (mem : List ℕ) (a b left : ℕ) → 0 < left → flat_move mem a b left ≡ flat_move (set mem a (get_or mem b 0)) (a + 1) (b + 1) (left - 1)
unfolding flat_move
flat_move_turn mem a b zero h = absurd (omega arith)
flat_move_turn mem a b (suc k) h = rw pred_suc

pub flat_move_none : (mem : List ℕ) (a b left : ℕ) → left ≤ 0 → flat_move mem a b left ≡ mem
unfolding flat_move
flat_move_none mem a b zero h = refl
flat_move_none mem a b (suc k) h = absurd (omega arith)

pub flat_compare_none : (mem : List ℕ) (a b left : ℕ) → left ≤ 0 → flat_compare mem a b left ≡ 0
unfolding flat_compare
flat_compare_none mem a b zero h = refl
flat_compare_none mem a b (suc k) h = absurd (omega arith)

module _ (mem : List ℕ) (a b x y : ℕ) (ex : x ≡ get_or mem a 0) (ey : y ≡ get_or mem b 0) where
  pub flat_compare_low : (left : ℕ) → 0 < left → x < y → 1 ≡ flat_compare mem a b left
  unfolding flat_compare compare_bits
  flat_compare_low zero h l = absurd (omega arith)
  flat_compare_low (suc k) h l = rw (← ex, ← ey, ne_eqb x y (omega arith), lt-ltb x y l)

  pub flat_compare_high : (left : ℕ) → 0 < left → y < x → 2 ≡ flat_compare mem a b left
  unfolding flat_compare compare_bits
  flat_compare_high zero h l = absurd (omega arith)
  flat_compare_high (suc k) h l = rw (← ex, ← ey, ne_eqb x y (omega arith), le-ltb x y (omega arith), lt-ltb y x l)

  pub flat_compare_turn : (left : ℕ) → 0 < left → y ≤ x → x ≤ y → flat_compare mem a b left ≡ flat_compare mem (a + 1) (b + 1) (left - 1)
  unfolding flat_compare
  flat_compare_turn zero h l m = absurd (omega arith)
  flat_compare_turn (suc k) h l m = rw (← ex, ← ey, eq-eqb x y (omega arith), pred_suc)
