-- Stretches by real address: one byte into all of one, and those that begin alike.
use Rattle.std.proofs.Common.{◌≡◌, ℕ, zero, suc, ◌+◌, ◌-◌, ◌*◌, ◌<◌, ◌≤◌, Bool, true, false, eqb, List, length, get_or, set, sym, refl, ◌∙◌, arith, length-set, get_or-set_same, eq-eqb, eqb-true}
use native.Mathlib.Numerals.{unary_clauses}
use borrow.Author.Tests.{eqb-false}
use Rattle.words.specs.Pick.{pick}
use Rattle.words.specs.Codes.{compare_bits}
use Rattle.fields.specs.Direct.{flat, flat_fill, flat_move, flat_compare}
use Rattle.fields.proofs.ByteLoops.{pred_suc}
use Rattle.fields.proofs.FlatLoops.{flat_compare_none, flat_compare_turn}
use Rattle.fields.proofs.Pieces.{unlike_code}

pub fill_turn : (mem : List ℕ) (a v left : ℕ) → 0 < left → flat_fill mem a v left ≡ flat_fill (set mem a v) (a + 1) v (left - 1)
unfolding flat_fill
fill_turn mem a v zero h = absurd (omega arith)
fill_turn mem a v (suc k) h = rw pred_suc

pub fill_none : (mem : List ℕ) (a v left : ℕ) → left ≤ 0 → flat_fill mem a v left ≡ mem
unfolding flat_fill
fill_none mem a v zero h = refl
fill_none mem a v (suc k) h = absurd (omega arith)

-- one byte to the right, each byte stored is the one read next
pub fill_is_move : (n : ℕ) (mem : List ℕ) (a b v : ℕ) → a ≡ b + 1 → v ≡ get_or mem b 0 → a + n ≤ length mem → flat_fill mem a v n ≡ flat_move mem a b n
unfolding flat_fill flat_move
fill_is_move zero mem a b v t e h = refl
fill_is_move (suc n) mem a b v t e h =
    rw (← e)
    (fill_is_move n (set mem a v) (a + 1) (b + 1) v (omega arith) (sym (rw (← t) (get_or-set_same mem a v 0 (omega arith)))) (omega (arith, length-set mem a v)))

-- stretches that begin alike compare as what is left of them
pub flat_compare_on : (s : ℕ) (mem : List ℕ) (a b n : ℕ) → flat_compare mem a b s ≡ 0 → s ≤ n
    → flat_compare mem a b n ≡ flat_compare mem (a + s) (b + s) (n - s)
unfolding flat_compare
flat_compare_on zero mem a b n e h = simp unary_clauses
flat_compare_on (suc s) mem a b zero e h = absurd (omega arith)
flat_compare_on (suc s) mem a b (suc n) e h =
    go (eqb (get_or mem a 0) (get_or mem b 0)) refl (λ k. flat_compare_on s mem (a + 1) (b + 1) n k (omega arith)) e
  where
    one_on_lem : (x : ℕ) → x + 1 + s ≡ x + suc s
    one_on_lem x = omega arith

    less_one : n - s ≡ suc n - suc s
    less_one = omega arith

    go : (q : Bool) → eqb (get_or mem a 0) (get_or mem b 0) ≡ q
        → (flat_compare mem (a + 1) (b + 1) s ≡ 0 → flat_compare mem (a + 1) (b + 1) n ≡ flat_compare mem (a + 1 + s) (b + 1 + s) (n - s))
        → pick q (flat_compare mem (a + 1) (b + 1) s) (compare_bits (get_or mem a 0) (get_or mem b 0)) ≡ 0
        → pick q (flat_compare mem (a + 1) (b + 1) n) (compare_bits (get_or mem a 0) (get_or mem b 0))
        ≡ flat_compare mem (a + suc s) (b + suc s) (suc n - suc s)
    go true f rest k = rest k ∙ rw (one_on_lem a, one_on_lem b, less_one)
    go false f rest k = absurd (eqb-false (compare_bits (get_or mem a 0) (get_or mem b 0)) 0 (unlike_code (get_or mem a 0) (get_or mem b 0) f) k)

pub alike_more : (mem : List ℕ) (a b i : ℕ) → flat_compare mem a b i ≡ 0 → get_or mem (a + i) 0 ≡ get_or mem (b + i) 0 → flat_compare mem a b (i + 1) ≡ 0
alike_more mem a b i e h =
    flat_compare_on i mem a b (i + 1) e (omega arith)
    ∙ flat_compare_turn mem (a + i) (b + i) _ _ refl refl (i + 1 - i) (omega arith) (omega arith) (omega arith)
    ∙ flat_compare_none mem (a + i + 1) (b + i + 1) (i + 1 - i - 1) (omega arith)

-- what begins a stretch that is alike is alike
pub alike_fewer : (s : ℕ) (mem : List ℕ) (a b n : ℕ) → flat_compare mem a b n ≡ 0 → s ≤ n → flat_compare mem a b s ≡ 0
unfolding flat_compare
alike_fewer zero mem a b n e h = refl
alike_fewer (suc s) mem a b zero e h = absurd (omega arith)
alike_fewer (suc s) mem a b (suc n) e h =
    go (eqb (get_or mem a 0) (get_or mem b 0)) refl (λ k. alike_fewer s mem (a + 1) (b + 1) n k (omega arith)) e
  where
    go : (q : Bool) → eqb (get_or mem a 0) (get_or mem b 0) ≡ q
        → (flat_compare mem (a + 1) (b + 1) n ≡ 0 → flat_compare mem (a + 1) (b + 1) s ≡ 0)
        → pick q (flat_compare mem (a + 1) (b + 1) n) (compare_bits (get_or mem a 0) (get_or mem b 0)) ≡ 0
        → pick q (flat_compare mem (a + 1) (b + 1) s) (compare_bits (get_or mem a 0) (get_or mem b 0)) ≡ 0
    go true f rest k = rest k
    go false f rest k = k

-- the first bytes of stretches that are alike
pub alike_first : (mem : List ℕ) (a b n : ℕ) → flat_compare mem a b n ≡ 0 → 0 < n → get_or mem a 0 ≡ get_or mem b 0
unfolding flat_compare
alike_first mem a b zero e h = absurd (omega arith)
alike_first mem a b (suc n) e h = go (eqb (get_or mem a 0) (get_or mem b 0)) refl e
  where
    go : (q : Bool) → eqb (get_or mem a 0) (get_or mem b 0) ≡ q
        → pick q (flat_compare mem (a + 1) (b + 1) n) (compare_bits (get_or mem a 0) (get_or mem b 0)) ≡ 0 → get_or mem a 0 ≡ get_or mem b 0
    go true f k = eqb-true (get_or mem a 0) (get_or mem b 0) f
    go false f k = absurd (eqb-false (compare_bits (get_or mem a 0) (get_or mem b 0)) 0 (unlike_code (get_or mem a 0) (get_or mem b 0) f) k)

-- and the bytes at i
pub alike_at : (mem : List ℕ) (a b i : ℕ) → flat_compare mem a b (i + 1) ≡ 0 → get_or mem (a + i) 0 ≡ get_or mem (b + i) 0
alike_at mem a b i e =
    alike_first mem (a + i) (b + i) (i + 1 - i)
    (sym (flat_compare_on i mem a b (i + 1) (alike_fewer i mem a b (i + 1) e (omega arith)) (omega arith)) ∙ e)
    (omega arith)

-- bytes that are alike make one number
pub alike_flat : (n : ℕ) (mem : List ℕ) (a b v : ℕ) → flat_compare mem a b n ≡ 0 → flat mem a n v ≡ flat mem b n v
unfolding flat flat_compare
alike_flat zero mem a b v e = refl
alike_flat (suc n) mem a b v e = go (eqb (get_or mem a 0) (get_or mem b 0)) refl (alike_flat n mem (a + 1) (b + 1) (v * 256 + get_or mem b 0)) e
  where
    go : (q : Bool) → eqb (get_or mem a 0) (get_or mem b 0) ≡ q
        → (flat_compare mem (a + 1) (b + 1) n ≡ 0 → flat mem (a + 1) n (v * 256 + get_or mem b 0) ≡ flat mem (b + 1) n (v * 256 + get_or mem b 0))
        → pick q (flat_compare mem (a + 1) (b + 1) n) (compare_bits (get_or mem a 0) (get_or mem b 0)) ≡ 0
        → flat mem (a + 1) n (v * 256 + get_or mem a 0) ≡ flat mem (b + 1) n (v * 256 + get_or mem b 0)
    go true f rest k = rw (eqb-true (get_or mem a 0) (get_or mem b 0) f) (rest k)
    go false f rest k = absurd (eqb-false (compare_bits (get_or mem a 0) (get_or mem b 0)) 0 (unlike_code (get_or mem a 0) (get_or mem b 0) f) k)

-- two numbers of n bytes are equal only if the bytes are
pub flat_alike : (n : ℕ) (mem : List ℕ) (a b v w : ℕ) → ((i : ℕ) → get_or mem i 0 < 256) → flat mem a n v ≡ flat mem b n w
    → (v ≡ w) × (flat_compare mem a b n ≡ 0)
unfolding flat flat_compare
flat_alike zero mem a b v w k e = (e, refl)
flat_alike (suc n) mem a b v w k e =
    let r = flat_alike n mem (a + 1) (b + 1) (v * 256 + get_or mem a 0) (w * 256 + get_or mem b 0) k e in
    let x : get_or mem a 0 ≡ get_or mem b 0 = omega (arith, r.0, k a, k b) in
    (omega (arith, r.0, k a, k b), rw (eq-eqb (get_or mem a 0) (get_or mem b 0) x) r.1)

-- two stretches of four, one behind the other
pub alike_eight : (mem : List ℕ) (a b : ℕ) → ((i : ℕ) → get_or mem i 0 < 256) → flat mem a 4 0 ≡ flat mem b 4 0
    → flat mem (a + 4) 4 0 ≡ flat mem (b + 4) 4 0 → flat_compare mem a b 8 ≡ 0
alike_eight mem a b k e f =
    flat_compare_on 4 mem a b 8 (flat_alike 4 mem a b 0 0 k e).1 (omega arith) ∙ (flat_alike 4 mem (a + 4) (b + 4) 0 0 k f).1

pub eight_first_lem : (mem : List ℕ) (a b : ℕ) → flat_compare mem a b 8 ≡ 0 → flat mem a 4 0 ≡ flat mem b 4 0
eight_first_lem mem a b e = alike_flat 4 mem a b 0 (alike_fewer 4 mem a b 8 e (omega arith))

pub eight_second : (mem : List ℕ) (a b : ℕ) → flat_compare mem a b 8 ≡ 0 → flat mem (a + 4) 4 0 ≡ flat mem (b + 4) 4 0
eight_second mem a b e =
    alike_flat 4 mem (a + 4) (b + 4) 0 (sym (flat_compare_on 4 mem a b 8 (alike_fewer 4 mem a b 8 e (omega arith)) (omega arith)) ∙ e)
