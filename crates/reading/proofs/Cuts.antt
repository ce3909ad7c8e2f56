-- A text cut at its marks: from an index on, at the first mark, and how many marks there are.
use mathlib.Core.Path.{◌≡◌, refl, ◌∙◌}
use mathlib.Core.Bool.{Bool, true, false, cond}
use mathlib.Core.List.{List, [], ◌∷◌}
use Prim.Native.Nat.{ℕ, suc, ◌+◌, ◌-◌, ◌≤◌, ◌<◌}
use native.Mathlib.Omega.{arith}
use lib.Dec.{eqb}
use lib.ListN.{length, take, drop, length-drop}
use lib.Seq.{length-take-le, take_all}
use Rattle.std.specs.List.{position, position_or_len}
use Rattle.std.specs.Option.{unwrap_or}
use Rattle.std.proofs.lemmas.List.Recursion.{is_position_or_len}
use Rattle.words.specs.Pick.{pick}
use Rattle.reading.specs.Cut.{span, before, after, count}

-- ---- the first mark
pub span_within : (mark : ℕ) (bs : List ℕ) → span mark bs ≤ length bs
unfolding span
span_within mark [] = omega arith
span_within mark (b ∷ bs) = go (eqb b mark) (span_within mark bs)
  where
    go : (t : Bool) → span mark bs ≤ length bs → pick t 0 (suc (span mark bs)) ≤ suc (length bs)
    go true h = omega arith
    go false h = omega arith

span_first : (mark : ℕ) (s : List ℕ) → span mark s ≡ position_or_len (λ b. eqb b mark) s
unfolding span
span_first mark s = is_position_or_len (span mark) (λ b. eqb b mark) refl (λ b bs. by (eqb b mark) (span mark bs)) s
  where
    by : (t : Bool) (n : ℕ) → pick t 0 (suc n) ≡ cond t 0 (1 + n)
    by true n = refl
    by false n = omega arith

pub find_is : (mark : ℕ) (s : List ℕ) (n : ℕ) → n ≡ unwrap_or (position (λ b. eqb b mark) s) (length s) → n ≡ span mark s
find_is mark s n e =
    let f : span mark s ≡ position_or_len (λ b. eqb b mark) s = span_first mark s in
    let h : span mark s ≤ length s = span_within mark s in
    grind arith

-- ---- what stands behind the first mark, by the length of what stands before it
module _ (mark : ℕ) (s text : List ℕ) (cut : text ≡ before mark s) (e : length text ≡ length s → ⊥) where
  as_long : length text ≡ span mark s
  unfolding before
  as_long = rw cut (length-take-le (span mark s) s (span_within mark s))

  pub behind_fits : length text + 1 ≤ length s
  behind_fits = omega (arith, as_long, span_within mark s, e)

  pub behind_is : take (length s - (length text + 1)) (drop (length text + 1) s) ≡ after mark s
  unfolding after
  behind_is =
      take_all (length s - (length text + 1)) (drop (length text + 1) s) (omega (arith, length-drop (length text + 1) s))
      ∙ rw as_long

-- ---- marks that are counted
pub count_none : (mark : ℕ) (bs : List ℕ) → length bs ≤ span mark bs → count mark bs ≡ 0
unfolding span count
count_none mark [] h = refl
count_none mark (b ∷ bs) h = go (eqb b mark) h (count_none mark bs)
  where
    go : (t : Bool) → suc (length bs) ≤ pick t 0 (suc (span mark bs)) → (length bs ≤ span mark bs → count mark bs ≡ 0)
        → pick t (suc (count mark bs)) (count mark bs) ≡ 0
    go true k ih = absurd (omega arith)
    go false k ih = ih (omega arith)

pub count_some : (mark : ℕ) (bs : List ℕ) → span mark bs < length bs → count mark bs ≡ suc (count mark (after mark bs))
unfolding span count after
count_some mark [] h = absurd (omega arith)
count_some mark (b ∷ bs) h = go (eqb b mark) h (count_some mark bs)
  where
    go : (t : Bool) → pick t 0 (suc (span mark bs)) < suc (length bs) → (span mark bs < length bs → count mark bs ≡ suc (count mark (after mark bs)))
        → pick t (suc (count mark bs)) (count mark bs) ≡ suc (count mark (drop (pick t 0 (suc (span mark bs)) + 1) (b ∷ bs)))
    go true k ih = refl
    go false k ih =
        let e : suc (span mark bs) + 1 ≡ suc (span mark bs + 1) = omega arith in
        rw e (unfold after in ih (omega arith))
