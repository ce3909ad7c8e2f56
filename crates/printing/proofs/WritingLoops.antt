-- Loops that write: what is left from here is the whole. `w` is the writer at the start, `s` the writer here, `t` after one turn.
-- Of spots, `w` is where the whole ends.
use mathlib.Core.Path.{◌≡◌, refl, sym, ap, ◌∙◌}
use mathlib.Core.Logic.{◌⊎◌, inl, inr}
use mathlib.Core.List.{List, [], ◌∷◌, ◌++◌}
use Prim.Native.Nat.{ℕ, zero, suc, ◌+◌, ◌-◌, ◌/◌, ◌%◌, ◌^◌, ◌≤◌, ◌<◌}
use native.Mathlib.Omega.{arith}
use native.Mathlib.Numerals.{add-one}
use lib.ListN.{length, get_or, drop, drop_of_length-le}
use lib.Seq.{drop-cons}
use Rattle.printing.specs.Digits.{digit, digits_of}
use Rattle.printing.specs.Answer.{reg_part, page_part, regs_from, pages_from}
use Rattle.printing.specs.declared.writing.Writer.{Writer}
use Rattle.printing.specs.Writing.{Spot, wrote, spot_of, Wrote}
use Rattle.printing.proofs.WrittenText.{wrote_append}

-- nothing is left, so it is all there
pub nothing_left : (w s : Spot) (rest : List ℕ) → [] ≡ rest → w ≡ wrote s rest → s ≡ w
unfolding wrote
nothing_left w s rest e h = ap (wrote s) e ∙ sym h

module _ (w s t : Spot) where
  -- the rest is x and then y, and x was written
  pub turn : (rest x y : List ℕ) → rest ≡ x ++ y → w ≡ wrote s rest → t ≡ wrote s x → w ≡ wrote t y
  turn rest x y e h f = h ∙ ap (wrote s) e ∙ wrote_append s x y ∙ ap (λ (k : Spot). wrote k y) (sym f)

-- the rest from s on is the whole text from w on
pub record Leaves (w s : Writer) (whole rest : List ℕ) : Type 0 where
  pub same_buffer : s.buf.ghost_name ≡ w.buf.ghost_name
  pub left : wrote (spot_of w) whole ≡ wrote (spot_of s) rest

-- at the start
pub all_left : (w : Writer) (whole rest : List ℕ) → whole ≡ rest → Leaves w w whole rest
all_left w whole rest e = record { same_buffer = refl; left = ap (wrote (spot_of w)) e }

-- the same of writers
pub nothing_left_wrote : (w s : Writer) (whole rest : List ℕ) → [] ≡ rest → Leaves w s whole rest → Wrote w s whole
nothing_left_wrote w s whole rest e h =
    record { same_buffer = h.same_buffer; written = nothing_left (wrote (spot_of w) whole) (spot_of s) rest e h.left }

module _ (w s t : Writer) (whole : List ℕ) where
  pub turn_wrote : (rest x y : List ℕ) → rest ≡ x ++ y → Leaves w s whole rest → Wrote s t x → Leaves w t whole y
  turn_wrote rest x y e h f =
      record {
        same_buffer = f.same_buffer ∙ h.same_buffer;
        left = turn (wrote (spot_of w) whole) (spot_of s) (spot_of t) rest x y e h.left f.written;
      }

  module _ (text : List ℕ) (i : ℕ) (h : Leaves w s whole (drop i text)) where
    pub text_turn : i < length text → Wrote s t (get_or text i 0 ∷ []) → Leaves w t whole (drop (i + 1) text)
    text_turn l f = turn_wrote (drop i text) (get_or text i 0 ∷ []) (drop (i + 1) text) (rw (add-one, drop-cons text i 0)) h f

    pub text_end : length text ≤ i → Wrote w s whole
    text_end l = nothing_left_wrote w s whole (drop i text) (sym (drop_of_length-le text l)) h

  module _ (base left v d : ℕ) (h : Leaves w s whole (digits_of base left v)) where
    pub digits_turn : 0 < left → d ≡ digit (v / base ^ (left - 1) % base) → Wrote s t (d ∷ [])
        → Leaves w t whole (digits_of base (left - 1) v)
    digits_turn l e f =
        turn_wrote (digits_of base left v) (d ∷ []) (digits_of base (left - 1) v)
        (go left l ∙ ap (λ (k : ℕ). k ∷ digits_of base (left - 1) v) (sym e))
        h
        f
      where
        go : (k : ℕ) → 0 < k → digits_of base k v ≡ digit (v / base ^ (k - 1) % base) ∷ digits_of base (k - 1) v
        go zero l = absurd (omega arith)
        go (suc k) l =
            let n : suc k - 1 ≡ k = omega arith in
            rw n (unfold digits_of in refl)

    pub digits_end : left ≤ 0 → Wrote w s whole
    digits_end l = nothing_left_wrote w s whole (digits_of base left v) (go left l) h
      where
        go : (k : ℕ) → k ≤ 0 → [] ≡ digits_of base k v
        go zero l = unfold digits_of in refl
        go (suc k) l = absurd (omega arith)

  module _ (regs : List ℕ) (i : ℕ) (h : Leaves w s whole (regs_from i (drop i regs))) where
    pub regs_turn : i < length regs → Wrote s t (reg_part i (get_or regs i 0)) → Leaves w t whole (regs_from (i + 1) (drop (i + 1) regs))
    unfolding regs_from
    regs_turn l f =
        turn_wrote (regs_from i (drop i regs)) (reg_part i (get_or regs i 0)) (regs_from (i + 1) (drop (i + 1) regs))
        (rw (add-one, drop-cons regs i 0))
        h
        f

    pub regs_end : length regs ≤ i → Wrote w s whole
    unfolding regs_from
    regs_end l = nothing_left_wrote w s whole (regs_from i (drop i regs)) (ap (regs_from i) (sym (drop_of_length-le regs l))) h

  -- the words at the start and at the end that are to come
  module _ (n : ℕ) (before done : List ℕ) (h : Leaves w s whole (pages_from n before done)) where
    pub pages_turn : (m n' b a : ℕ) (before' done' : List ℕ) → m ≡ n → n' ≡ n + 1 → before ≡ b ∷ before' → done ≡ a ∷ done'
        → Wrote s t (page_part m b a) → Leaves w t whole (pages_from n' before' done')
    unfolding pages_from
    pages_turn m n' b a before' done' i j e f g =
        turn_wrote (pages_from n before done) (page_part m b a) (pages_from n' before' done') (rw (e, f, i, j, add-one)) h g

    pub pages_end : (length before ≡ 0) ⊎ (length done ≡ 0) → Wrote w s whole
    pages_end e = nothing_left_wrote w s whole (pages_from n before done) (none before done e) h
      where
        none : (bs as' : List ℕ) → (length bs ≡ 0) ⊎ (length as' ≡ 0) → [] ≡ pages_from n bs as'
        none [] as' k = unfold pages_from in refl
        none (b ∷ bs) [] k = unfold pages_from in refl
        none (b ∷ bs) (a ∷ as') (inl k) = absurd (omega arith)
        none (b ∷ bs) (a ∷ as') (inr k) = absurd (omega arith)
