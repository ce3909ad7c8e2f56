-- The stage and the flags that the code keeps, and the order of the lines: both find the same first bad line.
use mathlib.Core.Path.{◌≡◌, refl, sym, ◌∙◌}
use mathlib.Core.Bool.{Bool, true, false, not}
use mathlib.Core.List.{List, [], ◌∷◌}
use Prim.Native.Nat.{ℕ, zero, suc, ◌+◌, ◌≤◌, ◌<◌}
use native.Mathlib.Omega.{arith}
use native.Mathlib.Decide.{ℕ_discrete}
use lib.Dec.{eqb, leb}
use lib.ListN.{length, get_or, set, replicate, length-set, length-replicate, get_or-replicate}
use lib.Seq.{get_or-set_same, get_or-set_other}
use borrow.Author.Tests.{le-leb, eq-eqb, ne_eqb, eqb-true, leb-true}
use Rattle.words.specs.Pick.{pick, both}
use Rattle.reading.specs.Cut.{before, after, count}
use Rattle.reading.specs.Line.{Line, page, bytes, reg, start, run, wrong, line_of}
use Rattle.reading.specs.Order.{each, nearest, above_page, above_bytes, above_reg, above_start, above_run, may_stand, may_end}
use Rattle.reading.specs.Setting.{Setting}
use Rattle.reading.specs.Sheet.{good, bad_at, lines_from, set_by, read_below}
use Rattle.reading.specs.Within.{State, goes_on, state_after, Left, left, left_bad, read_lines}
use Rattle.words.proofs.Tests.{both_true}
use Rattle.reading.proofs.Ranges.{InRange, in_range}

-- ---- the state is what the lines above say
record Kept (above : List Line) (s : State) : Type 0 where
  pages : length s.pages ≡ 512
  named : length s.named ≡ 16
  page : (n : ℕ) → n < 512
      → each (above_page n) above ≡ both (eqb s.stage 0) (not (get_or s.pages n false))
  bytes : each above_bytes above ≡ leb s.stage 1
  reg : (n : ℕ) → n < 16
      → each (above_reg n) above ≡ both (leb s.stage 2) (not (get_or s.named n false))
  start : each above_start above ≡ leb s.stage 2
  run : nearest above_run above ≡ eqb s.stage 3
  done : may_end above ≡ eqb s.stage 4

-- a flag after one is set
flag_set : (f : List Bool) (n m : ℕ) → n < length f → both (not (eqb n m)) (not (get_or f m false)) ≡ not (get_or (set f n true) m false)
flag_set f n m h = go (ℕ_discrete n m)
  where
    go : Dec (n ≡ m) → both (not (eqb n m)) (not (get_or f m false)) ≡ not (get_or (set f n true) m false)
    go (yes e) = rw (← e, eq-eqb n n refl, get_or-set_same f n true false h)
    go (no d) = rw (ne_eqb n m d, get_or-set_other f n m true false (λ e. d (sym e)))

module _ (above : List Line) (s : State) (k : Kept above s) where
  -- the code takes the lines that may stand
  same_test : (l : Line) → InRange l → may_stand l above ≡ goes_on l s
  unfolding may_stand
  same_test (page n w) h = k.page n h
  same_test (bytes a bs) h = k.bytes
  same_test (reg n v) h = k.reg n h
  same_test (start pc code mask) h = k.start
  same_test (run budget) h = k.run
  same_test wrong h = refl

  -- after each line that it takes the state is what the lines say
  kept_on : (l : Line) → InRange l → goes_on l s ≡ true → Kept (l ∷ above) (state_after l s)
  unfolding each nearest
  kept_on (page n w) h e =
      let z : s.stage ≡ 0 = eqb-true s.stage 0 (both_true (eqb s.stage 0) (not (get_or s.pages n false)) e).0 in
      let two : leb s.stage 2 ≡ true = le-leb s.stage 2 (omega arith) in
      record {
        pages = length-set s.pages n true ∙ k.pages;
        named = k.named;
        page = λ m i. rw (k.page m i, eq-eqb s.stage 0 z) (flag_set s.pages n m (rw k.pages h));
        bytes = k.bytes ∙ le-leb s.stage 1 (omega arith);
        reg = λ m i. rw (k.reg m i, two);
        start = k.start ∙ two;
        run = refl;
        done = refl;
      }
  kept_on (bytes a bs) h e =
      let z : s.stage ≤ 1 = leb-true s.stage 1 e in
      let two : leb s.stage 2 ≡ true = le-leb s.stage 2 (omega arith) in
      record {
        pages = k.pages;
        named = k.named;
        page = λ m i. refl;
        bytes = k.bytes ∙ e;
        reg = λ m i. rw (k.reg m i, two);
        start = k.start ∙ two;
        run = refl;
        done = refl;
      }
  kept_on (reg n v) h e =
      let two : leb s.stage 2 ≡ true = (both_true (leb s.stage 2) (not (get_or s.named n false)) e).0 in
      record {
        pages = k.pages;
        named = length-set s.named n true ∙ k.named;
        page = λ m i. refl;
        bytes = refl;
        reg = λ m i. rw (k.reg m i, two) (flag_set s.named n m (rw k.named h));
        start = k.start ∙ two;
        run = refl;
        done = refl;
      }
  kept_on (start pc code mask) h e =
      record { pages = k.pages; named = k.named; page = λ m i. refl; bytes = refl; reg = λ m i. refl; start = refl; run = refl; done = refl }
  kept_on (run budget) h e =
      record { pages = k.pages; named = k.named; page = λ m i. refl; bytes = refl; reg = λ m i. refl; start = refl; run = refl; done = refl }
  kept_on wrong h e = absurd (let z : ◌≡◌ {A = ℕ} 0 1 = cc in omega arith)

held_after : (l : Line) (s : State) → (state_after l s).held ≡ set_by l s.held
unfolding set_by
held_after (page n w) s = refl
held_after (bytes a bs) s = refl
held_after (reg n v) s = refl
held_after (start pc code mask) s = refl
held_after (run budget) s = refl
held_after wrong s = refl

-- ---- line by line
-- one line more: `rest` is what the code makes of the lines below it
module _ (above : List Line) (s : State) (k : Kept above s) (l : Line) (h : InRange l) (rest : Left) (ls : List Line) where
  one_more_lem : (goes_on l s ≡ true → rest.reading ≡ read_below (l ∷ above) (state_after l s).held ls)
      → (pick (goes_on l s) rest (left_bad (length above + 1) s)).reading ≡ read_below above s.held (l ∷ ls)
  one_more_lem below = go (goes_on l s) refl
    where
      go : (t : Bool) → goes_on l s ≡ t
          → (pick (goes_on l s) rest (left_bad (length above + 1) s)).reading ≡ read_below above s.held (l ∷ ls)
      go false e = unfold read_below in rw (same_test above s k l h, e)
      go true e = unfold read_below in rw (same_test above s k l h, e) (below e ∙ rw (held_after l s))

lines_tied : (k : ℕ) (text : List ℕ) (above : List Line) (s : State) → Kept above s
    → (read_lines k (length above + 1) text s).reading ≡ read_below above s.held (lines_from k text)
unfolding read_lines read_below lines_from may_stand
lines_tied zero [] above s h = last (eqb s.stage 4) h.done
  where
    last : (t : Bool) → may_end above ≡ t
        → (pick t (left (good s.held) s.pages s.named) (left_bad (length above + 1) s)).reading
        ≡ pick (may_end above) (good s.held) (bad_at (length above + 1) s.held)
    last true e = rw e
    last false e = rw e
lines_tied zero (b ∷ bs) above s h =
    let z : suc (length bs) ≡ 0 → ⊥ = λ e. omega arith in
    rw (ne_eqb (suc (length bs)) 0 z)
lines_tied (suc k) text above s h =
    let l : Line = line_of (before 10 text) in
    let r : InRange l = in_range (before 10 text) in
    let n : length above + 1 + 1 ≡ suc (length above) + 1 = omega arith in
    rw n
    (one_more_lem above s h l r _ (lines_from k (after 10 text)) (λ e. lines_tied k (after 10 text) (l ∷ above) (state_after l s) (kept_on above s h l r e)))

pub lines_are : (text : List ℕ) (h : Setting)
    → (read_lines (count 10 text) 1 text (record { stage = 0; pages = replicate 512 false; named = replicate 16 false; held = h })).reading
    ≡ read_below [] h (lines_from (count 10 text) text)
lines_are text h = lines_tied (count 10 text) text [] _ (record {
  pages = length-replicate {A = Bool} 512 false;
  named = length-replicate {A = Bool} 16 false;
  page = λ n i. unfold each in rw (get_or-replicate {A = Bool} 512 n false false i);
  bytes = unfold each in refl;
  reg = λ n i. unfold each in rw (get_or-replicate {A = Bool} 16 n false false i);
  start = unfold each in refl;
  run = unfold nearest in refl;
  done = unfold nearest in refl;
})
