-- A sheet read line by line, as the loop of `read_lines` reads it.
use mathlib.Core.Path.{◌≡◌, refl, ap, ◌∙◌}
use mathlib.Core.Bool.{Bool, true, false}
use mathlib.Core.List.{List, [], ◌∷◌}
use Prim.Native.Nat.{ℕ, ◌+◌, ◌≤◌, ◌<◌}
use native.Mathlib.Omega.{arith}
use lib.Dec.{eqb}
use lib.ListN.{length, replicate, length-drop}
use lib.Seq.{length-take-le}
use borrow.Author.Tests.{le-ltb, lt-ltb, eq-eqb, ne_eqb}
use Rattle.std.proofs.Common.{Option, Some, None, Result, Ok, Err}
use Rattle.words.specs.Pick.{pick}
use Rattle.reading.specs.Answered.{as_reading}
use Rattle.reading.specs.Cut.{span, before, after, count}
use Rattle.reading.specs.Line.{Line, line_of}
use Rattle.reading.specs.Sheet.{bad, good, read_onto}
use Rattle.reading.specs.Within.{State, SameLent, stage_number, state_of, goes_on, state_after, goes, stayed, stepped, as_stepped, Left, left, left_bad, as_left, read_lines}
use Rattle.reading.specs.declared.BadLine.{BadLine}
use Rattle.reading.specs.declared.Start.{Start}
use Rattle.reading.specs.declared.sheet.Progress.{Progress}
use Rattle.reading.specs.declared.sheet.Onto.{Onto}
use Rattle.reading.proofs.Cuts.{span_within, count_none, count_some}
use Rattle.reading.proofs.Order.{lines_are}

pub same_on : (a b c : Onto) → SameLent a b → SameLent b c → SameLent a c
same_on a b c s t =
    record {
      mem = t.mem ∙ s.mem;
      map = t.map ∙ s.map;
      regs = t.regs ∙ s.regs;
      mem_len = t.mem_len ∙ s.mem_len;
      map_len = t.map_len ∙ s.map_len;
      regs_len = t.regs_len ∙ s.regs_len;
    }

-- ---- one line more
module _ (n : ℕ) (s : State) (l : Line) (go : Left) where
  off_is : (o : Onto) → as_stepped None o ≡ stepped s l → as_left (Err (record { line = n })) o ≡ pick (goes_on l s) go (left_bad n s)
  off_is o e = by (goes_on l s) e
    where
      by : (t : Bool) → as_stepped None o ≡ pick t (goes (state_after l s)) (stayed s)
          → as_left (Err (record { line = n })) o ≡ pick t go (left_bad n s)
      by true f = cc
      by false f = cc

  on_is : (u : State) → goes u ≡ stepped s l → (goes_on l s ≡ true) × (state_after l s ≡ u)
  on_is u e = by (goes_on l s) e
    where
      by : (t : Bool) → goes u ≡ pick t (goes (state_after l s)) (stayed s) → (t ≡ true) × (state_after l s ≡ u)
      by true f = (refl, cc)
      by false f = cc

-- no line is left
at_end : (rest : List ℕ) (n : ℕ) (s : State) → length rest ≡ 0
    → read_lines (count 10 rest) n rest s ≡ pick (eqb s.stage 4) (left (good s.held) s.pages s.named) (left_bad n s)
unfolding read_lines count
at_end [] n s h = refl
at_end (b ∷ bs) n s h = absurd (omega arith)

module _ (whole : Left) (rest : List ℕ) (n : ℕ) (p : Progress) (o : Onto) (inv : whole ≡ read_lines (count 10 rest) n rest (state_of p o)) where
  pub read_good : length rest ≡ 0 → stage_number p.stage ≡ 4 → as_left (Ok p.said) o ≡ whole
  read_good h e = rw (inv, at_end rest n (state_of p o) h, eq-eqb _ _ e)

  pub read_missing : length rest ≡ 0 → (stage_number p.stage ≡ 4 → ⊥) → as_left (Err (record { line = n })) o ≡ whole
  read_missing h e = rw (inv, at_end rest n (state_of p o) h, ne_eqb _ _ e)

  module _ (text : List ℕ) (cut : text ≡ before 10 rest) where
    long : length text ≡ span 10 rest
    unfolding before
    long = rw cut (length-take-le (span 10 rest) rest (span_within 10 rest))

    pub read_unended : 0 < length rest → length text ≡ length rest → as_left (Err (record { line = n })) o ≡ whole
    unfolding read_lines
    read_unended h e =
        let k : length rest ≤ span 10 rest = omega (arith, long) in
        let l : length rest ≡ 0 → ⊥ = λ z. omega arith in
        rw (inv, count_none 10 rest k, ne_eqb (length rest) 0 l)

    module _ (e : length text ≡ length rest → ⊥) where
      ended : span 10 rest < length rest
      ended = omega (arith, long, span_within 10 rest, e)

      abbrev here : State
      here = state_of p o

      abbrev below : List ℕ
      below = after 10 rest

      step_is : whole
          ≡ pick (goes_on (line_of text) here) (read_lines (count 10 below) (n + 1) below (state_after (line_of text) here)) (left_bad n here)
      unfolding read_lines
      step_is = rw (inv, count_some 10 rest ended, cut)

      module _ (rest' : List ℕ) (f : rest' ≡ after 10 rest) where
        pub read_shorter : length rest' < length rest
        unfolding after
        read_shorter = rw f (omega (arith, length-drop (span 10 rest + 1) rest, ended))

        module _ (r : Option Progress) (o' : Onto) (took : as_stepped r o' ≡ stepped (state_of p o) (line_of text)) where
          pub read_off_lem : r ≡ None → as_left (Err (record { line = n })) o' ≡ whole
          read_off_lem g = rw step_is (off_is n (state_of p o) (line_of text) _ o' (rw g at took))

          pub read_turn : (q : Progress) → r ≡ Some q → whole ≡ read_lines (count 10 rest') (n + 1) rest' (state_of q o')
          read_turn q g =
              let u : (goes_on (line_of text) (state_of p o) ≡ true) × (state_after (line_of text) (state_of p o) ≡ state_of q o') =
              on_is n (state_of p o) (line_of text) whole _ (rw g at took) in
              step_is ∙ rw (u.0, u.1, f)

-- ---- a whole sheet
module _ (mem map regs s : List ℕ) where
  pub read_long : 65536 < length s → bad 0 mem map regs ≡ read_onto mem map regs s
  unfolding read_onto
  read_long h = rw (lt-ltb _ _ h)

  -- before the first line, with nothing given
  abbrev fresh : State
  fresh =
      record {
        stage = 0;
        pages = replicate 512 false;
        named = replicate 16 false;
        held = record { mem = mem; map = map; regs = regs; pc = 0; code = 0; mask = 0; budget = 0 };
      }

  fresh_reads : length s ≤ 65536 → (read_lines (count 10 s) 1 s fresh).reading ≡ read_onto mem map regs s
  unfolding read_onto
  fresh_reads h = lines_are s _ ∙ rw (le-ltb _ _ h)

  pub read_all : length s ≤ 65536 → (r : Result Start BadLine) (o : Onto) → as_left r o ≡ read_lines (count 10 s) 1 s fresh
      → (mem' map' regs' : List ℕ) → mem' ≡ o.mem.now → map' ≡ o.map.now → regs' ≡ o.regs.now
      → as_reading r mem' map' regs' ≡ read_onto mem map regs s
  read_all h r o f mem' map' regs' i j k = rw (i, j, k) (ap (λ (l : Left). l.reading) f ∙ fresh_reads h)
