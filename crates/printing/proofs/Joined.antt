-- Fields and lines from their parts. `s` is the writer at the start; each letter after it, the writer after one part more.
use mathlib.Core.Path.{◌≡◌, subst}
use mathlib.Core.List.{List, [], ◌∷◌, ◌++◌}
use Prim.Native.Nat.{ℕ}
use borrow.Author.Tests.{eq-eqb, ne_eqb}
use Rattle.printing.specs.Digits.{digits_of, hex_of, decimal_of}
use Rattle.printing.specs.Lines.{STOP, REG, START, PAGE, BAD, LF, field, stop_line, reg_line, start_line, page_line, bad_line}
use Rattle.printing.specs.Answer.{reg_part, page_part, regs_from, pages_from, answer_text}
use Rattle.printing.specs.declared.writing.Writer.{Writer}
use Rattle.printing.specs.Writing.{Wrote}
use Rattle.printing.proofs.WrittenText.{after, also_wrote, wrote_none}

pub number_joined : (s a : Writer) (n v : ℕ) → digits_of 10 n v ≡ decimal_of v → Wrote s a (digits_of 10 n v) → Wrote s a (decimal_of v)
number_joined s a n v e k = subst (Wrote s a) e k

pub field_of : (s a b : Writer) (text : List ℕ) → Wrote s a (9 ∷ []) → Wrote a b text → Wrote s b (field text)
field_of s a b text h k = after s a b (9 ∷ []) text h k

pub last_joined : (s a b : Writer) (text : List ℕ) → Wrote s a (field text) → Wrote a b LF → Wrote s b (field text ++ LF)
last_joined s a b text = after s a b (field text) LF

-- the parts before are there, and the last field comes with its LF
ended : (s a b : Writer) (x y : List ℕ) → Wrote s a x → Wrote a b (y ++ LF) → Wrote s b (x ++ y ++ LF)
ended s a b x y = also_wrote s a b x y LF

module _ (s a b : Writer) where
  pub bad_joined : (n : ℕ) → Wrote s a BAD → Wrote a b (field (decimal_of n) ++ LF) → Wrote s b (bad_line n)
  unfolding bad_line
  bad_joined n = ended s a b BAD (field (decimal_of n))

  pub reg_joined : (n v : ℕ) → Wrote s a (REG ++ field (decimal_of n)) → Wrote a b (field (hex_of 8 v) ++ LF) → Wrote s b (reg_line n v)
  unfolding reg_line
  reg_joined n v = ended s a b (REG ++ field (decimal_of n)) (field (hex_of 8 v))

  pub page_joined : (n w : ℕ) → Wrote s a (PAGE ++ field (decimal_of n)) → Wrote a b (field (hex_of 4 w) ++ LF) → Wrote s b (page_line n w)
  unfolding page_line
  page_joined n w = ended s a b (PAGE ++ field (decimal_of n)) (field (hex_of 4 w))

  module _ (c : Writer) where
    pub stop_joined : (number place count : ℕ) → Wrote s a (STOP ++ field (decimal_of number)) → Wrote a b (field (hex_of 6 place))
        → Wrote b c (field (decimal_of count) ++ LF) → Wrote s c (stop_line number place count)
    unfolding stop_line
    stop_joined number place count h i =
        ended s b c (STOP ++ field (decimal_of number) ++ field (hex_of 6 place)) (field (decimal_of count))
        (after s a b (STOP ++ field (decimal_of number)) (field (hex_of 6 place)) h i)

    module _ (d : Writer) where
      pub start_joined : (pc code mask : ℕ) → Wrote s a START → Wrote a b (field (hex_of 6 pc)) → Wrote b c (field (decimal_of code))
          → Wrote c d (field (decimal_of mask) ++ LF) → Wrote s d (start_line pc code mask)
      unfolding start_line
      start_joined pc code mask h i j =
          ended s c d (START ++ field (hex_of 6 pc) ++ field (decimal_of code)) (field (decimal_of mask))
          (after s b c (START ++ field (hex_of 6 pc)) (field (decimal_of code)) (after s a b START (field (hex_of 6 pc)) h i) j)

      pub answer_joined : (number place count pc code mask : ℕ) (regs before done : List ℕ) → Wrote s a (stop_line number place count)
          → Wrote a b (regs_from 0 regs) → Wrote b c (start_line pc code mask) → Wrote c d (pages_from 0 before done)
          → Wrote s d (answer_text number place count pc code mask regs before done)
      unfolding answer_text
      answer_joined number place count pc code mask regs before done h i j k =
          after s c d (stop_line number place count ++ regs_from 0 regs ++ start_line pc code mask) (pages_from 0 before done)
          (after s b c (stop_line number place count ++ regs_from 0 regs) (start_line pc code mask)
          (after s a b (stop_line number place count) (regs_from 0 regs) h i)
          j)
          k

-- a register or a page that is left out, and one that is not
module _ (s : Writer) (n : ℕ) where
  pub reg_none : (v : ℕ) → v ≡ 0 → Wrote s s (reg_part n v)
  unfolding reg_part
  reg_none v e = rw (eq-eqb v 0 e) (wrote_none s)

  pub reg_some : (t : Writer) (v : ℕ) → (v ≡ 0 → ⊥) → Wrote s t (reg_line n v) → Wrote s t (reg_part n v)
  unfolding reg_part
  reg_some t v e h = rw (ne_eqb v 0 e) h

  pub page_none : (x y : ℕ) → x ≡ y → Wrote s s (page_part n x y)
  unfolding page_part
  page_none x y e = rw (eq-eqb x y e) (wrote_none s)

  pub page_some : (t : Writer) (x y w : ℕ) → (x ≡ y → ⊥) → w ≡ y → Wrote s t (page_line n w) → Wrote s t (page_part n x y)
  unfolding page_part
  page_some t x y w e f h = rw (ne_eqb x y e, ← f) h
