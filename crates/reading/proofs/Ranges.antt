-- The numbers of a line that was read: a page's is below 512, a register's below 16.
use mathlib.Core.Path.{◌≡◌, refl}
use mathlib.Core.Bool.{Bool, true, false}
use mathlib.Core.List.{List}
use Prim.Native.Nat.{ℕ, ◌+◌, ◌/◌, ◌≤◌, ◌<◌}
use native.Mathlib.Omega.{arith}
use lib.Dec.{leb}
use lib.ListN.{length}
use borrow.Author.Tests.{leb-true}
use Rattle.words.specs.Pick.{pick, both}
use Rattle.words.specs.Ascii.{same}
use Rattle.reading.specs.Digits.{value_of, all_digits, no_leading_zero, is_decimal, is_hex, is_bytes, pairs_of}
use Rattle.reading.specs.Line.{Line, page, bytes, reg, start, run, wrong, PAGE, BYTES, REG, START, RUN, first, others, read_entry, read_bytes, read_start, read_run, line_of}
use Rattle.words.proofs.Tests.{both_true}

abbrev pub InRange : Line → Type 0
InRange (page n w) = n < 512
InRange (bytes a bs) = Unit {0}
InRange (reg n v) = n < 16
InRange (start pc code mask) = Unit {0}
InRange (run budget) = Unit {0}
InRange wrong = Unit {0}

chosen : (t : Bool) (x y : Line) → (t ≡ true → InRange x) → InRange y → InRange (pick t x y)
chosen true x y f h = f refl
chosen false x y f h = h

decimal_small : (last : ℕ) (a : List ℕ) → is_decimal last a ≡ true → value_of 10 a ≤ last
unfolding is_decimal
decimal_small last a e =
    let f : both (all_digits 10 a) (leb (value_of 10 a) last) ≡ true =
    (both_true (no_leading_zero a) (both (all_digits 10 a) (leb (value_of 10 a) last)) e).1 in
    leb-true (value_of 10 a) last (both_true (all_digits 10 a) (leb (value_of 10 a) last) f).1

module _ (text : List ℕ) where
  entry_in_range : (make : ℕ → ℕ → Line) (last k : ℕ) → ((n w : ℕ) → n ≤ last → InRange (make n w)) → InRange (read_entry make last k text)
  unfolding read_entry
  entry_in_range make last k f =
      chosen (both (is_decimal last (first text)) (is_hex k (others text))) (make (value_of 10 (first text)) (value_of 16 (others text))) wrong
      (λ e. f _ _ (decimal_small last (first text) (both_true (is_decimal last (first text)) (is_hex k (others text)) e).0))
      tt

  bytes_in_range : InRange (read_bytes text)
  unfolding read_bytes
  bytes_in_range =
      chosen
      (both (both (is_decimal 65535 (first text)) (is_bytes (others text))) (leb (value_of 10 (first text) + length (others text) / 2) 65536))
      (bytes (value_of 10 (first text)) (pairs_of (others text)))
      wrong
      (λ e. tt)
      tt

  start_in_range : InRange (read_start text)
  unfolding read_start
  start_in_range =
      chosen
      (both (is_hex 6 (first text)) (both (is_decimal 3 (first (others text))) (is_decimal 15 (others (others text)))))
      (start (value_of 16 (first text)) (value_of 10 (first (others text))) (value_of 10 (others (others text))))
      wrong
      (λ e. tt)
      tt

  run_in_range : InRange (read_run text)
  unfolding read_run
  run_in_range = chosen (is_decimal 65535 text) (run (value_of 10 text)) wrong (λ e. tt) tt

pub in_range : (text : List ℕ) → InRange (line_of text)
unfolding line_of
in_range text =
    let rest : List ℕ = others text in
    chosen (same (first text) PAGE) _ _
    (λ _. entry_in_range rest page 511 4 (λ n w h. omega arith))
    (chosen (same (first text) BYTES) _ _
    (λ _. bytes_in_range rest)
    (chosen (same (first text) REG) _ _
    (λ _. entry_in_range rest reg 15 8 (λ n w h. omega arith))
    (chosen (same (first text) START) _ _
    (λ _. start_in_range rest)
    (chosen (same (first text) RUN) _ _ (λ _. run_in_range rest) tt))))
