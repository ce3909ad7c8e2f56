-- How long the texts are at most: the whole answer fits its buffer.
use mathlib.Core.Path.{◌≡◌, refl, ap, ◌∙◌, subst}
use mathlib.Core.Bool.{Bool, true, false}
use mathlib.Core.List.{List, [], ◌∷◌}
use Prim.Native.Nat.{ℕ, zero, suc, ◌+◌, ◌*◌, ◌/◌, ◌%◌, ◌^◌, ◌≤◌, ◌<◌}
use native.Mathlib.Omega.{arith}
use native.Mathlib.Nat.{zero-add, suc-add, div-eq_of_lt, lt_of_lt_of_le, pow-le-pow_right}
use lib.Dec.{eqb}
use lib.ListN.{length, length-append}
use Rattle.words.specs.Pick.{pick}
use Rattle.printing.specs.Digits.{digit, digits_of, trimmed, decimal_of}
use Rattle.printing.specs.Lines.{stop_line, reg_line, start_line, page_line, bad_line}
use Rattle.printing.specs.Answer.{reg_part, page_part, regs_from, pages_from, answer_text}
use Rattle.printing.proofs.Places.{skip}

pub digits_long : (base k v : ℕ) → length (digits_of base k v) ≡ k
unfolding digits_of
digits_long base zero v = refl
digits_long base (suc k) v = ap suc (digits_long base k v)

pub bare_long : (ds : List ℕ) → length (trimmed ds) ≤ length ds
unfolding trimmed
bare_long [] = omega arith
bare_long (d ∷ []) = omega arith
bare_long (d ∷ e ∷ ds) = go (eqb d 48) (bare_long (e ∷ ds))
  where
    go : (t : Bool) → length (trimmed (e ∷ ds)) ≤ suc (length ds) → length (pick t (trimmed (e ∷ ds)) (d ∷ e ∷ ds)) ≤ suc (suc (length ds))
    go true h = omega arith
    go false h = omega arith

pub decimal_long : (v : ℕ) → length (decimal_of v) ≤ 10
unfolding decimal_of
decimal_long v = subst (λ (n : ℕ). length (trimmed (digits_of 10 10 v)) ≤ n) (digits_long 10 10 v) (bare_long (digits_of 10 10 v))

-- n + 1 digits hold v, so the k before them are zeros
pub short : (k n v : ℕ) → v < 10 ^ suc n → length (trimmed (digits_of 10 (suc (k + n)) v)) ≤ suc n
short zero n v h =
    rw zero-add (subst (λ (m : ℕ). length (trimmed (digits_of 10 (suc n) v)) ≤ m) (digits_long 10 (suc n) v) (bare_long (digits_of 10 (suc n) v)))
short (suc k) n v h = rw (suc-add, skip v (k + n) zeros) (short k n v h)
  where
    l : suc n ≤ suc (k + n)
    l = omega arith

    zeros : digit (v / 10 ^ suc (k + n) % 10) ≡ 48
    zeros = ap (λ (q : ℕ). digit (q % 10)) (div-eq_of_lt (lt_of_lt_of_le h (pow-le-pow_right (omega arith) l))) ∙ (unfold digit in refl)

pub page_number_long : (v : ℕ) → v < 1000 → length (decimal_of v) ≤ 3
unfolding decimal_of
page_number_long v h = short 7 2 v h

ruleset lengths = (length-append, digits_long)

pub bad_long : (n : ℕ) → length (bad_line n) ≤ 8192
unfolding bad_line
bad_long n = simp lengths (omega (arith, decimal_long n))

stop_long : (number place count : ℕ) → length (stop_line number place count) ≤ 34
unfolding stop_line
stop_long number place count = simp lengths (omega (arith, decimal_long number, decimal_long count))

start_long : (pc code mask : ℕ) → length (start_line pc code mask) ≤ 35
unfolding start_line
start_long pc code mask = simp lengths (omega (arith, decimal_long code, decimal_long mask))

reg_long : (n v : ℕ) → length (reg_line n v) ≤ 24
unfolding reg_line
reg_long n v = simp lengths (omega (arith, decimal_long n))

page_long : (n w : ℕ) → n < 1000 → length (page_line n w) ≤ 14
unfolding page_line
page_long n w h = simp lengths (omega (arith, page_number_long n h))

part_long : (t : Bool) (x : List ℕ) (m : ℕ) → length x ≤ m → length (pick t [] x) ≤ m
part_long true x m h = omega arith
part_long false x m h = h

regs_long : (n : ℕ) (vs : List ℕ) → length (regs_from n vs) ≤ 24 * length vs
unfolding regs_from reg_part
regs_long n [] = omega arith
regs_long n (v ∷ vs) = simp length-append (omega (arith, part_long (eqb v 0) (reg_line n v) 24 (reg_long n v), regs_long (suc n) vs))

pages_long : (n : ℕ) (bs done : List ℕ) → n + length bs ≤ 1000 → length (pages_from n bs done) ≤ 14 * length bs
unfolding pages_from page_part
pages_long n [] done h = omega arith
pages_long n (b ∷ bs) [] h = omega arith
pages_long n (b ∷ bs) (a ∷ done) h =
    let l : n < 1000 = omega arith in
    let k : suc n + length bs ≤ 1000 = omega arith in
    simp length-append (omega (arith, part_long (eqb b a) (page_line n a) 14 (page_long n a l), pages_long (suc n) bs done k))

pub answer_long : (number place count pc code mask : ℕ) (regs before done : List ℕ) → length regs ≤ 16 → length before ≤ 512
    → length (answer_text number place count pc code mask regs before done) ≤ 8192
unfolding answer_text
answer_long number place count pc code mask regs before done h k =
    let l : 0 + length before ≤ 1000 = omega arith in
    simp length-append (omega (arith, stop_long number place count, regs_long 0 regs, start_long pc code mask, pages_long 0 before done l))
