-- What the functions that go by cases have in hand where they return.
use mathlib.Core.Path.{◌≡◌, sym, ap, ◌∙◌, subst}
use mathlib.Core.Bool.{Bool, true, false}
use Prim.Native.Nat.{ℕ, ◌+◌, ◌%◌, ◌≤◌, ◌<◌}
use native.Mathlib.Nat.{zero-add}
use native.Mathlib.Omega.{arith}
use lib.Dec.{eqb}
use borrow.Author.Tests.{eq-eqb, ne_eqb, lt-ltb, le-ltb}
use Rattle.std.proofs.Common.{Ordering, Less, Equal, Greater}
use Rattle.std.specs.Ordering.{nat_cmp}
use Rattle.words.specs.declared.Alu.{Alu}
use Rattle.words.specs.declared.Res.{Res}
use Rattle.words.specs.Pick.{pick}
use Rattle.words.specs.Codes.{compare_bits, zero_code}
use Rattle.words.proofs.Choice.{by_order}
use Rattle.words.specs.Combine.{combine_of, carried, result_of}

-- the operation is known to be k
pub combine_told : (op k : Alu) (a b cc : ℕ) (r : Res ℕ) → op ≡ k → r ≡ combine_of k a b cc → r ≡ combine_of op a b cc
combine_told op k a b cc r e h = h ∙ ap (λ (o : Alu). combine_of o a b cc) (sym e)

-- a word whose code a call gave
pub result_told : (v k m : ℕ) (r : Res ℕ) → k ≡ m → r ≡ result_of v k → r ≡ result_of v m
result_told v k m r e h = h ∙ ap (result_of v) e

-- a word that a call gave
pub value_told : (v w k : ℕ) (r : Res ℕ) → v ≡ w → r ≡ result_of v k → r ≡ result_of w k
value_told v w k r e h = h ∙ ap (λ (n : ℕ). result_of n k) e

-- a logical sum without a carry, and with one
module _ (s z : ℕ) (r : Res ℕ) (e : z ≡ zero_code (s % 4294967296)) where
  pub carry_none : s < 4294967296 → r ≡ result_of (s % 4294967296) z → r ≡ carried s
  unfolding carried
  carry_none l h = h ∙ rw (lt-ltb s 4294967296 l, zero-add, e)

  pub carry_one : 4294967296 ≤ s → r ≡ result_of (s % 4294967296) (2 + z) → r ≡ carried s
  unfolding carried
  carry_one l h = h ∙ rw (le-ltb s 4294967296 l, e)

pub zero_small : (z n : ℕ) → z ≡ zero_code n → z ≤ 1
unfolding zero_code
zero_small z n e = subst (λ (k : ℕ). k ≤ 1) (sym e) (go (eqb n 0))
  where
    go : (t : Bool) → pick t 0 1 ≤ 1
    go true = omega arith
    go false = omega arith

-- what a comparison answers is told by its code
abbrev pub told : Ordering → ℕ
told Less = 1
told Equal = 0
told Greater = 2

pub compared : (a b : ℕ) (o : Ordering) → o ≡ nat_cmp a b → told o ≡ compare_bits a b
unfolding compare_bits
compared a b o e =
    ap told e
    ∙ by_order a b (λ h. rw (lt-ltb a b h))
    (λ h. by_order b a (λ k. rw (le-ltb a b h, lt-ltb b a k, ne_eqb a b (λ e. omega arith)))
    (λ k. let e : a ≡ b = omega arith in rw (le-ltb a b h, le-ltb b a k, eq-eqb a b e)))
