-- Programs over storage. What an instruction means is a small program that speaks of virtual addresses only. It looks bytes up, gets
-- and puts bytes, refuses with a number and a place, or is done. One interpreter runs it over any store.
use Rattle.std.specs.Prelude.{ℕ}
use Rattle.pages.specs.declared.Access.{Access}
use Rattle.pages.specs.declared.Access.TheVariants.{Fetch, Load, Store}
use Rattle.pages.specs.Tests.{Verdict, fine, bad, number_of}

pub data Prog (R : Type 0) : Type 0 where
  done : R → Prog R
  -- refuse with this number at this place
  fail : ℕ → ℕ → Prog R
  -- look the byte at this address up; where that fails, refuse there
  look : Access → ℕ → Prog R → Prog R
  get : ℕ → (ℕ → Prog R) → Prog R
  put : ℕ → ℕ → Prog R → Prog R

-- what a store can do with the byte at an address
pub record Ops (S : Type 0) : Type 0 where
  pub looked : S → Access → ℕ → Verdict
  pub noted : S → Access → ℕ → S
  pub read : S → ℕ → ℕ
  pub wrote : S → ℕ → ℕ → S

pub data Answer (R S : Type 0) : Type 0 where
  finished : R → S → Answer R S
  refused : ℕ → ℕ → S → Answer R S

-- what a later refusal keeps of a look that succeeded. A fetch that succeeded is an access, and its mark stays (001, L456; document 02,
-- E4); a byte that was only looked up for an operand has not been accessed
abbrev pub keeps : {S : Type 0} → Ops S → Access → ℕ → S → S
keeps o Fetch a kept = o.noted kept Fetch a
keeps o Load a kept = kept
keeps o Store a kept = kept

abbrev pub after : {R S : Type 0} → Verdict → (S → Answer R S) → S → ℕ → S → Answer R S
after fine go s a kept = go s
after (bad c) go s a kept = refused (number_of c) a kept

-- `kept` is the store that a refusal hands back, `s` the store as it is now
unfoldable pub interp : {R S : Type 0} → Ops S → Prog R → S → S → Answer R S
interp o (done r) kept s = finished r s
interp o (fail n a) kept s = refused n a kept
interp o (look acc a k) kept s =
    after (o.looked s acc a) (λ t. interp o k (keeps o acc a kept) t) (o.noted s acc a) a kept
interp o (get a k) kept s = interp o (k (o.read s a)) kept s
interp o (put a v k) kept s = interp o k kept (o.wrote s a v)
