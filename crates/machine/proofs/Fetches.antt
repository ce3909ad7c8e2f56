-- A halfword of the instruction: refused, or fetched, and then the rest. While an instruction is fetched, what a refusal would hand back is
-- the store as it is.
use Prim.Native.Nat.{ℕ, ◌+◌, ◌*◌}
use mathlib.Core.Path.{◌≡◌, refl}
use Rattle.pages.specs.declared.Access.TheVariants.{Fetch}
use Rattle.pages.specs.declared.Cause.{Cause}
use Rattle.pages.specs.Word.{next}
use Rattle.pages.specs.Tests.{Verdict, fine, bad, number_of}
use Rattle.machine.specs.Prog.{Prog, done, look, Ops, Answer, finished, refused, after, interp}
use Rattle.machine.specs.Fields.{looks, gets, halfword}

-- a refusal, or what comes next
abbrev pub then_on : {R T S : Type 0} → Answer R S → (R → S → Answer T S) → Answer T S
then_on (finished r s) go = go r s
then_on (refused n a s) go = refused n a s

after_then : {R T S : Type 0} (v : Verdict) (first : S → Answer R S) (all : S → Answer T S) (go : R → S → Answer T S) (s : S) (a : ℕ) (kept : S)
    → all s ≡ then_on (first s) go → after v all s a kept ≡ then_on (after v first s a kept) go
after_then fine first all go s a kept h = h
after_then (bad c) first all go s a kept h = refl

pub half_then : {R S : Type 0} (o : Ops S) (a : ℕ) (k : ℕ → Prog R) (s : S)
    → interp o (halfword a k) s s ≡ then_on (interp o (halfword a done) s s) (λ h t. interp o (k h) t t)
unfolding halfword looks gets interp
half_then o a k s =
    after_then
    (o.looked s Fetch a)
    (λ t. interp o (look Fetch (next a) (gets a 2 0 done)) (o.noted s Fetch a) t)
    (λ t. interp o (look Fetch (next a) (gets a 2 0 k)) (o.noted s Fetch a) t)
    (λ h t. interp o (k h) t t)
    (o.noted s Fetch a)
    a
    s
    (after_then
    (o.looked (o.noted s Fetch a) Fetch (next a))
    (λ t. interp o (gets a 2 0 done) (o.noted (o.noted s Fetch a) Fetch (next a)) t)
    (λ t. interp o (gets a 2 0 k) (o.noted (o.noted s Fetch a) Fetch (next a)) t)
    (λ h t. interp o (k h) t t)
    (o.noted (o.noted s Fetch a) Fetch (next a))
    (next a)
    (o.noted s Fetch a)
    refl)

-- by what its two look-ups say
module _ {R S : Type 0} (o : Ops S) (a : ℕ) (k : ℕ → Prog R) (s : S) where
  abbrev once : S
  once = o.noted s Fetch a

  abbrev twice : S
  twice = o.noted (o.noted s Fetch a) Fetch (next a)

  pub half_refused : (c : Cause) → o.looked s Fetch a ≡ bad c → interp o (halfword a k) s s ≡ refused (number_of c) a s
  unfolding halfword looks interp
  half_refused c e = rw e

  module _ (e : o.looked s Fetch a ≡ fine) where
    pub half_cut : (c : Cause) → o.looked once Fetch (next a) ≡ bad c
        → interp o (halfword a k) s s ≡ refused (number_of c) (next a) once
    unfolding halfword looks interp
    half_cut c f = rw (e, f)

    pub half_fetched : o.looked once Fetch (next a) ≡ fine
        → interp o (halfword a k) s s ≡ interp o (k ((0 * 256 + o.read twice a) * 256 + o.read twice (next a))) twice twice
    unfolding halfword looks gets interp
    half_fetched f = rw (e, f)
