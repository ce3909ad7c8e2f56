-- The premise of demand 3 holds in each row of the plain machine's table (specs/Plain): only one page is open, and it lies on the one
-- frame of memory.
use Prim.Native.Nat.{ℕ, zero, suc, ◌+◌, ◌≤◌}
use native.Mathlib.Omega.{arith}
use native.Mathlib.Decide.{ℕ_discrete}
use mathlib.Core.Path.{◌≡◌, refl, sym, ◌∙◌, subst}
use mathlib.Core.Logic.{◌≢◌}
use lib.ListN.{get_or, set, replicate}
use lib.Seq.{get_or-set_other}
use Rattle.pages.specs.Word.{bit_u, base, size, word_of}
use Rattle.demand.specs.Premise.{Premise}
use Rattle.slips.specs.Plain.{computes, no_pages, lone}

pub no_word : (n r : ℕ) → ◌≡◌ {A = ℕ} (get_or (replicate n 0) r 0) 0
no_word zero r = refl
no_word (suc n) zero = refl
no_word (suc n) (suc r) = no_word n r

pub not_usable : (w : ℕ) → w ≡ 0 → bit_u w ≢ 1
unfolding bit_u
not_usable w e u = omega (arith, e, u)

only : (p w r : ℕ) → bit_u (word_of (set no_pages p w) r) ≡ 1 → r ≡ p
unfolding word_of
only p w r u = go (ℕ_discrete r p)
  where
    go : Dec (r ≡ p) → r ≡ p
    go (yes e) = e
    go (no k) = absurd (not_usable (word_of (set no_pages p w) r) (get_or-set_other no_pages p r w 0 k ∙ no_word 512 r) u)

fits : base 0x3000 + size 0x3000 ≤ 4096
unfolding computes
fits = omega arith

pub premise_holds : (p : ℕ) → word_of (lone p) p ≡ 0x3000 → Premise 4096 (lone p)
premise_holds p e =
    record {
      inside =
          λ r o.
          subst (λ (i : ℕ). base (word_of (lone p) i) + size (word_of (lone p) i) ≤ 4096) (sym (only p 0x3000 r o.u))
          (subst (λ (w : ℕ). base w + size w ≤ 4096) (sym e) fits);
      apart = λ r q d k o o' l l' same. only p 0x3000 r o.u ∙ sym (only p 0x3000 q o'.u);
    }

pub premises_hold : Premise 4096 (lone 10) × Premise 4096 (lone 11) × Premise 4096 (lone 110)
unfolding computes
premises_hold = (premise_holds 10 refl, premise_holds 11 refl, premise_holds 110 refl)
