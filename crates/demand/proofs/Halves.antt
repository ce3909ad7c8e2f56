-- The premise can be met: two pages in the two halves of one frame. The agreement then follows for every budget.
use Prim.Native.Nat.{ℕ, zero, suc, ◌+◌, ◌<◌, ◌≤◌}
use native.Mathlib.Omega.{arith}
use native.Mathlib.Decide.{ℕ_discrete}
use mathlib.Core.Path.{◌≡◌, refl, sym, ◌∙◌, subst}
use mathlib.Core.Logic.{◌≢◌}
use mathlib.Core.List.{List, [], ◌∷◌}
use lib.ListN.{get_or, set, replicate}
use lib.Seq.{get_or-set_other}
use Rattle.pages.specs.Word.{bit_u, base, size, real, word_of, Open}
use Rattle.machine.specs.Machine.{Given, cpu_in, store_in, run_outcome}
use Rattle.demand.specs.Plain.{shown, plain_run}
use Rattle.demand.specs.Premise.{Premise}
use Rattle.demand.specs.DemandThree.{Agrees}
use Rattle.demand.proofs.DemandThreeHolds.{shown_same, runs_keep_pages}
use Rattle.demand.proofs.Examples.{computes, BothSee, loaded, no_pages}

-- pages 10 and 11 in the lower and the upper half of frame 0
abbrev halves : List ℕ
halves = set (set no_pages 10 0x3400) 11 0x3600

no_word : (n r : ℕ) → ◌≡◌ {A = ℕ} (get_or (replicate n 0) r 0) 0
no_word zero r = refl
no_word (suc n) zero = refl
no_word (suc n) (suc r) = no_word n r

data Half (r w : ℕ) : Type 0 where
  lower : r ≡ 10 → base w ≡ 0 → size w ≡ 2048 → Half r w
  upper : r ≡ 11 → base w ≡ 2048 → size w ≡ 2048 → Half r w

which : (r : ℕ) → Open (word_of halves r) → Half r (word_of halves r)
unfolding computes
which r o = at_11 (ℕ_discrete r 11)
  where
    closed : (w : ℕ) → w ≡ 0 → Open w → ⊥
    closed w e o' = unfold bit_u in omega (arith, e, o'.u)

    at_10 : r ≢ 11 → Dec (r ≡ 10) → Half r (word_of halves r)
    at_10 h (yes e) = subst (λ (i : ℕ). Half i (word_of halves i)) (sym e) (lower refl refl refl)
    at_10 h (no k) =
        absurd
        (closed
        (word_of halves r)
        (get_or-set_other (set no_pages 10 0x3400) 11 r 0x3600 0 h ∙ get_or-set_other no_pages 10 r 0x3400 0 k ∙ no_word 512 r)
        o)

    at_11 : Dec (r ≡ 11) → Half r (word_of halves r)
    at_11 (yes e) = subst (λ (i : ℕ). Half i (word_of halves i)) (sym e) (upper refl refl refl)
    at_11 (no k) = at_10 k (ℕ_discrete r 10)

halves_inside : (r w : ℕ) → Half r w → base w + size w ≤ 8192
halves_inside r w (lower e b s) = omega (arith, b, s)
halves_inside r w (upper e b s) = omega (arith, b, s)

halves_apart : (p q v w d e : ℕ) → Half p v → Half q w → d < size v → e < size w → real v d ≡ real w e → p ≡ q
unfolding real
halves_apart p q v w d e (lower h b s) (lower h' b' s') l l' same = h ∙ sym h'
halves_apart p q v w d e (lower h b s) (upper h' b' s') l l' same = omega (arith, b, b', s, l, same)
halves_apart p q v w d e (upper h b s) (lower h' b' s') l l' same = omega (arith, b, b', s', l', same)
halves_apart p q v w d e (upper h b s) (upper h' b' s') l l' same = h ∙ sym h'

halves_premise : Premise 8192 halves
halves_premise =
    record {
      inside = λ r o. halves_inside r (word_of halves r) (which r o);
      apart =
          λ p q d e o o' l l' same. halves_apart p q (word_of halves p) (word_of halves q) d e (which p o) (which q o') l l' same;
    }

-- MVI 0(2),7 and IC 1,0(2)
abbrev store_and_fetch_again : List ℕ
store_and_fetch_again = 0x92 ∷ 0x07 ∷ 0x20 ∷ 0x00 ∷ 0x43 ∷ 0x10 ∷ 0x20 ∷ 0x00 ∷ []

abbrev halved : Given
halved = loaded store_and_fetch_again halves 0x00a000

halves_agree : (budget : ℕ) → (run_outcome budget halved).reply.number ≢ 6
    → Agrees (run_outcome budget halved) (plain_run budget (cpu_in halved) (shown (store_in halved)))
halves_agree budget h =
    (runs_keep_pages budget halved).agrees (shown (store_in halved)) halves_premise (shown_same (store_in halved)) h

halves_seen : BothSee 2 halved 11
    (7 ∷ 0 ∷ 2 ∷ 0x00a008 ∷ 7 ∷ 0xf400 ∷ [])
    (7 ∷ 0 ∷ 2 ∷ 0x00a008 ∷ 7 ∷ 0xf400 ∷ [])
unfolding computes
halves_seen = (refl, refl)
