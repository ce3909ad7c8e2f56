-- Agreement from a premise that speaks of writable pages only would be false: `no_weak_agreement`, by a run of two instructions.
use Prim.Native.Nat.{ℕ, ◌+◌, ◌<◌, ◌≤◌}
use native.Mathlib.Omega.{arith}
use native.Mathlib.Decide.{ℕ_discrete}
use mathlib.Core.Path.{◌≡◌, refl, sym, ◌∙◌, ap, subst}
use mathlib.Core.Logic.{◌≢◌}
use mathlib.Core.List.{List, [], ◌∷◌}
use lib.ListN.{length, get_or, set}
use lib.Seq.{get_or-set_other}
use Rattle.pages.specs.Word.{bit_e, base, size, real, word_of, Writable}
use Rattle.machine.specs.Machine.{Given, cpu_in, store_in, run_outcome}
use Rattle.demand.specs.Plain.{Plain, plain_run, shown}
use Rattle.demand.specs.DemandThree.{SamePages, Agrees}
use Rattle.demand.proofs.DemandThreeHolds.{shown_same}
use Rattle.slips.specs.Plain.{computes, loaded, no_pages}
use Rattle.slips.proofs.Premises.{no_word, not_usable}

-- `Inside` and `Apart` (demand/specs/Premise), of writable pages in place of open ones
pub record WeakPremise (n : ℕ) (map : List ℕ) : Type 0 where
  pub inside : (p : ℕ) → Writable (word_of map p) → base (word_of map p) + size (word_of map p) ≤ n
  pub apart : (p q d e : ℕ) → Writable (word_of map p) → Writable (word_of map q) → d < size (word_of map p) → e < size (word_of map q)
      → real (word_of map p) d ≡ real (word_of map q) e → p ≡ q

-- `Agreement` (demand/specs/Demand) with that premise
abbrev pub WeakAgreement : Type 0
WeakAgreement =
    (budget : ℕ) (g : Given) (q : Plain) → WeakPremise (length g.mem) g.map → SamePages (store_in g) q
    → (run_outcome budget g).reply.number ≢ 6 → Agrees (run_outcome budget g) (plain_run budget (cpu_in g) q)

-- pages 10 and 12 with E set, and page 11 writable, all on the one frame
abbrev shared : List ℕ
shared = set (set (set no_pages 10 0x3800) 11 0x3000) 12 0x3800

-- MVI 8(2),7 and IC 1,8(3), in page 10
abbrev store_and_fetch : Given
store_and_fetch = loaded (0x92 ∷ 7 ∷ 0x20 ∷ 8 ∷ 0x43 ∷ 0x10 ∷ 0x30 ∷ 8 ∷ []) shared 0xa000

writable_11 : (r : ℕ) → Writable (word_of shared r) → r ≡ 11
unfolding computes
writable_11 r o = at_12 (ℕ_discrete r 12)
  where
    not_writable : (p : ℕ) → bit_e (word_of shared p) ≡ 1 → r ≡ p → ⊥
    not_writable p one e = omega (arith, one, subst (λ (i : ℕ). bit_e (word_of shared i) ≡ 0) e o.e)

    at_10 : r ≢ 12 → r ≢ 11 → Dec (r ≡ 10) → r ≡ 11
    at_10 h k (yes e) = absurd (not_writable 10 refl e)
    at_10 h k (no m) =
        absurd
        (not_usable
        (word_of shared r)
        (get_or-set_other (set (set no_pages 10 0x3800) 11 0x3000) 12 r 0x3800 0 h
        ∙ get_or-set_other (set no_pages 10 0x3800) 11 r 0x3000 0 k
        ∙ get_or-set_other no_pages 10 r 0x3800 0 m
        ∙ no_word 512 r)
        o.open_page.u)

    at_11 : r ≢ 12 → Dec (r ≡ 11) → r ≡ 11
    at_11 h (yes e) = e
    at_11 h (no k) = at_10 h k (ℕ_discrete r 10)

    at_12 : Dec (r ≡ 12) → r ≡ 11
    at_12 (yes e) = absurd (not_writable 12 refl e)
    at_12 (no k) = at_11 k (ℕ_discrete r 11)

weak_premise : WeakPremise 4096 shared
unfolding computes
weak_premise =
    record {
      inside =
          λ r o. subst (λ (i : ℕ). base (word_of shared i) + size (word_of shared i) ≤ 4096) (sym (writable_11 r o)) (omega arith);
      apart = λ r q d k o o' l l' same. writable_11 r o ∙ sym (writable_11 q o');
    }

-- register 1 at the end: what was stored in page 11 shows in page 12, and on the plain machine it does not
both_seen : (get_or (run_outcome 2 store_and_fetch).regs 1 0 ≡ 7)
    × (get_or (plain_run 2 (cpu_in store_and_fetch) (shown (store_in store_and_fetch))).cpu.regs 1 0 ≡ 0)
    × ((run_outcome 2 store_and_fetch).reply.number ≡ 7)
unfolding computes
both_seen = (refl, refl, refl)

pub no_weak_agreement : WeakAgreement → ⊥
no_weak_agreement agreement =
    let q = shown (store_in store_and_fetch) in
    let agrees = agreement 2 store_and_fetch q weak_premise (shown_same (store_in store_and_fetch)) (λ e. omega (arith, e, both_seen.2)) in
    let apart : ◌≡◌ {A = ℕ} 7 0 = sym both_seen.0 ∙ ap (λ (l : List ℕ). get_or l 1 0) agrees.regs ∙ both_seen.1 in
    omega arith
