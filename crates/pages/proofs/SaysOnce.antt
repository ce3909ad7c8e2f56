-- What a look-up says in document 01's terms it says once: two answers that say the same are the same.
use Prim.Native.Nat.{ℕ}
use native.Mathlib.Omega.{arith}
use mathlib.Core.Path.{◌≡◌, refl, sym, ◌∙◌, ap}
use mathlib.Core.List.{List}
use lib.ListN.{get_or}
use Rattle.std.specs.Prelude.{Ok, Err}
use Rattle.words.specs.Said.{Said}
use Rattle.pages.specs.declared.Cause.{Cause}
use Rattle.pages.specs.declared.Cause.TheVariants.{Addressing, PagingQueue, PagingError}
use Rattle.pages.specs.Tests.{number_of}
use Rattle.pages.specs.Look.{Look, At, Refused, look_says}

pub cause_once : (c d : Cause) → number_of c ≡ number_of d → c ≡ d
cause_once Addressing Addressing e = refl
cause_once Addressing PagingQueue e = absurd (omega (arith, e))
cause_once Addressing PagingError e = absurd (omega (arith, e))
cause_once PagingQueue Addressing e = absurd (omega (arith, e))
cause_once PagingQueue PagingQueue e = refl
cause_once PagingQueue PagingError e = absurd (omega (arith, e))
cause_once PagingError Addressing e = absurd (omega (arith, e))
cause_once PagingError PagingQueue e = absurd (omega (arith, e))
cause_once PagingError PagingError e = refl

-- no cause has number 0
caused : (c : Cause) → number_of c ≡ 0 → ⊥
caused Addressing e = omega (arith, e)
caused PagingQueue e = omega (arith, e)
caused PagingError e = omega (arith, e)

pub look_once : (l m : Look) → look_says l ≡ look_says m → l ≡ m
look_once (Ok t) (Ok spot) e =
    ap (λ (x : ℕ). At x t.reach) (ap (λ (s : Said (List ℕ)). get_or s.values 0 0) e)
    ∙ ap (At spot.at) (ap (λ (s : Said (List ℕ)). get_or s.values 1 0) e)
look_once (Ok t) (Err f) e = absurd (caused f.cause (sym (ap (λ (s : Said (List ℕ)). s.number) e)))
look_once (Err f) (Ok t) e = absurd (caused f.cause (ap (λ (s : Said (List ℕ)). s.number) e))
look_once (Err f) (Err refusal) e =
    ap (λ (x : Cause). Refused x f.place) (cause_once f.cause refusal.cause (ap (λ (s : Said (List ℕ)). s.number) e))
    ∙ ap (Refused refusal.cause) (ap (λ (s : Said (List ℕ)). get_or s.values 0 0) e)
