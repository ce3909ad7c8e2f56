-- A run in two parts, for any store and step: a run that was refused stays refused whatever the budget, and one that spent its budget goes
-- on from where it stands, the counts added. That a run was refused shows in its count, which is then below the budget.
use Prim.Native.Nat.{ℕ, zero, suc, ◌+◌, ◌<◌, ◌≤◌}
use native.Mathlib.Omega.{arith}
use native.Mathlib.Nat.{suc-add, zero-add}
use mathlib.Core.Path.{◌≡◌, refl, sym, ◌∙◌, ap}
use Rattle.machine.specs.Prog.{Prog, Ops, Answer, finished, refused, interp}
use Rattle.machine.specs.Run.{Result, one_more, after_step, run}

-- the result with n more counted
abbrev pub added : {C S : Type 0} → ℕ → Result C S → Result C S
added n r = record { stop = r.stop; place = r.place; count = n + r.count; cpu = r.cpu; held = r.held }

added_zero : {C S : Type 0} (r : Result C S) → added 0 r ≡ r
added_zero r = ap (λ n. record { stop = r.stop; place = r.place; count = n; cpu = r.cpu; held = r.held }) (zero-add r.count)

added_suc : {C S : Type 0} (n : ℕ) (r : Result C S) → one_more (added n r) ≡ added (suc n) r
added_suc n r = ap (λ k. record { stop = r.stop; place = r.place; count = k; cpu = r.cpu; held = r.held }) (sym (suc-add n r.count))

module _ {C S : Type 0} (c : C) where
  most_after : (x : Answer C S) (go : C → S → Result C S) (b : ℕ) → ((d : C) (s : S) → (go d s).count ≤ b) → (after_step c x go).count ≤ suc b
  most_after (finished d s) go b h = omega (arith, h d s)
  most_after (refused n a s) go b h = omega arith

  refused_after : (x : Answer C S) (go go' : C → S → Result C S) (b : ℕ)
      → ((d : C) (s : S) → (go d s).count < b → go' d s ≡ go d s)
      → (after_step c x go).count < suc b → after_step c x go' ≡ after_step c x go
  refused_after (finished d s) go go' b h l = ap one_more (h d s (omega (arith, l)))
  refused_after (refused n a s) go go' b h l = refl

  spent_after : (x : Answer C S) (go go' more : C → S → Result C S) (b : ℕ)
      → ((d : C) (s : S) → (go d s).count ≡ b → go' d s ≡ added b (more (go d s).cpu (go d s).held))
      → (after_step c x go).count ≡ suc b
      → after_step c x go' ≡ added (suc b) (more (after_step c x go).cpu (after_step c x go).held)
  spent_after (finished d s) go go' more b h e =
      ap one_more (h d s (omega (arith, e))) ∙ added_suc b (more (go d s).cpu (go d s).held)
  spent_after (refused n a s) go go' more b h e = absurd (omega (arith, e))

module _ {C S : Type 0} (o : C → Ops S) (step : C → Prog C) where
  -- the count is never above the budget
  pub count_most : (b : ℕ) (c : C) (s : S) → (run o step b c s).count ≤ b
  unfolding run
  count_most zero c s = omega arith
  count_most (suc b) c s =
      most_after c (interp (o c) (step c) s s) (λ d t. run o step b d t) b (λ d t. count_most b d t)

  pub refused_stays : (b more : ℕ) (c : C) (s : S) → (run o step b c s).count < b
      → run o step (b + more) c s ≡ run o step b c s
  unfolding run
  refused_stays zero more c s l = absurd (omega (arith, l))
  refused_stays (suc b) more c s l =
      rw
      (suc-add b more)
      (refused_after
      c
      (interp (o c) (step c) s s)
      (λ d t. run o step b d t)
      (λ d t. run o step (b + more) d t)
      b
      (λ d t k. refused_stays b more d t k)
      l)

  pub goes_on_lem : (b more : ℕ) (c : C) (s : S) → (run o step b c s).count ≡ b
      → run o step (b + more) c s ≡ added b (run o step more (run o step b c s).cpu (run o step b c s).held)
  unfolding run
  goes_on_lem zero more c s e =
      ap (λ n. run o step n c s) (zero-add more) ∙ sym (added_zero (run o step more c s))
  goes_on_lem (suc b) more c s e =
      rw
      (suc-add b more)
      (spent_after
      c
      (interp (o c) (step c) s s)
      (λ d t. run o step b d t)
      (λ d t. run o step (b + more) d t)
      (λ d t. run o step more d t)
      b
      (λ d t k. goes_on_lem b more d t k)
      e)
