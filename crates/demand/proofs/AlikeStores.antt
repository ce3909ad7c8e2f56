-- Two stores that answer alike run alike: for any programs, any state, any step and any budget. Nothing here knows of pages or of
-- instructions.
use Prim.Native.Nat.{ℕ, zero, suc}
use mathlib.Core.Path.{◌≡◌, refl, sym, ap, subst}
use Rattle.pages.specs.declared.Access.{Access}
use Rattle.pages.specs.declared.Access.TheVariants.{Fetch, Load, Store}
use Rattle.pages.specs.Tests.{Verdict, fine, bad}
use Rattle.machine.specs.Prog.{Prog, done, fail, look, get, put, Ops, Answer, finished, refused, keeps, after, interp}
use Rattle.machine.specs.Run.{Result, one, one_more, after_step, run}

-- what ties two stores: related stores answer alike and stay related
pub record Laws {S S' : Type 0} (o : Ops S) (o' : Ops S') (Rel : S → S' → Type 0) : Type 0 where
  pub looked : (s : S) (s' : S') (acc : Access) (a : ℕ) → Rel s s' → o.looked s acc a ≡ o'.looked s' acc a
  pub noted : (s : S) (s' : S') (acc : Access) (a : ℕ) → Rel s s' → Rel (o.noted s acc a) (o'.noted s' acc a)
  pub read : (s : S) (s' : S') (a : ℕ) → Rel s s' → o.read s a ≡ o'.read s' a
  pub wrote : (s : S) (s' : S') (a v : ℕ) → Rel s s' → Rel (o.wrote s a v) (o'.wrote s' a v)

-- answers alike: both done with one result, or both refused with one number and place; the stores related
abbrev pub Agree : {R S S' : Type 0} → (S → S' → Type 0) → Answer R S → Answer R S' → Type 0
Agree Rel (finished r s) (finished r' s') = (r ≡ r') × Rel s s'
Agree Rel (finished r s) (refused n' a' s') = ⊥
Agree Rel (refused n a s) (finished r' s') = ⊥
Agree Rel (refused n a s) (refused n' a' s') = (n ≡ n') × (a ≡ a') × Rel s s'

-- results of a run alike
pub record Alike {C S S' : Type 0} (Rel : S → S' → Type 0) (r : Result C S) (r' : Result C S') : Type 0 where
  pub stop : r.stop ≡ r'.stop
  pub place : r.place ≡ r'.place
  pub count : r.count ≡ r'.count
  pub cpu : r.cpu ≡ r'.cpu
  pub held : Rel r.held r'.held

module _ {S S' : Type 0} (Rel : S → S' → Type 0) where
  after_agree : {R : Type 0} (v : Verdict) (go : S → Answer R S) (go' : S' → Answer R S') (t : S) (t' : S') (a : ℕ) (k : S) (k' : S')
      → Rel k k' → Agree Rel (go t) (go' t') → Agree Rel (after v go t a k) (after v go' t' a k')
  after_agree fine go go' t t' a k k' hk h = h
  after_agree (bad c) go go' t t' a k k' hk h = (refl, refl, hk)

  module _ {o : Ops S} {o' : Ops S'} (L : Laws o o' Rel) where
    -- what a refusal keeps of a look stays related
    keeps_alike : (acc : Access) (a : ℕ) (k : S) (k' : S') → Rel k k' → Rel (keeps o acc a k) (keeps o' acc a k')
    keeps_alike Fetch a k k' h = L.noted k k' Fetch a h
    keeps_alike Load a k k' h = h
    keeps_alike Store a k k' h = h

    pub agree : {R : Type 0} (p : Prog R) (k s : S) (k' s' : S') → Rel k k' → Rel s s'
        → Agree Rel (interp o p k s) (interp o' p k' s')
    unfolding interp
    agree (done r) k s k' s' hk h = (refl, h)
    agree (fail n a) k s k' s' hk h = (refl, refl, hk)
    agree (look acc a p) k s k' s' hk h =
        subst
        (λ (v : Verdict). Agree Rel
        (after v (λ t. interp o p (keeps o acc a k) t) (o.noted s acc a) a k)
        (interp o' (look acc a p) k' s'))
        (sym (L.looked s s' acc a h))
        (after_agree
        (o'.looked s' acc a)
        (λ t. interp o p (keeps o acc a k) t)
        (λ t. interp o' p (keeps o' acc a k') t)
        (o.noted s acc a)
        (o'.noted s' acc a)
        a
        k
        k'
        hk
        (agree p (keeps o acc a k) (o.noted s acc a) (keeps o' acc a k') (o'.noted s' acc a) (keeps_alike acc a k k' hk) (L.noted s s' acc a h)))
    agree (get a p) k s k' s' hk h =
        subst
        (λ (v : ℕ). Agree Rel (interp o (p (o.read s a)) k s) (interp o' (p v) k' s'))
        (L.read s s' a h)
        (agree (p (o.read s a)) k s k' s' hk h)
    agree (put a v p) k s k' s' hk h =
        agree p k (o.wrote s a v) k' (o'.wrote s' a v) hk (L.wrote s s' a v h)

  pub one_alike : {C : Type 0} (c : C) (x : Answer C S) (x' : Answer C S') → Agree Rel x x' → Alike Rel (one c x) (one c x')
  one_alike c (finished d s) (finished d' s') h =
      record { stop = refl; place = refl; count = refl; cpu = h.0; held = h.1 }
  one_alike c (finished d s) (refused n' a' s') h = absurd h
  one_alike c (refused n a s) (finished d' s') h = absurd h
  one_alike c (refused n a s) (refused n' a' s') h =
      record { stop = h.0; place = h.1; count = refl; cpu = refl; held = h.2 }

  more_alike : {C : Type 0} (r : Result C S) (r' : Result C S') → Alike Rel r r' → Alike Rel (one_more r) (one_more r')
  more_alike r r' h =
      record { stop = h.stop; place = h.place; count = ap suc h.count; cpu = h.cpu; held = h.held }

  step_alike : {C : Type 0} (c : C) (x : Answer C S) (x' : Answer C S') (go : C → S → Result C S) (go' : C → S' → Result C S')
      → Agree Rel x x' → ((d : C) (s : S) (s' : S') → Rel s s' → Alike Rel (go d s) (go' d s'))
      → Alike Rel (after_step c x go) (after_step c x' go')
  step_alike c (finished d s) (finished d' s') go go' h f =
      subst
      (λ e. Alike Rel (one_more (go d s)) (one_more (go' e s')))
      h.0
      (more_alike (go d s) (go' d s') (f d s s' h.1))
  step_alike c (finished d s) (refused n' a' s') go go' h f = absurd h
  step_alike c (refused n a s) (finished d' s') go go' h f = absurd h
  step_alike c (refused n a s) (refused n' a' s') go go' h f = one_alike c (refused n a s) (refused n' a' s') h

  module _ {C : Type 0} (o : C → Ops S) (o' : C → Ops S') (L : (c : C) → Laws (o c) (o' c) Rel) (step : C → Prog C) where
    pub runs_alike : (b : ℕ) (c : C) (s : S) (s' : S') → Rel s s' → Alike Rel (run o step b c s) (run o' step b c s')
    unfolding run
    runs_alike zero c s s' h = record { stop = refl; place = refl; count = refl; cpu = refl; held = h }
    runs_alike (suc b) c s s' h =
        step_alike
        c
        (interp (o c) (step c) s s)
        (interp (o' c) (step c) s' s')
        (λ d t. run o step b d t)
        (λ d t. run o' step b d t)
        (agree (L c) (step c) s s s' s' h h)
        (λ d t t' k. runs_alike b d t t' k)
