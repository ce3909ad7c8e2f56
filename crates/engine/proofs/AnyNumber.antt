-- No second answer meets the same words, whatever number and place a refusal has. Only takes refusals from the code's types, which hold six
-- (and, of a run, a spent budget); here they are any two numbers, so that no answer is left out because no type of the code has it. Each
-- shape is Only's at the number and the place of what those types hold, and the lemma behind it says so.
use Prim.Native.Nat.{ℕ}
use native.Mathlib.Omega.{arith}
use mathlib.Core.Path.{◌≡◌, refl, sym, ◌∙◌, ap}
use mathlib.Core.List.{List, [], ◌∷◌}
use Rattle.std.specs.Prelude.{Ok, Err}
use Rattle.std.specs.declared.result.Result as rust
use Rattle.words.specs.Said.{Said, says}
use Rattle.pages.specs.Framed.{Framed}
use Rattle.machine.specs.Prog.{Prog, done, fail, Answer, finished, refused, interp}
use Rattle.machine.specs.Run.{Result, one}
use Rattle.machine.specs.Store.{framed}
use Rattle.machine.specs.Cpu.{Cpu}
use Rattle.actions.specs.declared.Now.{Now}
use Rattle.actions.specs.declared.Stop.{Stop}
use Rattle.actions.specs.Answered.{Out, number, place, cpu_of, told, AnswersTo}
use Rattle.engine.specs.declared.Ran.{Ran}
use Rattle.engine.specs.declared.Text.{Text}
use Rattle.engine.specs.Entry.{Fetched, ran_number, ran_place, ran_as, fetched, fetched_says}
use Rattle.engine.proofs.Only.{only, only_done}

-- number and place of a refusal, any two
abbrev pub AnyStop : Type 0
AnyStop = ℕ × ℕ

-- those of the code's
abbrev pub any : {A : Type 0} → rust.Result A Stop → rust.Result A AnyStop
any (Ok t) = Ok t
any (Err k) = Err (number k, place k)

-- what an executor answers, as one step's result
abbrev pub AnyOut : Type 0
AnyOut = rust.Result Now AnyStop

unfoldable pub told_any : AnyOut → List ℕ → Now → Framed → Result Cpu Framed
told_any (Ok n) regs c s = record { stop = 0; place = 0; count = 1; cpu = cpu_of regs n; held = s }
told_any (Err (k, a)) regs c s = record { stop = k; place = a; count = 0; cpu = cpu_of regs c; held = s }

pub told_is : (o : Out) (regs : List ℕ) (c : Now) (s : Framed) → told o regs c s ≡ told_any (any o) regs c s
unfolding told told_any
told_is (Ok n) regs c s = refl
told_is (Err k) regs c s = refl

done_from : Result Cpu Framed → AnyOut
done_from r = Ok (record { pc = r.cpu.pc; code = r.cpu.code; mask = r.cpu.mask })

stop_from : Result Cpu Framed → AnyOut
stop_from r = Err (r.stop, r.place)

-- a result of one step is told by one answer, with one list of registers and one store
told_alike : (c : Now) (o p : AnyOut) (regs regs' : List ℕ) (s t : Framed) → told_any o regs c s ≡ told_any p regs' c t
    → (o ≡ p) × (regs ≡ regs') × (s ≡ t)
unfolding told_any done_from stop_from
told_alike c (Ok m) (Ok n) regs regs' s t e =
    (ap done_from e, ap (λ (r : Result Cpu Framed). r.cpu.regs) e, ap (λ (r : Result Cpu Framed). r.held) e)
told_alike c (Ok m) (Err (k, a)) regs regs' s t e =
    absurd (let z : ◌≡◌ {A = ℕ} 1 0 = ap (λ (r : Result Cpu Framed). r.count) e in omega arith)
told_alike c (Err (k, a)) (Ok n) regs regs' s t e =
    absurd (let z : ◌≡◌ {A = ℕ} 0 1 = ap (λ (r : Result Cpu Framed). r.count) e in omega arith)
told_alike c (Err (k, a)) (Err (j, b)) regs regs' s t e =
    (ap stop_from e, ap (λ (r : Result Cpu Framed). r.cpu.regs) e, ap (λ (r : Result Cpu Framed). r.held) e)

pub only_told_any : (c : Now) (o o' : AnyOut) (regs regs' : List ℕ) (s s' : Framed) (x : Result Cpu Framed)
    → told_any o regs c s ≡ x → told_any o' regs' c s' ≡ x → (o ≡ o') × (regs ≡ regs') × (s ≡ s')
only_told_any c o o' regs regs' s s' x e e' = told_alike c o o' regs regs' s s' (only _ _ x e e')

pub told_once_any : (regs : List ℕ) (c : Now) (o p : AnyOut) (s t : Framed) → told_any o regs c s ≡ told_any p regs c t
    → (o ≡ p) × (s ≡ t)
told_once_any regs c o p s t e = let l = told_alike c o p regs regs s t e in (l.0, l.2)

-- the answer of an executor that touches no storage
unfoldable pub AnswersToAny : AnyOut → List ℕ → List ℕ → Prog Cpu → Type 0
AnswersToAny (Ok n) regs regs' p = done (cpu_of regs' n) ≡ p
AnswersToAny (Err (k, a)) regs regs' p = (fail k a ≡ p) × (regs' ≡ regs)

pub answers_is : (o : Out) (regs regs' : List ℕ) (p : Prog Cpu)
    → ◌≡◌ {A = Type 0} (AnswersTo o regs regs' p) (AnswersToAny (any o) regs regs' p)
unfolding AnswersTo AnswersToAny
answers_is (Ok n) regs regs' p = refl
answers_is (Err k) regs regs' p = refl

pub only_answers_any : (o o' : AnyOut) (regs r r' : List ℕ) (x : Prog Cpu) → AnswersToAny o regs r x → AnswersToAny o' regs r' x
    → (o ≡ o') × (r ≡ r')
unfolding AnswersToAny
only_answers_any (Ok n) (Ok n') regs r r' x e e' =
    let both = only_done r r' n n' x e e' in (ap Ok both.1, both.0)
only_answers_any (Err (k, a)) (Err (k', a')) regs r r' x (e, q) (e', q') =
    let f : fail k a ≡ fail k' a' = only _ _ x e e' in
    let m : k ≡ k' = cc in
    let p : a ≡ a' = cc in
    (ap (λ (n : ℕ). Err (n, a)) m ∙ ap (λ (b : ℕ). Err (k', b)) p, q ∙ sym q')
only_answers_any (Ok n) (Err (k, a)) regs r r' x e (e', q) = absurd (let z : ◌≡◌ {A = ℕ} 0 1 = cc in omega arith)
only_answers_any (Err (k, a)) (Ok n) regs r r' x (e, q) e' = absurd (let z : ◌≡◌ {A = ℕ} 0 1 = cc in omega arith)

-- such an answer, told, is what its program comes to
pub answered_any : (regs regs' : List ℕ) (c : Now) (o : AnyOut) (p : Prog Cpu) (s : Framed) → AnswersToAny o regs regs' p
    → told_any o regs' c s ≡ one (cpu_of regs c) (interp framed p s s)
unfolding told_any interp AnswersToAny
answered_any regs regs' c (Ok n) p s e = ap (λ (q : Prog Cpu). one (cpu_of regs c) (interp framed q s s)) e
answered_any regs regs' c (Err (k, a)) p s (e, f) = rw (f, ← e)

-- how a run ended, by any number and place
pub record AnyRan : Type 0 where
  pub number : ℕ
  pub place : ℕ
  pub count : ℕ
  pub now : Now

abbrev pub any_ran : Ran Stop → AnyRan
any_ran r = record { number = ran_number r.stopped; place = ran_place r.stopped; count = r.count; now = r.now }

abbrev pub ran_as_any : AnyRan → List ℕ → Framed → Result Cpu Framed
ran_as_any r regs s =
    record { stop = r.number; place = r.place; count = r.count; cpu = cpu_of regs r.now; held = s }

pub ran_is : (r : Ran Stop) (regs : List ℕ) (s : Framed) → ran_as r regs s ≡ ran_as_any (any_ran r) regs s
ran_is r regs s = refl

ran_of : Result Cpu Framed → AnyRan
ran_of r =
    record {
      number = r.stop;
      place = r.place;
      count = r.count;
      now = record { pc = r.cpu.pc; code = r.cpu.code; mask = r.cpu.mask };
    }

pub only_ran_any : (r r' : AnyRan) (regs regs' : List ℕ) (s s' : Framed) (x : Result Cpu Framed)
    → ran_as_any r regs s ≡ x → ran_as_any r' regs' s' ≡ x → (r ≡ r') × (regs ≡ regs') × (s ≡ s')
unfolding ran_of
only_ran_any r r' regs regs' s s' x e e' =
    let l : ran_as_any r regs s ≡ ran_as_any r' regs' s' = only _ _ x e e' in
    (ap ran_of l, ap (λ (q : Result Cpu Framed). q.cpu.regs) l, ap (λ (q : Result Cpu Framed). q.held) l)

-- a text, or any refusal in its place
abbrev pub AnyFetched : Type 0
AnyFetched = rust.Result Text AnyStop

abbrev pub fetched_any : AnyFetched → Framed → Answer Text Framed
fetched_any (Ok t) s = finished t s
fetched_any (Err (n, a)) s = refused n a s

pub fetched_is : (r : Fetched) (s : Framed) → fetched r s ≡ fetched_any (any r) s
fetched_is (Ok t) s = refl
fetched_is (Err k) s = refl

abbrev text_of : Answer Text Framed → AnyFetched
text_of (finished t s) = Ok t
text_of (refused n a s) = Err (n, a)

abbrev store_of : Answer Text Framed → Framed
store_of (finished t s) = s
store_of (refused n a s) = s

text_of_lem : (r : AnyFetched) (s : Framed) → text_of (fetched_any r s) ≡ r
text_of_lem (Ok t) s = refl
text_of_lem (Err (n, a)) s = refl

store_of_lem : (r : AnyFetched) (s : Framed) → store_of (fetched_any r s) ≡ s
store_of_lem (Ok t) s = refl
store_of_lem (Err (n, a)) s = refl

pub only_fetched_any : (r r' : AnyFetched) (s s' : Framed) (x : Answer Text Framed) → fetched_any r s ≡ x → fetched_any r' s' ≡ x
    → (r ≡ r') × (s ≡ s')
only_fetched_any r r' s s' x e e' =
    let l : fetched_any r s ≡ fetched_any r' s' = only _ _ x e e' in
    (sym (text_of_lem r s) ∙ ap text_of l ∙ text_of_lem r' s', sym (store_of_lem r s) ∙ ap store_of l ∙ store_of_lem r' s')

-- what it says in document 01's terms
abbrev pub fetched_says_any : AnyFetched → Said (List ℕ)
fetched_says_any (Ok t) = says 0 (t.h1 ∷ t.h2 ∷ t.h3 ∷ [])
fetched_says_any (Err (n, a)) = says n (a ∷ [])

pub fetched_says_is : (t : Fetched) → fetched_says t ≡ fetched_says_any (any t)
fetched_says_is (Ok t) = refl
fetched_says_is (Err k) = refl

abbrev text_from : ℕ → List ℕ → AnyFetched
text_from n [] = Err (n, 0)
text_from n (a ∷ []) = Err (n, a)
text_from n (a ∷ b ∷ []) = Err (n, a)
text_from n (a ∷ b ∷ c ∷ l) = Ok (record { h1 = a; h2 = b; h3 = c })

text_back : (t : AnyFetched) → text_from (fetched_says_any t).number (fetched_says_any t).values ≡ t
text_back (Ok t) = refl
text_back (Err (n, a)) = refl

pub fetched_once_any : (t u : AnyFetched) → fetched_says_any t ≡ fetched_says_any u → t ≡ u
fetched_once_any t u e = sym (text_back t) ∙ ap (λ (s : Said (List ℕ)). text_from s.number s.values) e ∙ text_back u
