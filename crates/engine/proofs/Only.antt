-- No second answer meets the same words. A contract is one equation: on one side what the function answered and left in the lists, put
-- together by a function of the definitions; on the other what the definitions say of the inputs. For each such function, two answers
-- that meet the same right-hand side are one answer.
use Prim.Native.Nat.{ℕ, zero, suc, ◌-◌}
use native.Mathlib.Omega.{arith}
use mathlib.Core.Path.{◌≡◌, refl, sym, ◌∙◌, ap}
use mathlib.Core.Bool.{Bool, true, false, cond}
use mathlib.Core.List.{List, [], ◌∷◌}
use borrow.Author.Tests.{ltb-true, ltb-false}
use lib.Dec.{ltb}
use lib.IntN.{ℤ, pos, negsuc, sub_ℕ}
use Rattle.std.specs.declared.result.Result as rust
use Rattle.words.specs.Said.{Said}
use Rattle.pages.specs.declared.Cause.{Cause}
use Rattle.pages.specs.declared.Cause.TheVariants as cause
use Rattle.pages.specs.declared.Refusal.{Refusal}
use Rattle.pages.specs.Tests.{number_of}
use Rattle.pages.specs.Framed.{Framed, framed_of}
use Rattle.machine.specs.declared.Reply.{Reply}
use Rattle.machine.specs.Prog.{Prog, done, fail, Answer, finished, refused}
use Rattle.machine.specs.Run.{Result}
use Rattle.machine.specs.Cpu.{Cpu}
use Rattle.machine.specs.Machine.{Given, Outcome, outcome, step_outcome, run_outcome}
use Rattle.actions.specs.declared.Now.{Now}
use Rattle.std.specs.Prelude.{Option, Some, None, Ok, Err}
use Rattle.actions.specs.declared.Stop.{Stop}
use Rattle.actions.specs.declared.Stop.TheVariants.{Addressing, Boundary, PagingQueue, PagingError, Unknown, Divide}
use Rattle.actions.specs.Answered.{Out, number, place, cpu_of, told, AnswersTo}
use Rattle.actions.proofs.Stops.{numbered, numbered_is, same_stop}
use Rattle.engine.specs.declared.Ran.{Ran}
use Rattle.engine.specs.declared.Text.{Text}
use Rattle.engine.specs.Entry.{Fetched, ran_number, ran_place, ran_as, halved, fetched, fetched_says}

-- `result ≡ ..` and `list.new ≡ ..`: the answer itself
pub only : {A : Type 0} (a a' x : A) → a ≡ x → a' ≡ x → a ≡ a'
only a a' x e e' = e ∙ sym e'

-- `.. ≡ sub_ℕ r m`: a number that is lifted by m
pub only_lifted : (r r' m : ℕ) (x : ℤ) → x ≡ sub_ℕ r m → x ≡ sub_ℕ r' m → r ≡ r'
only_lifted r r' m x e e' = go (ltb r m) (ltb r' m) refl refl (sym e ∙ e')
  where
    go : (b b' : Bool) → ltb r m ≡ b → ltb r' m ≡ b'
        → cond b (negsuc (m - suc r)) (pos (r - m)) ≡ cond b' (negsuc (m - suc r')) (pos (r' - m)) → r ≡ r'
    go true true l l' h =
        let d : m - suc r ≡ m - suc r' = cc in omega (arith, ltb-true r m l, ltb-true r' m l', d)
    go false false l l' h =
        let d : r - m ≡ r' - m = cc in omega (arith, ltb-false r m l, ltb-false r' m l', d)
    go true false l l' h = absurd (let z : ◌≡◌ {A = ℕ} 0 1 = cc in omega arith)
    go false true l l' h = absurd (let z : ◌≡◌ {A = ℕ} 0 1 = cc in omega arith)

-- what can be told from both sides of an equation is told alike
part : {A X : Type 0} (g : X → A) (a a' : A) (y y' x : X) → g y ≡ a → g y' ≡ a' → y ≡ x → y' ≡ x → a ≡ a'
part g a a' y y' x p p' e e' = sym p ∙ ap g (only y y' x e e') ∙ p'

-- `framed_of mem.new map.new ≡ ..`
pub only_framed : (mem map mem' map' : List ℕ) (x : Framed) → framed_of mem map ≡ x → framed_of mem' map' ≡ x
    → (mem ≡ mem') × (map ≡ map')
only_framed mem map mem' map' x e e' = (
  part (λ (s : Framed). s.mem) mem mem' (framed_of mem map) (framed_of mem' map') x refl refl e e',
  part (λ (s : Framed). s.map) map map' (framed_of mem map) (framed_of mem' map') x refl refl e e',
)

-- the scalars of a state, as the code passes them
abbrev now_of : Cpu → Now
now_of c = record { pc = c.pc; code = c.code; mask = c.mask }

-- `cpu_of regs.new result ≡ ..`
pub only_cpu : (regs regs' : List ℕ) (n n' : Now) (x : Cpu) → cpu_of regs n ≡ x → cpu_of regs' n' ≡ x → (regs ≡ regs') × (n ≡ n')
only_cpu regs regs' n n' x e e' = (
  part (λ (c : Cpu). c.regs) regs regs' (cpu_of regs n) (cpu_of regs' n') x refl refl e e',
  part now_of n n' (cpu_of regs n) (cpu_of regs' n') x refl refl e e',
)

-- `done (cpu_of regs.new result) ≡ ..`
pub only_done : (regs regs' : List ℕ) (n n' : Now) (x : Prog Cpu) → done (cpu_of regs n) ≡ x → done (cpu_of regs' n') ≡ x
    → (regs ≡ regs') × (n ≡ n')
only_done regs regs' n n' x e e' =
    let d : done (cpu_of regs n) ≡ done (cpu_of regs' n') = only _ _ x e e' in
    let s : cpu_of regs n ≡ cpu_of regs' n' = cc in
    only_cpu regs regs' n n' (cpu_of regs' n') s refl

-- `AnswersTo result regs.old regs.new ..`, regs being the registers at entry: no state that is done is a refusal
pub only_answers : (o o' : Out) (regs r r' : List ℕ) (x : Prog Cpu) → AnswersTo o regs r x → AnswersTo o' regs r' x
    → (o ≡ o') × (r ≡ r')
unfolding AnswersTo
only_answers (Ok n) (Ok n') regs r r' x e e' =
    let both = only_done r r' n n' x e e' in (ap Ok both.1, both.0)
only_answers (Err k) (Err k') regs r r' x (e, q) (e', q') =
    let f : fail (number k) (place k) ≡ fail (number k') (place k') = only _ _ x e e' in
    let m : number k ≡ number k' = cc in
    let p : place k ≡ place k' = cc in
    (ap Err (same_stop k k' m p), q ∙ sym q')
only_answers (Ok n) (Err k) regs r r' x e (e', q) = absurd (let z : ◌≡◌ {A = ℕ} 0 1 = cc in omega arith)
only_answers (Err k) (Ok n) regs r r' x (e, q) e' = absurd (let z : ◌≡◌ {A = ℕ} 0 1 = cc in omega arith)

-- an executor's answer, from the result that it tells
out_at : ℕ → Result Cpu Framed → Out
out_at zero r = Err (numbered r.stop r.place)
out_at (suc n) r = Ok (now_of r.cpu)

-- `told result regs.new c (framed_of ..) ≡ ..`, c being the state at entry
module _ (c : Now) where
  out_back : (o : Out) (regs : List ℕ) (s : Framed) → out_at (told o regs c s).count (told o regs c s) ≡ o
  unfolding told out_at
  out_back (Ok n) regs s = refl
  out_back (Err k) regs s = ap Err (numbered_is k)

  regs_back : (o : Out) (regs : List ℕ) (s : Framed) → (told o regs c s).cpu.regs ≡ regs
  unfolding told
  regs_back (Ok n) regs s = refl
  regs_back (Err k) regs s = refl

  held_back : (o : Out) (regs : List ℕ) (s : Framed) → (told o regs c s).held ≡ s
  unfolding told
  held_back (Ok n) regs s = refl
  held_back (Err k) regs s = refl

  pub only_told : (o o' : Out) (regs regs' : List ℕ) (s s' : Framed) (x : Result Cpu Framed)
      → told o regs c s ≡ x → told o' regs' c s' ≡ x → (o ≡ o') × (regs ≡ regs') × (s ≡ s')
  only_told o o' regs regs' s s' x e e' = (
    part (λ (r : Result Cpu Framed). out_at r.count r) o o' _ _ x (out_back o regs s) (out_back o' regs' s') e e',
    part (λ (r : Result Cpu Framed). r.cpu.regs) regs regs' _ _ x (regs_back o regs s) (regs_back o' regs' s') e e',
    part (λ (r : Result Cpu Framed). r.held) s s' _ _ x (held_back o regs s) (held_back o' regs' s') e e',
  )

-- `ran_as result regs.new (framed_of ..) ≡ ..`
stopped_of : ℕ → ℕ → Option Stop
stopped_of (suc (suc (suc (suc (suc (suc (suc zero))))))) a = None
stopped_of n a = Some (numbered n a)

stopped_back : (o : Option Stop) → stopped_of (ran_number o) (ran_place o) ≡ o
unfolding stopped_of numbered
stopped_back None = refl
stopped_back (Some (Addressing a)) = refl
stopped_back (Some (Boundary a)) = refl
stopped_back (Some (PagingQueue a)) = refl
stopped_back (Some (PagingError a)) = refl
stopped_back (Some (Unknown a)) = refl
stopped_back (Some (Divide a)) = refl

abbrev ran_of : Result Cpu Framed → Ran Stop
ran_of r = record { stopped = stopped_of r.stop r.place; count = r.count; now = now_of r.cpu }

ran_back : (r : Ran Stop) (regs : List ℕ) (s : Framed) → ran_of (ran_as r regs s) ≡ r
ran_back r regs s = ap (λ (o : Option Stop). record { stopped = o; count = r.count; now = r.now }) (stopped_back r.stopped)

pub only_ran : (r r' : Ran Stop) (regs regs' : List ℕ) (s s' : Framed) (x : Result Cpu Framed)
    → ran_as r regs s ≡ x → ran_as r' regs' s' ≡ x → (r ≡ r') × (regs ≡ regs') × (s ≡ s')
only_ran r r' regs regs' s s' x e e' = (
  part ran_of r r' _ _ x (ran_back r regs s) (ran_back r' regs' s') e e',
  part (λ (q : Result Cpu Framed). q.cpu.regs) regs regs' _ _ x refl refl e e',
  part (λ (q : Result Cpu Framed). q.held) s s' _ _ x refl refl e e',
)

-- `outcome result mem.new map.new regs.new ≡ ..`: the public entries
module _ (r r' : Reply) (mem mem' map map' regs regs' : List ℕ) where
  pub only_outcome : (x : Outcome) → outcome r mem map regs ≡ x → outcome r' mem' map' regs' ≡ x
      → (r ≡ r') × (mem ≡ mem') × (map ≡ map') × (regs ≡ regs')
  only_outcome x e e' = (
    part (λ (o : Outcome). o.reply) r r' _ _ x refl refl e e',
    part (λ (o : Outcome). o.mem) mem mem' _ _ x refl refl e e',
    part (λ (o : Outcome). o.map) map map' _ _ x refl refl e e',
    part (λ (o : Outcome). o.regs) regs regs' _ _ x refl refl e e',
  )

  -- a step of what the caller gave has one answer
  pub one_step_answer : (g : Given) → outcome r mem map regs ≡ step_outcome g → outcome r' mem' map' regs' ≡ step_outcome g
      → (r ≡ r') × (mem ≡ mem') × (map ≡ map') × (regs ≡ regs')
  one_step_answer g = only_outcome (step_outcome g)

  -- and so has a run
  pub one_run_answer : (budget : ℕ) (g : Given) → outcome r mem map regs ≡ run_outcome budget g → outcome r' mem' map' regs' ≡ run_outcome budget g
      → (r ≡ r') × (mem ≡ mem') × (map ≡ map') × (regs ≡ regs')
  one_run_answer budget g = only_outcome (run_outcome budget g)

-- `halved result (framed_of mem.old map.new) ≡ ..`: number and place say which refusal it is
refused_at : ℕ → ℕ → Refusal
refused_at (suc zero) a = record { cause = cause.Addressing; place = a }
refused_at (suc (suc (suc zero))) a = record { cause = cause.PagingQueue; place = a }
refused_at n a = record { cause = cause.PagingError; place = a }

refused_back : (e : Refusal) → refused_at (number_of e.cause) e.place ≡ e
unfolding refused_at
refused_back e = go e.cause
  where
    go : (c : Cause) → refused_at (number_of c) e.place ≡ record { cause = c; place = e.place }
    go cause.Addressing = refl
    go cause.PagingQueue = refl
    go cause.PagingError = refl

abbrev half_of : Answer ℕ Framed → rust.Result ℕ Refusal
half_of (finished h s) = Ok h
half_of (refused n a s) = Err (refused_at n a)

abbrev left_of : Answer ℕ Framed → Framed
left_of (finished h s) = s
left_of (refused n a s) = s

half_back : (r : rust.Result ℕ Refusal) (s : Framed) → half_of (halved r s) ≡ r
half_back (Ok h) s = refl
half_back (Err e) s = ap Err (refused_back e)

left_back : (r : rust.Result ℕ Refusal) (s : Framed) → left_of (halved r s) ≡ s
left_back (Ok h) s = refl
left_back (Err e) s = refl

pub only_halved : (r r' : rust.Result ℕ Refusal) (s s' : Framed) (x : Answer ℕ Framed) → halved r s ≡ x → halved r' s' ≡ x → (r ≡ r') × (s ≡ s')
only_halved r r' s s' x e e' = (
  part half_of r r' _ _ x (half_back r s) (half_back r' s') e e',
  part left_of s s' _ _ x (left_back r s) (left_back r' s') e e',
)

-- `fetched result (framed_of mem.old map.new) ≡ ..`
abbrev text_of : Answer Text Framed → Fetched
text_of (finished t s) = Ok t
text_of (refused n a s) = Err (numbered n a)

abbrev store_of : Answer Text Framed → Framed
store_of (finished t s) = s
store_of (refused n a s) = s

text_of_lem : (r : Fetched) (s : Framed) → text_of (fetched r s) ≡ r
text_of_lem (Ok t) s = refl
text_of_lem (Err k) s = ap Err (numbered_is k)

store_of_lem : (r : Fetched) (s : Framed) → store_of (fetched r s) ≡ s
store_of_lem (Ok t) s = refl
store_of_lem (Err k) s = refl

pub only_fetched : (r r' : Fetched) (s s' : Framed) (x : Answer Text Framed) → fetched r s ≡ x → fetched r' s' ≡ x → (r ≡ r') × (s ≡ s')
only_fetched r r' s s' x e e' = (
  part text_of r r' _ _ x (text_of_lem r s) (text_of_lem r' s') e e',
  part store_of s s' _ _ x (store_of_lem r s) (store_of_lem r' s') e e',
)

-- what a text says in document 01's terms it says once
abbrev text_from : ℕ → List ℕ → Fetched
text_from n [] = Err (numbered n 0)
text_from n (a ∷ []) = Err (numbered n a)
text_from n (a ∷ b ∷ []) = Err (numbered n a)
text_from n (a ∷ b ∷ c ∷ l) = Ok (record { h1 = a; h2 = b; h3 = c })

text_back : (t : Fetched) → text_from (fetched_says t).number (fetched_says t).values ≡ t
text_back (Ok t) = refl
text_back (Err k) = ap Err (numbered_is k)

pub fetched_once : (t u : Fetched) → fetched_says t ≡ fetched_says u → t ≡ u
fetched_once t u e = sym (text_back t) ∙ ap (λ (s : Said (List ℕ)). text_from s.number s.values) e ∙ text_back u
