-- A run, a turn at a time: the steps done so far, and the run that is left.
use Prim.Native.Nat.{ℕ, zero, suc, ◌+◌, ◌-◌, ◌<◌, ◌≤◌}
use native.Mathlib.Omega.{arith}
use native.Mathlib.Nat.{zero-add, add-zero}
use mathlib.Core.Path.{◌≡◌, refl, sym, ◌∙◌, ap}
use mathlib.Core.List.{List}
use Rattle.pages.specs.Framed.{Framed, framed_of}
use Rattle.machine.specs.Prog.{Answer, finished, refused, interp}
use Rattle.machine.specs.Run.{Result, one, one_more, after_step, run}
use Rattle.machine.specs.Store.{framed}
use Rattle.machine.specs.Cpu.{Cpu}
use Rattle.machine.specs.Step.{step}
use Rattle.machine.specs.Machine.{ops_for}
use Rattle.fields.proofs.ByteLoops.{pred_suc}
use Rattle.actions.specs.declared.Now.{Now}
use Rattle.std.specs.Prelude.{Some, None, Ok, Err}
use Rattle.actions.specs.declared.Stop.{Stop}
use Rattle.actions.specs.Answered.{Out, number, place, cpu_of, told, doing}
use Rattle.engine.specs.Entry.{ran_as, adds}

-- steps counted: none, one, and those of a run that goes on
adds_none : (r : Result Cpu Framed) → r ≡ adds 0 r
adds_none r = λ i. record { stop = r.stop; place = r.place; count = sym (zero-add r.count) i; cpu = r.cpu; held = r.held }

adds_more : (n : ℕ) (r : Result Cpu Framed) → adds n (one_more r) ≡ adds (n + 1) r
adds_more n r =
    λ i. record { stop = r.stop; place = r.place; count = moved i; cpu = r.cpu; held = r.held }
  where
    moved : n + suc r.count ≡ n + 1 + r.count
    moved = omega arith

adds_both : (m n : ℕ) (r : Result Cpu Framed) → adds m (adds n r) ≡ adds (m + n) r
adds_both m n r =
    λ i. record { stop = r.stop; place = r.place; count = moved i; cpu = r.cpu; held = r.held }
  where
    moved : m + (n + r.count) ≡ m + n + r.count
    moved = omega arith

pub run_start : (budget : ℕ) (c : Cpu) (s : Framed) → run ops_for step budget c s ≡ adds (budget - budget) (run ops_for step budget c s)
run_start budget c s =
    let z : 0 ≡ budget - budget = omega arith in
    adds_none (run ops_for step budget c s) ∙ ap (λ (n : ℕ). adds n (run ops_for step budget c s)) z

pub run_further : (budget left less : ℕ) → left ≤ budget → less ≤ left → (x r s : Result Cpu Framed) → x ≡ adds (budget - left) r → r ≡ adds (left - less) s
    → x ≡ adds (budget - less) s
run_further budget left less h l x r s e k =
    let z : budget - left + (left - less) ≡ budget - less = omega arith in
    e ∙ ap (adds (budget - left)) k ∙ adds_both (budget - left) (left - less) s ∙ ap (λ (n : ℕ). adds n s) z

-- what a step's answer says of the definitions' answer
pub was_done : (c : Cpu) (x : Answer Cpu Framed) (c' : Cpu) (s' : Framed)
    → ◌≡◌ {A = Result Cpu Framed} (record { stop = 0; place = 0; count = 1; cpu = c'; held = s' }) (one c x) → x ≡ finished c' s'
was_done c (finished d t) c' s' e =
    ap (λ (y : Cpu). finished y t) (sym (ap (λ (r : Result Cpu Framed). r.cpu) e))
    ∙ ap (finished c') (sym (ap (λ (r : Result Cpu Framed). r.held) e))
was_done c (refused n a t) c' s' e =
    absurd (let z : ◌≡◌ {A = ℕ} 1 0 = ap (λ (r : Result Cpu Framed). r.count) e in omega arith)

was_refused : (c : Cpu) (x : Answer Cpu Framed) (go : Cpu → Framed → Result Cpu Framed) (r : Result Cpu Framed) → r.count ≡ 0 → r ≡ one c x
    → r ≡ after_step c x go
was_refused c (finished d t) go r z e =
    absurd (let y : ◌≡◌ {A = ℕ} 0 1 = sym z ∙ ap (λ (q : Result Cpu Framed). q.count) e in omega arith)
was_refused c (refused n a t) go r z e = e

-- a turn of a run of which so many steps are left
module _ (regs mem map : List ℕ) (at : Now) (budget left : ℕ) (h : 0 < left) where
  pub run_on : left ≤ budget → (out : Out) (next : Now) (regs' mem' map' : List ℕ)
      → told out regs' at (framed_of mem' map') ≡ doing step regs at (framed_of mem map) → out ≡ Ok next
      → adds (budget - left) (run ops_for step left (cpu_of regs at) (framed_of mem map))
      ≡ adds (budget - (left - 1)) (run ops_for step (left - 1) (cpu_of regs' next) (framed_of mem' map'))
  unfolding run told
  run_on m out next regs' mem' map' t o =
      let more : budget - left + 1 ≡ budget - (left - 1) = omega arith in
      go left h ∙ ap (λ (n : ℕ). adds n (run ops_for step (left - 1) (cpu_of regs' next) (framed_of mem' map'))) more
    where
      x : interp framed (step (cpu_of regs at)) (framed_of mem map) (framed_of mem map) ≡ finished (cpu_of regs' next) (framed_of mem' map')
      x =
          was_done (cpu_of regs at) (interp framed (step (cpu_of regs at)) (framed_of mem map) (framed_of mem map)) (cpu_of regs' next) (framed_of mem' map')
          (ap (λ (y : Out). told y regs' at (framed_of mem' map')) (sym o) ∙ t)

      go : (l : ℕ) → 0 < l
          → adds (budget - left) (run ops_for step l (cpu_of regs at) (framed_of mem map))
          ≡ adds (budget - left + 1) (run ops_for step (l - 1) (cpu_of regs' next) (framed_of mem' map'))
      go zero k = absurd (omega arith)
      go (suc b) k =
          ap (λ (y : Answer Cpu Framed). adds (budget - left) (after_step (cpu_of regs at) y (λ c' s'. run ops_for step b c' s'))) x
          ∙ adds_more (budget - left) (run ops_for step b (cpu_of regs' next) (framed_of mem' map'))
          ∙ ap (λ (b' : ℕ). adds (budget - left + 1) (run ops_for step b' (cpu_of regs' next) (framed_of mem' map'))) (sym (pred_suc b))

  pub run_stop : (out : Out) (stop : Stop) (regs' mem' map' : List ℕ)
      → told out regs' at (framed_of mem' map') ≡ doing step regs at (framed_of mem map) → out ≡ Err stop
      → ran_as (record { stopped = Some stop; count = budget - left; now = at }) regs' (framed_of mem' map')
      ≡ adds (budget - left) (run ops_for step left (cpu_of regs at) (framed_of mem map))
  unfolding run told
  run_stop out stop regs' mem' map' t o = go left h
    where
      r : Result Cpu Framed
      r = record { stop = number stop; place = place stop; count = 0; cpu = cpu_of regs' at; held = framed_of mem' map' }

      x : r ≡ one (cpu_of regs at) (interp framed (step (cpu_of regs at)) (framed_of mem map) (framed_of mem map))
      x = ap (λ (y : Out). told y regs' at (framed_of mem' map')) (sym o) ∙ t

      plus : ran_as (record { stopped = Some stop; count = budget - left; now = at }) regs' (framed_of mem' map') ≡ adds (budget - left) r
      plus =
          λ i. record { stop = number stop; place = place stop; count = sym (add-zero (budget - left)) i; cpu = cpu_of regs' at; held = framed_of mem' map' }

      go : (l : ℕ) → 0 < l
          → ran_as (record { stopped = Some stop; count = budget - left; now = at }) regs' (framed_of mem' map')
          ≡ adds (budget - left) (run ops_for step l (cpu_of regs at) (framed_of mem map))
      go zero k = absurd (omega arith)
      go (suc b) k =
          plus
          ∙ ap (adds (budget - left))
          (was_refused (cpu_of regs at) (interp framed (step (cpu_of regs at)) (framed_of mem map) (framed_of mem map)) (λ c' s'. run ops_for step b c' s') r refl x)

pub run_spent : (regs mem map : List ℕ) (at : Now) (budget left : ℕ) → left ≤ 0
    → ran_as (record { stopped = None; count = budget - left; now = at }) regs (framed_of mem map)
    ≡ adds (budget - left) (run ops_for step left (cpu_of regs at) (framed_of mem map))
unfolding run
run_spent regs mem map at budget left h =
    let z : left ≡ 0 = omega arith in
    rw z
    (λ i. record { stop = 7; place = 0; count = sym (add-zero (budget - 0)) i; cpu = cpu_of regs at; held = framed_of mem map })
