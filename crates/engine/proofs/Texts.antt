-- A step by its text: the halfwords, as they are fetched one after the other, and then the action on them.
use Prim.Native.Nat.{ℕ, ◌%◌}
use mathlib.Core.Path.{◌≡◌, refl, sym, ◌∙◌, ap}
use mathlib.Core.Bool.{Bool, true}
use mathlib.Core.List.{List}
use Rattle.std.specs.Prelude.{Option, Some, None, Ok, Err}
use Rattle.std.specs.declared.result.Result as rust
use borrow.Author.Tests.{eq-eqb, ne_eqb}
use lib.Dec.{ltb}
use Rattle.pages.specs.declared.Refusal.{Refusal}
use Rattle.pages.specs.Tests.{number_of}
use Rattle.pages.specs.Framed.{Framed, framed_of}
use Rattle.machine.specs.Prog.{Prog, done, Answer, refused, interp}
use Rattle.machine.specs.Run.{Result, one}
use Rattle.machine.specs.Store.{framed}
use Rattle.machine.specs.Cpu.{Cpu, ahead}
use Rattle.machine.specs.Rx.{rx}
use Rattle.machine.specs.Rs.{rs}
use Rattle.machine.specs.Si.{si}
use Rattle.machine.specs.Ss.{ss}
use Rattle.machine.specs.Fields.{gets, halfword}
use Rattle.machine.specs.Step.{step, known, act}
use Rattle.machine.proofs.Fetches.{then_on}
use Rattle.code.specs.declared.Action.{Action}
use Rattle.code.specs.declared.Action.TheVariants.{Rr, Rx, Rs, Si, Ss}
use Rattle.code.specs.Table.{action_of}
use Rattle.code.specs.Formats.{op_of, rx_of, rs_of, si_of, ss_of}
use Rattle.actions.specs.declared.Now.{Now}
use Rattle.actions.specs.declared.Stop.{Stop}
use Rattle.actions.specs.declared.Stop.TheVariants.{Boundary, Unknown}
use Rattle.actions.specs.Answered.{number, place, cpu_of, told, doing, refusal_of}
use Rattle.actions.proofs.Stops.{handed_on}
use Rattle.actions.specs.Whole.{act_whole, whole}
use Rattle.engine.specs.declared.Text.{Text}
use Rattle.engine.specs.Entry.{Fetched, past, halves, halves_of, wanted_half, halving, halved, further_text, text, fetching, fetched}
use Rattle.engine.proofs.Halfwords.{wanted_then, half_more}

-- what an instruction comes to, by its text
abbrev by_text : Cpu → Text → Framed → Answer Cpu Framed
by_text c t s = interp framed (whole t.h1 t.h2 t.h3 c) s s

module _ (c : Cpu) (h1 : ℕ) (f : Option Action) (names : f ≡ action_of (op_of h1)) where
  -- the first halfword names the operation
  acts : (h2 h3 : ℕ) (s : Framed) → interp framed (act_whole f h1 h2 h3 c) s s ≡ by_text c (record { h1 = h1; h2 = h2; h3 = h3 }) s
  unfolding whole
  acts h2 h3 s = ap (λ (g : Option Action). interp framed (act_whole g h1 h2 h3 c) s s) names

module _ (c : Cpu) (h1 : ℕ) where
  -- an operation of four bytes: its second halfword; the third is read and not looked at
  two_halves : (k : ℕ → Prog Cpu) → ((h2 h3 : ℕ) (s : Framed) → interp framed (k h2) s s ≡ by_text c (record { h1 = h1; h2 = h2; h3 = h3 }) s) → (s : Framed)
      → interp framed (halfword (past c.pc 2) k) s s ≡ then_on (interp framed (further_text 2 c.pc h1) s s) (by_text c)
  unfolding gets interp
  two_halves k e =
      half_more (past c.pc 2) (λ h2. gets (past c.pc 4) 2 0 (λ h3. done (record { h1 = h1; h2 = h2; h3 = h3 }))) k (by_text c) (λ h2 t. e h2 _ t)

  known_text : (f : Option Action) → f ≡ action_of (op_of h1) → (s : Framed)
      → interp framed (known f h1 c) s s ≡ then_on (interp framed (further_text (halves f) c.pc h1) s s) (by_text c)
  unfolding act ahead gets interp
  known_text None e s = acts c h1 None e _ _ s
  known_text (Some (Rr x)) e s = acts c h1 (Some (Rr x)) e _ _ s
  known_text (Some (Rx x)) e s = two_halves (λ h2. rx x (rx_of h1 h2) c) (acts c h1 (Some (Rx x)) e) s
  known_text (Some (Rs x)) e s = two_halves (λ h2. rs x (rs_of h1 h2) c) (acts c h1 (Some (Rs x)) e) s
  known_text (Some (Si x)) e s = two_halves (λ h2. si x (si_of h1 h2) c) (acts c h1 (Some (Si x)) e) s
  known_text (Some (Ss x)) e s =
      half_more (past c.pc 2) (λ h2. halfword (past c.pc 4) (λ h3. done (record { h1 = h1; h2 = h2; h3 = h3 }))) (λ h2. halfword (past c.pc 4) (λ h3. ss x (ss_of h1 h2 h3) c)) (by_text c)
      (λ h2. half_more (past c.pc 4) (λ h3. done (record { h1 = h1; h2 = h2; h3 = h3 })) (λ h3. ss x (ss_of h1 h2 h3) c) (by_text c) (λ h3 t. acts c h1 (Some (Ss x)) e h2 h3 t))
      s

step_text : (c : Cpu) → (c.pc % 2 ≡ 1 → ⊥) → (s : Framed) → interp framed (step c) s s ≡ then_on (fetching c.pc s) (by_text c)
unfolding step text
step_text c h s =
    rw (ne_eqb (c.pc % 2) 1 h)
    (half_more c.pc (λ h1. further_text (halves_of h1) c.pc h1) (λ h1. known (action_of (op_of h1)) h1 c) (by_text c)
    (λ h1 t. known_text c h1 (action_of (op_of h1)) refl t)
    s)

-- a step, by its way out; map' has the marks of the fetch
module _ (regs : List ℕ) (c : Now) (mem map : List ℕ) where
  pub step_odd : c.pc % 2 ≡ 1 → told (Err (Boundary c.pc)) regs c (framed_of mem map) ≡ doing step regs c (framed_of mem map)
  unfolding step told interp
  step_odd h = rw (eq-eqb (c.pc % 2) 1 h)

  module _ (h : c.pc % 2 ≡ 1 → ⊥) (r : Fetched) (map' : List ℕ) (e : fetched r (framed_of mem map') ≡ fetching c.pc (framed_of mem map)) where
    comes : (x : Answer Cpu Framed) → x ≡ then_on (fetched r (framed_of mem map')) (by_text (cpu_of regs c))
        → one (cpu_of regs c) x ≡ doing step regs c (framed_of mem map)
    comes x k =
        ap (one (cpu_of regs c))
        (k ∙ ap (λ (y : Answer Text Framed). then_on y (by_text (cpu_of regs c))) e ∙ sym (step_text (cpu_of regs c) h (framed_of mem map)))

    pub step_stop : (k : Stop) → r ≡ Err k → told (Err k) regs c (framed_of mem map') ≡ doing step regs c (framed_of mem map)
    unfolding told
    step_stop k t = comes (refused (number k) (place k) (framed_of mem map')) (rw t)

    pub step_whole : (text : Text) → r ≡ Ok text → (x : Result Cpu Framed) → x ≡ doing (whole text.h1 text.h2 text.h3) regs c (framed_of mem map')
        → x ≡ doing step regs c (framed_of mem map)
    step_whole text t x d = d ∙ comes (by_text (cpu_of regs c) text (framed_of mem map')) (rw t)

-- an operation that is not known
pub unknown_stop : (regs : List ℕ) (c : Now) (mem map : List ℕ) (h1 h2 h3 : ℕ) (found : Option Action) → found ≡ action_of (op_of h1) → found ≡ None
    → told (Err (Unknown c.pc)) regs c (framed_of mem map) ≡ doing (whole h1 h2 h3) regs c (framed_of mem map)
unfolding whole told interp
unknown_stop regs c mem map h1 h2 h3 found e u = rw (← e, u)

-- what follows the second halfword
abbrev third_text : ℕ → ℕ → ℕ → ℕ → Prog Text
third_text n last h1 h2 = wanted_half (ltb 2 n) last (λ h3. done (record { h1 = h1; h2 = h2; h3 = h3 }))

-- a halfword that is fetched next, as the code answered it
then_half : {R : Type 0} (b : Bool) (a : ℕ) (k : ℕ → Prog R) (s t : Framed) (r : rust.Result ℕ Refusal) → halved r t ≡ halving b a s
    → interp framed (wanted_half b a k) s s ≡ then_on (halved r t) (λ h u. interp framed (k h) u u)
then_half b a k s t r e = wanted_then b a k s ∙ ap (λ (x : Answer ℕ Framed). then_on x (λ h u. interp framed (k h) u u)) (sym e)

-- a text by its halfwords, one after the other: refused at one of them, or whole
stopped : (mem map : List ℕ) (q : Refusal) (k : Stop) (x : Answer Text Framed) → k ≡ refusal_of q → x ≡ refused (number_of q.cause) q.place (framed_of mem map)
    → fetched (Err k) (framed_of mem map) ≡ x
stopped mem map q k x f h = rw f (handed_on q.cause q.place (framed_of mem map) ∙ sym h)

module _ (mem map : List ℕ) (pc : ℕ) (first : rust.Result ℕ Refusal) (map1 : List ℕ) (e1 : halved first (framed_of mem map1) ≡ halving true pc (framed_of mem map)) where
  from_first : fetching pc (framed_of mem map) ≡ then_on (halved first (framed_of mem map1)) (λ h1 t. interp framed (further_text (halves_of h1) pc h1) t t)
  unfolding text
  from_first = then_half true pc (λ h1. further_text (halves_of h1) pc h1) (framed_of mem map) (framed_of mem map1) first e1

  pub stop_first : (q : Refusal) (k : Stop) → first ≡ Err q → k ≡ refusal_of q → fetched (Err k) (framed_of mem map1) ≡ fetching pc (framed_of mem map)
  stop_first q k f g = stopped mem map1 q k _ g (from_first ∙ rw f)

  module _ (h1 : ℕ) (f1 : first ≡ Ok h1) (n : ℕ) (en : n ≡ halves_of h1) (on : ℕ) (eo : on ≡ past pc 2) (second : rust.Result ℕ Refusal) (map2 : List ℕ)
      (e2 : halved second (framed_of mem map2) ≡ halving (ltb 1 n) on (framed_of mem map1)) where
    from_second : fetching pc (framed_of mem map) ≡ then_on (halved second (framed_of mem map2)) (λ h2 t. interp framed (third_text n (past pc 4) h1 h2) t t)
    from_second =
        from_first
        ∙ rw (f1, ← en, ← eo) (then_half (ltb 1 n) on (third_text n (past pc 4) h1) (framed_of mem map1) (framed_of mem map2) second e2)

    pub stop_second : (q : Refusal) (k : Stop) → second ≡ Err q → k ≡ refusal_of q → fetched (Err k) (framed_of mem map2) ≡ fetching pc (framed_of mem map)
    stop_second q k f g = stopped mem map2 q k _ g (from_second ∙ rw f)

    module _ (h2 : ℕ) (f2 : second ≡ Ok h2) (last : ℕ) (el : last ≡ past pc 4) (third : rust.Result ℕ Refusal) (map3 : List ℕ)
        (e3 : halved third (framed_of mem map3) ≡ halving (ltb 2 n) last (framed_of mem map2)) where
      from_third : fetching pc (framed_of mem map) ≡ then_on (halved third (framed_of mem map3)) (λ h3 t. interp framed (done (record { h1 = h1; h2 = h2; h3 = h3 })) t t)
      from_third =
          from_second
          ∙ rw (f2, ← el) (then_half (ltb 2 n) last (λ h3. done (record { h1 = h1; h2 = h2; h3 = h3 })) (framed_of mem map2) (framed_of mem map3) third e3)

      pub stop_third : (q : Refusal) (k : Stop) → third ≡ Err q → k ≡ refusal_of q → fetched (Err k) (framed_of mem map3) ≡ fetching pc (framed_of mem map)
      stop_third q k f g = stopped mem map3 q k _ g (from_third ∙ rw f)

      pub whole_text : (h3 : ℕ) → third ≡ Ok h3 → fetched (Ok (record { h1 = h1; h2 = h2; h3 = h3 })) (framed_of mem map3) ≡ fetching pc (framed_of mem map)
      unfolding interp
      whole_text h3 f = sym (from_third ∙ rw f)
