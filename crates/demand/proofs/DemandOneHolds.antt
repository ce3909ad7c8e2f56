-- Demand 1's statements, proved.
use Prim.Native.Nat.{ℕ, zero, suc, ◌%◌, ◌<◌, ◌≤◌}
use native.Mathlib.Omega.{arith}
use mathlib.Core.Path.{◌≡◌, refl, sym, ◌∙◌, ap, subst}
use mathlib.Core.Logic.{◌≢◌, ◌⊎◌, inl, inr}
use mathlib.Core.Bool.{Bool, true, false}
use borrow.Author.Tests.{eqb-true, leb-true, ltb-true, eq-eqb, le-leb, lt-ltb}
use mathlib.Core.List.{List}
use lib.Dec.{eqb, leb}
use lib.ListN.{length, length-set}
use Rattle.words.specs.Pick.{pick, both}
use Rattle.words.proofs.Tests.{both_true}
use Rattle.pages.specs.Word.{page_of}
use Rattle.pages.specs.Framed.{Framed, framed_of, accessed_at, written_at}
use Rattle.machine.specs.Prog.{Answer, finished, refused, interp}
use Rattle.machine.specs.Run.{Result, one, one_more, after_step, run}
use Rattle.machine.specs.Store.{framed}
use Rattle.machine.specs.Cpu.{Cpu}
use Rattle.machine.specs.Step.{step}
use Rattle.machine.proofs.MarksLast.{on_store}
use Rattle.machine.specs.Machine.{Given, Outcome, proper, turned_away, cpu_in, store_in, outcome_of, ops_for, step_outcome, run_outcome}
use Rattle.demand.specs.FetchedFrom.{fetched_in, left_by}
use Rattle.demand.specs.DemandOne.{Refusal, handed, before, refused_at, CleanStep, CleanRun, StepsAreClean, RunsAreClean}
use Rattle.demand.proofs.ActionEnds.{Sound, Came}
use Rattle.demand.proofs.StepLeaves.{marked, step_leaves}
use Rattle.demand.proofs.MarkedPages.{marked_again, late_all}
use Rattle.demand.proofs.KeptByRuns.{Keeps, run_keeps, step_keeps, writes_keep}
use Rattle.demand.proofs.RunsInParts.{count_most}

-- what number 6 asks of the three lists and the state, one by one
true_both : (t u : Bool) → t ≡ true → u ≡ true → both t u ≡ true
true_both t u e f = rw e f

-- the lengths of memory and map
pub record Long (m n : ℕ) (s : Framed) : Type 0 where
  pub mem : length s.mem ≡ m
  pub map : length s.map ≡ n

long_kept : (m n : ℕ) → Keeps framed (Long m n)
unfolding accessed_at written_at
long_kept m n =
    record {
      noted = λ s acc a h. record { mem = h.mem; map = length-set s.map (page_of a) _ ∙ h.map };
      wrote =
          λ s a v h. writes_keep (Long m n) s a v h
          (λ e. record { mem = length-set s.mem _ v ∙ h.mem; map = length-set s.map (page_of a) _ ∙ h.map });
    }

-- a memory of whole pages, 4,096 to 262,144 bytes
abbrev fits : ℕ → Bool
fits m = both (eqb (m % 4096) 0) (both (leb 4096 m) (leb m 262144))

module _ (g : Given) where
  proper_parts : proper g ≡ true → Sound (cpu_in g) × (length g.map ≡ 512) × (fits (length g.mem) ≡ true)
  unfolding proper
  proper_parts p =
      let a = both_true _ _ p in
      let b = both_true _ _ a.1 in
      let c = both_true (eqb (length g.mem % 4096) 0) _ b.1 in
      let d = both_true (leb 4096 (length g.mem)) _ c.1 in
      let e = both_true (leb (length g.mem) 262144) _ d.1 in
      let f = both_true _ _ e.1 in
      let k = both_true _ _ f.1 in (
        record {
          regs = eqb-true _ _ a.0;
          pc = ltb-true _ _ f.0;
          code = ltb-true _ _ k.0;
          mask = ltb-true _ _ k.1;
        },
        eqb-true _ _ b.0,
        true_both _ _ c.0 (true_both _ _ d.0 e.0),
      )

  parts_proper : Sound (cpu_in g) → length g.map ≡ 512 → fits (length g.mem) ≡ true → proper g ≡ true
  unfolding proper
  parts_proper s m f =
      let a = both_true (eqb (length g.mem % 4096) 0) (both (leb 4096 (length g.mem)) (leb (length g.mem) 262144)) f in
      let b = both_true (leb 4096 (length g.mem)) (leb (length g.mem) 262144) a.1 in
      true_both _ _ (eq-eqb _ _ s.regs)
      (true_both _ _ (eq-eqb _ _ m)
      (true_both _ _ a.0
      (true_both _ _ b.0
      (true_both _ _ b.1
      (true_both _ _ (lt-ltb _ _ s.pc) (true_both _ _ (lt-ltb _ _ s.code) (lt-ltb _ _ s.mask)))))))

-- a memory of whole pages has an even number of bytes
abbrev Even : Framed → Type 0
Even s = length s.mem % 2 ≡ 0

even_pages : (m : ℕ) → fits m ≡ true → m % 2 ≡ 0
even_pages m h = omega (arith, eqb-true (m % 4096) 0 (both_true (eqb (m % 4096) 0) (both (leb 4096 m) (leb m 262144)) h).0)

-- no refusal has the number of another end
refusal_apart : (n : ℕ) → Refusal n → (n ≢ 0) × (n ≢ 6) × (n ≢ 7)
refusal_apart n (inl h) = (λ e. omega (arith, h.0, e), λ e. omega (arith, h.1, e), λ e. omega (arith, h.1, e))
refusal_apart n (inr h) = (λ e. omega (arith, h, e), λ e. omega (arith, h, e), λ e. omega (arith, h, e))

-- what was proper is proper still: a state in range, and lists as long as they were
still_proper : (g : Given) (r : Result Cpu Framed) → proper g ≡ true → Sound r.cpu → Long (length g.mem) (length g.map) r.held
    → proper (handed (outcome_of r)) ≡ true
still_proper g r p s l =
    let q = proper_parts g p in
    parts_proper (handed (outcome_of r)) s (l.map ∙ q.1) (subst (λ (m : ℕ). fits m ≡ true) (sym l.mem) q.2)

-- a single step that was let in
abbrev stepped : Given → Answer Cpu Framed → Outcome
stepped g x = outcome_of (one (cpu_in g) x)

clean_step : (g : Given) (x : Answer Cpu Framed) → proper g ≡ true → Came Sound (marked (store_in g) (fetched_in (store_in g) (cpu_in g))) x
    → Long (length g.mem) (length g.map) (one (cpu_in g) x).held → Sound (cpu_in g) → CleanStep g (stepped g x)
unfolding left_by
clean_step g (finished d t) p h l s =
    record {
      number = inl refl;
      six = λ e. absurd (omega (arith, e));
      always_six = λ e. absurd (let z : ◌≡◌ {A = ℕ} 0 1 = cc in omega arith);
      away = λ e. absurd (omega (arith, e));
      trace = λ e. absurd ((refusal_apart 0 e).0 refl);
      completed = λ e. (refl, refl);
      uncounted = λ e. absurd (e refl);
      again = λ e. still_proper g (one (cpu_in g) (finished d t)) p h l;
    }
clean_step g (refused n a t) p h l s =
    record {
      number = inr (inl h.0);
      six = λ e. absurd ((refusal_apart n h.0).1 e);
      always_six = λ e. absurd (let z : ◌≡◌ {A = ℕ} 0 1 = cc in omega arith);
      away = λ e. absurd ((refusal_apart n h.0).1 e);
      trace = λ e. ap (λ (u : Framed). handed (stepped g (refused n a u))) h.1;
      completed = λ e. absurd ((refusal_apart n h.0).0 e);
      uncounted = λ e. refl;
      again = λ e. still_proper g (one (cpu_in g) (refused n a t)) p s l;
    }

away_step : (g : Given) → proper g ≡ false → CleanStep g (turned_away g)
away_step g p =
    record {
      number = inr (inr refl);
      six = λ e. p;
      always_six = λ e. refl;
      away = λ e. (refl, refl);
      trace = λ e. absurd ((refusal_apart 6 e).1 refl);
      completed = λ e. absurd (omega (arith, e));
      uncounted = λ e. refl;
      again = λ e. e;
    }

pub steps_are_clean : StepsAreClean
unfolding step_outcome
steps_are_clean g = go (proper g) refl
  where
    x : Answer Cpu Framed
    x = interp framed (step (cpu_in g)) (store_in g) (store_in g)

    go : (b : Bool) → proper g ≡ b → CleanStep g (pick b (stepped g x) (turned_away g))
    go true p =
        let s = (proper_parts g p).0 in
        clean_step g x p (step_leaves (cpu_in g) (store_in g) s (even_pages (length g.mem) (proper_parts g p).2))
        (step_keeps ops_for (Long (length g.mem) (length g.map)) (λ c. long_kept (length g.mem) (length g.map)) step (cpu_in g) (store_in g) (record { mem = refl; map = refl }))
        s
    go false p = away_step g p

-- how a run ended, s being the store after the steps that it completed: the budget spent, or budget left and the next step refused
pub data Ended (b : ℕ) (s : Framed) (r : Result Cpu Framed) : Type 0 where
  spent : r.stop ≡ 7 → r.place ≡ 0 → r.count ≡ b → r.held ≡ s → Ended b s r
  stopped : r.count < b → Refusal r.stop → interp framed (step r.cpu) s s ≡ refused r.stop r.place r.held → Ended b s r

-- the result of the run of just those steps
abbrev at_count : Result Cpu Framed → Framed → Result Cpu Framed
at_count r s = record { stop = 7; place = 0; count = r.count; cpu = r.cpu; held = s }

pub record Told (b : ℕ) (c : Cpu) (s : Framed) (r : Result Cpu Framed) : Type 0 where
  pub store : Framed
  pub ended : Ended b store r
  pub sound : Sound r.cpu
  pub named : run ops_for step r.count c s ≡ at_count r store

one_more_lem : (b : ℕ) (s : Framed) (r : Result Cpu Framed) → Ended b s r → Ended (suc b) s (one_more r)
one_more_lem b s r (spent e f l k) = spent e f (ap suc l) k
one_more_lem b s r (stopped l n e) = stopped (omega (arith, l)) n e

told_after : (b : ℕ) (c : Cpu) (s kept : Framed) (x : Answer Cpu Framed) → interp framed (step c) s s ≡ x → Sound c → Came Sound kept x
    → Even (one c x).held
    → ((d : Cpu) (t : Framed) → Sound d → Even t → Told b d t (run ops_for step b d t))
    → Told (suc b) c s (after_step c x (λ d t. run ops_for step b d t))
unfolding run
told_after b c s kept (finished d t) e h k v rest =
    let r = run ops_for step b d t in
    let q = rest d t k v in
    record {
      store = q.store;
      ended = one_more_lem b q.store r q.ended;
      sound = q.sound;
      named =
          ap (λ (x : Answer Cpu Framed). after_step c x (λ d' t'. run ops_for step r.count d' t')) e
          ∙ ap one_more q.named;
    }
told_after b c s kept (refused n a t) e h k v rest =
    record { store = s; ended = stopped (omega arith) k.0 e; sound = h; named = refl }

pub run_told : (b : ℕ) (c : Cpu) (s : Framed) → Sound c → Even s → Told b c s (run ops_for step b c s)
unfolding run
run_told zero c s h v = record { store = s; ended = spent refl refl refl refl; sound = h; named = refl }
run_told (suc b) c s h v =
    told_after b c s (marked s (fetched_in s c)) (interp framed (step c) s s) refl h (step_leaves c s h v)
    (ap (λ (m : ℕ). m % 2) long.mem ∙ v)
    (λ d t k w. run_told b d t k w)
  where
    long : Long (length s.mem) (length s.map) (one c (interp framed (step c) s s)).held
    long =
        step_keeps ops_for (Long (length s.mem) (length s.map)) (λ d. long_kept (length s.mem) (length s.map)) step c s
        (record { mem = refl; map = refl })

-- what each of the two ways says of the number
module _ (b : ℕ) (s : Framed) (r : Result Cpu Framed) where
  number_of : Ended b s r → Refusal r.stop ⊎ (r.stop ≡ 6) ⊎ (r.stop ≡ 7)
  number_of (spent e f k h) = inr (inr e)
  number_of (stopped k n e) = inl n

  not_six : Ended b s r → r.stop ≢ 6
  not_six (spent e f k h) z = omega (arith, e, z)
  not_six (stopped k n e) z = (refusal_apart r.stop n).1 z

  all_spent : Ended b s r → r.stop ≡ 7 → (r.count ≡ b) × (r.place ≡ 0) × (r.held ≡ s)
  all_spent (spent e f k h) z = (k, f, h)
  all_spent (stopped k n e) z = absurd ((refusal_apart r.stop n).2 z)

  just_spent : Ended b s r → r.count ≡ b → r.stop ≡ 7
  just_spent (spent e f k h) z = e
  just_spent (stopped k n e) z = absurd (omega (arith, k, z))

  some_left : Ended b s r → Refusal r.stop
      → (r.count < b) × (interp framed (step r.cpu) s s ≡ refused r.stop r.place r.held)
  some_left (spent e f k h) z = absurd ((refusal_apart r.stop z).2 e)
  some_left (stopped k n e) z = (k, e)

true_false : (b : Bool) → b ≡ true → b ≡ false → ⊥
true_false b e f = let z : ◌≡◌ {A = ℕ} 0 1 = cc in omega arith

-- a step that was refused, tried again from what it left: refused alike, and nothing more is marked
left_again : (c : Cpu) (s : Framed) (n a : ℕ) (t : Framed) → interp framed (step c) s s ≡ refused n a t → t ≡ marked s (fetched_in s c)
    → interp framed (step c) t t ≡ refused n a t
left_again c s n a t e k =
    ap (λ (u : Framed). interp framed (step c) u u) k
    ∙ late_all (fetched_in s c) (step c) s s
    ∙ ap (on_store (λ (u : Framed). marked u (fetched_in s c))) e
    ∙ ap (λ (u : Framed). refused n a (marked u (fetched_in s c))) k
    ∙ ap (λ (m : List ℕ). refused n a (framed_of s.mem m)) (marked_again s.map (fetched_in s c))
    ∙ ap (refused n a) (sym k)

-- a run that was let in
module _ (budget : ℕ) (g : Given) (p : proper g ≡ true) (l : budget ≤ 65535) where
  abbrev ran : Result Cpu Framed
  ran = run ops_for step budget (cpu_in g) (store_in g)

  told : Told budget (cpu_in g) (store_in g) ran
  told = run_told budget (cpu_in g) (store_in g) (proper_parts g p).0 (even_pages (length g.mem) (proper_parts g p).2)

  -- so is the run of any smaller budget
  let_in : (b : ℕ) → b ≤ budget → run_outcome b g ≡ outcome_of (run ops_for step b (cpu_in g) (store_in g))
  unfolding run_outcome
  let_in b h = rw (p, le-leb b 65535 (omega (arith, l, h)))

  entered : both (proper g) (leb budget 65535) ≡ true
  entered = true_both (proper g) (leb budget 65535) p (le-leb budget 65535 l)

  most : ran.count ≤ budget
  most = count_most ops_for step budget (cpu_in g) (store_in g)

  at_count_lem : run_outcome ran.count g ≡ outcome_of (at_count ran told.store)
  at_count_lem = let_in ran.count most ∙ ap outcome_of told.named

  long : (b : ℕ) → Long (length g.mem) (length g.map) (run ops_for step b (cpu_in g) (store_in g)).held
  long b =
      run_keeps ops_for (Long (length g.mem) (length g.map)) (λ c. long_kept (length g.mem) (length g.map)) step (cpu_in g) (store_in g)
      (record { mem = refl; map = refl })
      b

  proper_still : proper (handed (outcome_of ran)) ≡ true
  proper_still = still_proper g ran p told.sound (long budget)

  -- before the instruction that was refused
  long_before : Long (length g.mem) (length g.map) told.store
  long_before =
      subst (λ (r : Result Cpu Framed). Long (length g.mem) (length g.map) r.held) told.named (long ran.count)

  proper_before : proper (handed (outcome_of (at_count ran told.store))) ≡ true
  proper_before = still_proper g (at_count ran told.store) p told.sound long_before

  -- a step from what was handed back so, by what it comes to
  next_step : (s : Framed) → proper (handed (outcome_of (at_count ran s))) ≡ true
      → interp framed (step ran.cpu) s s ≡ refused ran.stop ran.place ran.held
      → step_outcome (handed (outcome_of (at_count ran s))) ≡ refused_at (outcome_of ran)
  unfolding step_outcome
  next_step s q e = rw q (ap (λ (x : Answer Cpu Framed). outcome_of (one ran.cpu x)) e)

  -- what the refused instruction left
  module _ (e : interp framed (step ran.cpu) told.store told.store ≡ refused ran.stop ran.place ran.held) where
    left : ran.held ≡ marked told.store (fetched_in told.store ran.cpu)
    left =
        (subst (Came Sound (marked told.store (fetched_in told.store ran.cpu))) e
        (step_leaves ran.cpu told.store told.sound
        (ap (λ (m : ℕ). m % 2) long_before.mem ∙ even_pages (length g.mem) (proper_parts g p).2))
        ).1

    left_handed : handed (outcome_of ran) ≡ left_by (handed (outcome_of (at_count ran told.store)))
    unfolding left_by
    left_handed = ap (λ (u : Framed). handed (outcome_of (at_count ran u))) left

    again_refused : step_outcome (handed (outcome_of ran)) ≡ refused_at (outcome_of ran)
    again_refused = next_step ran.held proper_still (left_again ran.cpu told.store ran.stop ran.place ran.held e left)

  clean_run : CleanRun budget g (outcome_of ran)
  clean_run =
      let end = told.ended in
      let s = told.store in
      record {
        number = number_of budget s ran end;
        six = λ e. absurd (not_six budget s ran end e);
        always_six = λ e. absurd (true_false (both (proper g) (leb budget 65535)) entered e);
        away = λ e. absurd (not_six budget s ran end e);
        most = most;
        spent = λ e. ((all_spent budget s ran end e).0, (all_spent budget s ran end e).1);
        always_spent = λ n. just_spent budget s ran end;
        counted = ap (λ (o : Outcome). o.reply.count) at_count_lem;
        named = λ e. spent_named e;
        refused = λ e. ((some_left budget s ran end e).0, rw at_count_lem (next_step s proper_before (some_left budget s ran end e).1));
        trace = λ e. rw at_count_lem (left_handed (some_left budget s ran end e).1);
        still = λ e. again_refused (some_left budget s ran end e).1;
        again = λ e. proper_still;
      }
    where
      spent_named : (ran.stop ≡ 6) ⊎ (ran.stop ≡ 7) → handed (outcome_of ran) ≡ before g (outcome_of ran)
      spent_named (inl e) = absurd (not_six budget told.store ran told.ended e)
      spent_named (inr e) =
          ap (λ (u : Framed). handed (outcome_of (at_count ran u))) (all_spent budget told.store ran told.ended e).2
          ∙ ap handed (sym at_count_lem)

-- a run that was turned away hands back what it was lent, as does a run of budget 0
handed_none : (g : Given) → handed (run_outcome 0 g) ≡ g
unfolding run_outcome run
handed_none g = go (proper g)
  where
    go : (b : Bool) → handed (pick (both b (leb 0 65535)) (outcome_of (run ops_for step 0 (cpu_in g) (store_in g))) (turned_away g)) ≡ g
    go true = refl
    go false = refl

counted_none : (g : Given) → (run_outcome 0 g).reply.count ≡ 0
unfolding run_outcome run
counted_none g = go (proper g)
  where
    go : (b : Bool)
        → (pick (both b (leb 0 65535)) (outcome_of (run ops_for step 0 (cpu_in g) (store_in g))) (turned_away g)).reply.count ≡ 0
    go true = refl
    go false = refl

away_run : (budget : ℕ) (g : Given) → both (proper g) (leb budget 65535) ≡ false → CleanRun budget g (turned_away g)
away_run budget g h =
    record {
      number = inr (inl refl);
      six = λ e. h;
      always_six = λ e. refl;
      away = λ e. (refl, refl, refl);
      most = omega arith;
      spent = λ e. absurd (omega (arith, e));
      always_spent = λ n. absurd (n refl);
      counted = counted_none g;
      named = λ e. sym (handed_none g);
      refused = λ e. absurd ((refusal_apart 6 e).1 refl);
      trace = λ e. absurd ((refusal_apart 6 e).1 refl);
      still = λ e. absurd ((refusal_apart 6 e).1 refl);
      again = λ e. e;
    }

pub runs_are_clean : RunsAreClean
unfolding run_outcome
runs_are_clean budget g = go (both (proper g) (leb budget 65535)) refl
  where
    go : (b : Bool) → both (proper g) (leb budget 65535) ≡ b
        → CleanRun budget g (pick b (outcome_of (run ops_for step budget (cpu_in g) (store_in g))) (turned_away g))
    go true h =
        let t = both_true (proper g) (leb budget 65535) h in
        clean_run budget g t.0 (leb-true budget 65535 t.1)
    go false h = away_run budget g h
