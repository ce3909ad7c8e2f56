-- Document 01's engines to shut out. Whatever meets the promise of a step, or of a run, is none of them: not one that refuses everything,
-- nor one that answers 0 and moves nothing, nor one with a fixed state, whatever its number and place, nor one that does the whole run of
-- some budget in its first step, nor one whose count is wrong anywhere. All but the last are shown on a program of two instructions.
use Prim.Native.Nat.{ℕ, ◌+◌, ◌-◌, ◌≤◌}
use native.Mathlib.Omega.{arith}
use native.Mathlib.Decide.{ℕ_discrete}
use mathlib.Core.Path.{◌≡◌, refl, sym, ◌∙◌, ap, subst}
use mathlib.Core.Logic.{◌≢◌}
use mathlib.Core.Bool.{Bool, true, false}
use mathlib.Core.List.{List, [], ◌∷◌}
use lib.Dec.{leb}
use lib.ListN.{get_or, replicate}
use lib.Seq.{sets}
use Rattle.words.specs.Pick.{pick, both}
use Rattle.pages.specs.Word.{bit_u, bit_s, bit_e, bit_m, bit_h, bits_x, frame, page_of, disp_of, next, base, size, real, word_of, accessed}
use Rattle.pages.specs.Tests as tests
use Rattle.pages.specs.Look.{reach, look_of}
use Rattle.pages.specs.Framed.{Framed, accessed_at, read_byte}
use Rattle.code.specs.Table as code
use Rattle.machine.specs.Prog.{interp}
use Rattle.machine.specs.Run.{Result, run}
use Rattle.machine.specs.Fields.{looks, gets, halfword}
use Rattle.machine.specs.Cpu.{Cpu, ahead, part, address}
use Rattle.machine.specs.Rx.{rx}
use Rattle.machine.specs.Step.{act, step}
use Rattle.machine.specs.Machine.{Given, Outcome, given, proper, turned_away, cpu_in, store_in, outcome_of, ops_for, step_outcome, run_outcome}
use Rattle.demand.specs.DemandOne.{handed}
use Rattle.demand.proofs.RunsInParts.{refused_stays}

unfoldable computes : Unit {0}
unfolding bit_u bit_s bit_e bit_m bit_h bits_x frame page_of disp_of next base size real word_of accessed tests.six_tests tests.tests reach look_of accessed_at read_byte
    code.table code.action_of interp run looks gets halfword ahead part address rx act step proper step_outcome run_outcome
computes = tt

-- LA 1,5 and LA 2,6 in page 10, which is all of a memory of 4,096 bytes; registers, code and mask zero
abbrev two : ℕ → Given
two pc =
    given (sets (replicate 4096 0) 0 (0x41 ∷ 0x10 ∷ 0 ∷ 5 ∷ 0x41 ∷ 0x20 ∷ 0 ∷ 6 ∷ [])) (sets (replicate 512 0) 10 (0x3000 ∷ [])) (replicate 16 0) pc 0 0

-- number, count, counter, registers 1 and 2
abbrev seen : Outcome → List ℕ
seen o = o.reply.number ∷ o.reply.count ∷ o.reply.pc ∷ get_or o.regs 1 0 ∷ get_or o.regs 2 0 ∷ []

one_done : seen (step_outcome (two 0xa000)) ≡ 0 ∷ 1 ∷ 0xa004 ∷ 5 ∷ 0 ∷ []
unfolding computes
one_done = refl

odd_counter : seen (step_outcome (two 0xa001)) ≡ 2 ∷ 0 ∷ 0xa001 ∷ 0 ∷ 0 ∷ []
unfolding computes
odd_counter = refl

-- the third instruction is no operation: a run of three counts two, and so does every longer one
abbrev longer : ℕ → Result Cpu Framed
longer b = run ops_for step b (cpu_in (two 0xa000)) (store_in (two 0xa000))

is_proper : proper (two 0xa000) ≡ true
unfolding computes
is_proper = refl

after_three : ((longer 3).count ≡ 2) × ((longer 3).cpu.pc ≡ 0xa008)
unfolding computes
after_three = (refl, refl)

three_or_more : (more : ℕ) → (longer (3 + more)).cpu.pc ≡ 0xa008
three_or_more more =
    ap (λ (r : Result Cpu Framed). r.cpu.pc) (refused_stays ops_for step 3 more (cpu_in (two 0xa000)) (store_in (two 0xa000)) (omega (arith, after_three.0)))
    ∙ after_three.1

-- the counter after a run of any budget but 1 is not that after one step
none_done : (run_outcome 0 (two 0xa000)).reply.pc ≡ 0xa000
unfolding computes
none_done = refl

both_done : (run_outcome 2 (two 0xa000)).reply.pc ≡ 0xa008
unfolding computes
both_done = refl

module _ (more : ℕ) where
  by_test : (b : Bool) → (pick (both true b) (outcome_of (longer (3 + more))) (turned_away (two 0xa000))).reply.pc ≢ 0xa004
  by_test true e = let z : ◌≡◌ {A = ℕ} 0xa008 0xa004 = sym (three_or_more more) ∙ e in omega arith
  by_test false e = omega (arith, e)

  past_both : (run_outcome (3 + more) (two 0xa000)).reply.pc ≢ 0xa004
  unfolding run_outcome
  past_both = rw is_proper (by_test (leb (3 + more) 65535))

abbrev Other : ℕ → Type 0
Other b = (run_outcome b (two 0xa000)).reply.pc ≢ 0xa004

three_at_least : (b : ℕ) → b ≢ 0 → b ≢ 1 → b ≢ 2 → 3 ≤ b
three_at_least b h k l = omega (arith, h, k, l)

three_and : (b : ℕ) → 3 ≤ b → 3 + (b - 3) ≡ b
three_and b l = omega arith

other_counter : (budget : ℕ) → budget ≢ 1 → Other budget
other_counter budget h = at_none (ℕ_discrete budget 0)
  where
    at_two : budget ≢ 0 → Dec (budget ≡ 2) → Other budget
    at_two n (yes e) = subst Other (sym e) (λ p. let z : ◌≡◌ {A = ℕ} 0xa008 0xa004 = sym both_done ∙ p in omega arith)
    at_two n (no k) = subst Other (three_and budget (three_at_least budget n h k)) (past_both (budget - 3))

    at_none : Dec (budget ≡ 0) → Other budget
    at_none (yes e) = subst Other (sym e) (λ p. let z : ◌≡◌ {A = ℕ} 0xa000 0xa004 = sym none_done ∙ p in omega arith)
    at_none (no k) = at_two k (ℕ_discrete budget 2)

abbrev at : ℕ → List ℕ → ℕ
at k l = get_or l k 0

module _ (engine : Given → Outcome) (promise : (g : Given) → engine g ≡ step_outcome g) where
  here : (g : Given) → seen (engine g) ≡ seen (step_outcome g)
  here g = ap seen (promise g)

  -- the counter after the first instruction
  moved : (engine (two 0xa000)).reply.pc ≡ 0xa004
  moved = ap (at 2) (here (two 0xa000) ∙ one_done)

  pub not_all_refused : ((g : Given) → (engine g).reply.number ≢ 0) → ⊥
  not_all_refused all = all (two 0xa000) (ap (at 0) (here (two 0xa000) ∙ one_done))

  pub not_still : ((g : Given) → (engine g).reply.pc ≡ g.pc) → ⊥
  not_still still = let e : ◌≡◌ {A = ℕ} 0xa000 0xa004 = sym (still (two 0xa000)) ∙ moved in omega arith

  -- one state, whatever was lent; number, place and count may differ
  pub not_fixed : (s : Given) → ((g : Given) → handed (engine g) ≡ s) → ⊥
  not_fixed s fixed =
      let e : ◌≡◌ {A = ℕ} 0xa004 0xa001 =
      sym moved
      ∙ ap (λ (g : Given). g.pc) (fixed (two 0xa000) ∙ sym (fixed (two 0xa001)))
      ∙ ap (at 2) (here (two 0xa001) ∙ odd_counter) in
      omega arith

  -- the state after the whole run of some budget, whichever; a run of 1 is a step
  pub not_the_whole_run : (budget : ℕ) → budget ≢ 1 → ((g : Given) → handed (engine g) ≡ handed (run_outcome budget g)) → ⊥
  not_the_whole_run budget h whole =
      other_counter budget h (sym (ap (λ (g : Given). g.pc) (whole (two 0xa000))) ∙ moved)

module _ (engine : ℕ → Given → Outcome) (promise : (budget : ℕ) (g : Given) → engine budget g ≡ run_outcome budget g) where
  -- a count that is wrong of any run; that the right one is the number of completed steps, and names the state, is demand 1
  pub no_invented_count : (claimed : ℕ → Given → ℕ) (budget : ℕ) (g : Given) → claimed budget g ≢ (run_outcome budget g).reply.count
      → ((b : ℕ) (h : Given) → (engine b h).reply.count ≡ claimed b h) → ⊥
  no_invented_count claimed budget g wrong invented =
      wrong (sym (invented budget g) ∙ ap (λ (o : Outcome). o.reply.count) (promise budget g))
