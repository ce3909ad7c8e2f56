-- Demand 1, as statements: of whatever was lent, what a step or a run hands back. They cite the machine's own questions, `step_outcome`
-- and `run_outcome`, what a refusal leaves behind, and nothing further down; proofs/DemandOneHolds proves each.
use Rattle.std.specs.Prelude.{ℕ, ◌<◌, ◌≤◌, ◌≡◌, ◌≢◌, ◌⊎◌, true, false, leb}
use Rattle.words.specs.Pick.{both}
use Rattle.machine.specs.Machine.{Given, Outcome, given, outcome, proper, step_outcome, run_outcome}
use Rattle.demand.specs.FetchedFrom.{left_by}

-- The numbers of a refused instruction: 1 to 5, and 8.
abbrev pub Refusal : ℕ → Type 0
Refusal n = ((1 ≤ n) × (n ≤ 5)) ⊎ (n ≡ 8)

-- What was handed back, as it would be lent to the next call: memory, map, registers, counter, code, mask. So `handed o ≡ g` says that
-- nothing at all was altered.
abbrev pub handed : Outcome → Given
handed o = given o.mem o.map o.regs o.reply.pc o.reply.code o.reply.mask

-- What a run of o's count of steps hands back: the machine before the instruction that o was refused at, if it was.
abbrev pub before : Given → Outcome → Given
before g o = handed (run_outcome o.reply.count g)

-- A refused step with o's number and place that hands back what o does.
abbrev pub refused_at : Outcome → Outcome
refused_at o =
    outcome
    (record {
      number = o.reply.number;
      place = o.reply.place;
      count = 0;
      pc = o.reply.pc;
      code = o.reply.code;
      mask = o.reply.mask;
    })
    o.mem
    o.map
    o.regs

-- A single step from g that handed back o.
pub record CleanStep (g : Given) (o : Outcome) : Type 0 where
  -- completed, refused, or turned away: no other number comes
  pub number : (o.reply.number ≡ 0) ⊎ Refusal o.reply.number ⊎ (o.reply.number ≡ 6)
  -- 6 comes exactly where a list has the wrong size, or counter, code or mask is out of range
  pub six : o.reply.number ≡ 6 → proper g ≡ false
  pub always_six : proper g ≡ false → o.reply.number ≡ 6
  -- turned away, it has altered nothing
  pub away : o.reply.number ≡ 6 → (handed o ≡ g) × (o.reply.place ≡ 0)
  -- refused, it leaves all as it was, but for G on the pages from which a halfword was fetched
  pub trace : Refusal o.reply.number → handed o ≡ left_by g
  -- only what completed is counted; place 0 with 0 and with 6
  pub completed : o.reply.number ≡ 0 → (o.reply.count ≡ 1) × (o.reply.place ≡ 0)
  pub uncounted : o.reply.number ≢ 0 → o.reply.count ≡ 0
  -- what was proper stays so: what is handed back can be lent again
  pub again : proper g ≡ true → proper (handed o) ≡ true

-- A run of this budget from g that handed back o.
pub record CleanRun (budget : ℕ) (g : Given) (o : Outcome) : Type 0 where
  -- refused, turned away, or budget spent: no other number comes
  pub number : Refusal o.reply.number ⊎ (o.reply.number ≡ 6) ⊎ (o.reply.number ≡ 7)
  -- 6 comes exactly where a list has the wrong size, or counter, code, mask or budget is out of range; then nothing is altered
  pub six : o.reply.number ≡ 6 → both (proper g) (leb budget 65535) ≡ false
  pub always_six : both (proper g) (leb budget 65535) ≡ false → o.reply.number ≡ 6
  pub away : o.reply.number ≡ 6 → (handed o ≡ g) × (o.reply.count ≡ 0) × (o.reply.place ≡ 0)
  -- the count is never above the budget; 7 comes exactly where the budget is spent
  pub most : o.reply.count ≤ budget
  pub spent : o.reply.number ≡ 7 → (o.reply.count ≡ budget) × (o.reply.place ≡ 0)
  pub always_spent : o.reply.number ≢ 6 → o.reply.count ≡ budget → o.reply.number ≡ 7
  -- the run of exactly `count` steps completes them all, and unless an instruction was refused this hands back what that does
  pub counted : (run_outcome o.reply.count g).reply.count ≡ o.reply.count
  pub named : (o.reply.number ≡ 6) ⊎ (o.reply.number ≡ 7) → handed o ≡ before g o
  -- refused: budget was left, and the one step more is refused with this number at this place and hands back what this does
  pub refused : Refusal o.reply.number → (o.reply.count < budget) × (step_outcome (before g o) ≡ refused_at o)
  -- refused, it leaves all as it was before that instruction, but for G on the pages from which a halfword of it was fetched
  pub trace : Refusal o.reply.number → handed o ≡ left_by (before g o)
  -- tried once more, from what is handed back, it is refused alike, and nothing further is altered
  pub still : Refusal o.reply.number → step_outcome (handed o) ≡ refused_at o
  -- what was proper stays so
  pub again : proper g ≡ true → proper (handed o) ≡ true

-- The statements: every step and every run is clean, whatever is lent.
abbrev pub StepsAreClean : Type 0
StepsAreClean = (g : Given) → CleanStep g (step_outcome g)

abbrev pub RunsAreClean : Type 0
RunsAreClean = (budget : ℕ) (g : Given) → CleanRun budget g (run_outcome budget g)
