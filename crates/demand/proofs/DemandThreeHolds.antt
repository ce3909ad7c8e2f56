-- Demand 3's statements, proved: once for a run and a step, from what the two stores' laws say of each.
use Prim.Native.Nat.{ℕ}
use mathlib.Core.Path.{◌≡◌, refl, sym, ap, subst}
use mathlib.Core.Bool.{Bool, true, false}
use lib.Dec.{leb}
use lib.ListN.{length, get_or}
use Rattle.words.specs.Pick.{pick, both}
use Rattle.pages.specs.Framed.{Framed}
use Rattle.machine.specs.Prog.{interp}
use Rattle.machine.specs.Run.{Result, one, run}
use Rattle.machine.specs.Cpu.{Cpu}
use Rattle.machine.specs.Step.{step}
use Rattle.machine.specs.Machine.{Given, proper, turned_away, cpu_in, store_in, outcome_of, ops_for, step_outcome, run_outcome}
use Rattle.demand.specs.Plain.{Plain, plain, plain_step, plain_run, shown}
use Rattle.demand.specs.Premise.{Premise}
use Rattle.demand.specs.DemandThree.{SamePages, Agrees, Unwritable, PagesKeep, RunsKeepPages, StepsKeepPages}
use Rattle.demand.proofs.AlikeStores.{Alike, agree, one_alike, runs_alike}
use Rattle.demand.proofs.FramedAsPlain.{Same, ties, premise_twins}
use Rattle.demand.proofs.KeptByRuns.{Keeps, run_keeps, step_keeps, Laid, layout_kept, byte_kept}

-- the store that a framed store shows has its pages
pub shown_same : (s : Framed) → SamePages s (shown s)
shown_same s = record { bits = refl; bytes = λ p d o l. refl }

-- results alike are an agreement
agreed : (r : Result Cpu Framed) (r' : Result Cpu Plain) → Alike Same r r' → Agrees (outcome_of r) r'
agreed r r' alike =
    record {
      stop = alike.stop;
      place = alike.place;
      count = alike.count;
      regs = ap (λ (c : Cpu). c.regs) alike.cpu;
      pc = ap (λ (c : Cpu). c.pc) alike.cpu;
      code = ap (λ (c : Cpu). c.code) alike.cpu;
      mask = ap (λ (c : Cpu). c.mask) alike.cpu;
      pages = alike.held.pages;
    }

module _ (g : Given) where
  stays : Laid (length g.mem) g.map (store_in g)
  stays = record { long = refl; words = λ p. refl }

  layout : (c : Cpu) → Keeps (ops_for c) (Laid (length g.mem) g.map)
  layout c = layout_kept (length g.mem) g.map

  module _ (x : ℕ) (u : Unwritable g.map x) where
    abbrev Left : Framed → Type 0
    Left s = Laid (length g.mem) g.map s × (get_or s.mem x 0 ≡ get_or g.mem x 0)

    left : (c : Cpu) → Keeps (ops_for c) Left
    left c = byte_kept x (get_or g.mem x 0) (length g.mem) g.map u

  -- what holds of a result that was let in holds of the call, which may also be turned away
  module _
      (r : Result Cpu Framed)
      (plainly : Plain → Result Cpu Plain)
      (alike : (q : Plain) → Same (store_in g) q → Alike Same r (plainly q))
      (stayed : (x : ℕ) → Unwritable g.map x → get_or r.held.mem x 0 ≡ get_or g.mem x 0)
      (laid : Laid (length g.mem) g.map r.held) where
    pages_keep : (b : Bool) → PagesKeep g (pick b (outcome_of r) (turned_away g)) plainly
    pages_keep true =
        record {
          agrees = λ q premise same h. agreed r (plainly q) (alike q (record { premise = premise; pages = same }));
          leaves = stayed;
          layout = record { long = laid.long; words = laid.words };
        }
    pages_keep false =
        record {
          agrees = λ q premise same h. absurd (h refl);
          leaves = λ x u. refl;
          layout = record { long = refl; words = λ p. refl };
        }

pub runs_keep_pages : RunsKeepPages
unfolding run_outcome plain_run
runs_keep_pages budget g =
    pages_keep g
    (run ops_for step budget (cpu_in g) (store_in g))
    (λ q. run (λ c. plain) step budget (cpu_in g) q)
    (λ q h. runs_alike Same ops_for (λ c. plain) (λ c. ties) step budget (cpu_in g) (store_in g) q h)
    (λ x u. (run_keeps ops_for (Left g x u) (left g x u) step (cpu_in g) (store_in g) (stays g, refl) budget).1)
    (run_keeps ops_for (Laid (length g.mem) g.map) (layout g) step (cpu_in g) (store_in g) (stays g) budget)
    (both (proper g) (leb budget 65535))

pub steps_keep_pages : StepsKeepPages
unfolding step_outcome plain_step
steps_keep_pages g =
    pages_keep g
    (one (cpu_in g) (interp (ops_for (cpu_in g)) (step (cpu_in g)) (store_in g) (store_in g)))
    (λ q. one (cpu_in g) (interp plain (step (cpu_in g)) q q))
    (λ q h. one_alike Same (cpu_in g)
    (interp (ops_for (cpu_in g)) (step (cpu_in g)) (store_in g) (store_in g))
    (interp plain (step (cpu_in g)) q q)
    (agree Same ties (step (cpu_in g)) (store_in g) (store_in g) q q h h))
    (λ x u. (step_keeps ops_for (Left g x u) (left g x u) step (cpu_in g) (store_in g) (stays g, refl)).1)
    (step_keeps ops_for (Laid (length g.mem) g.map) (layout g) step (cpu_in g) (store_in g) (stays g))
    (proper g)

-- so the premise, once it holds, holds after every run
pub premise_stays : (budget : ℕ) (g : Given) → Premise (length g.mem) g.map
    → Premise (length (run_outcome budget g).mem) (run_outcome budget g).map
premise_stays budget g h =
    let o = run_outcome budget g in
    let kept = (runs_keep_pages budget g).layout in
    subst (λ (n : ℕ). Premise n o.map) (sym kept.long) (premise_twins (length g.mem) o.map g.map kept.words h)
