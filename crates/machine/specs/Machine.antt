-- The two public questions: what a single step answers, and what a run answers, of any lists and numbers whatever.
use Rattle.std.specs.Prelude.{ℕ, ◌%◌, Bool, List, eqb, leb, ltb, length}
use Rattle.words.specs.Pick.{pick, both}
use Rattle.pages.specs.Framed.{Framed, framed_of}
use Rattle.machine.specs.declared.Reply.{Reply}
use Rattle.machine.specs.Prog.{Ops, interp}
use Rattle.machine.specs.Run.{Result, one, run}
use Rattle.machine.specs.Store.{framed}
use Rattle.machine.specs.Cpu.{Cpu}
use Rattle.machine.specs.Step.{step}

-- what the caller lends and says
pub record Given : Type 0 where
  pub mem : List ℕ
  pub map : List ℕ
  pub regs : List ℕ
  pub pc : ℕ
  pub code : ℕ
  pub mask : ℕ

-- what it has afterwards: number, place, count, counter, code and mask in the reply, and the three lists
pub record Outcome : Type 0 where
  pub reply : Reply
  pub mem : List ℕ
  pub map : List ℕ
  pub regs : List ℕ

-- the two, from their parts
abbrev pub given : List ℕ → List ℕ → List ℕ → ℕ → ℕ → ℕ → Given
given mem map regs pc code mask =
    record { mem = mem; map = map; regs = regs; pc = pc; code = code; mask = mask }

abbrev pub outcome : Reply → List ℕ → List ℕ → List ℕ → Outcome
outcome r mem map regs = record { reply = r; mem = mem; map = map; regs = regs }

-- sixteen registers, 512 page words, memory of 4,096 to 262,144 bytes in whole pages; counter, code and mask in range
unfoldable pub proper : Given → Bool
proper g =
    both (eqb (length g.regs) 16)
    (both (eqb (length g.map) 512)
    (both (eqb (length g.mem % 4096) 0)
    (both (leb 4096 (length g.mem))
    (both (leb (length g.mem) 262144)
    (both (ltb g.pc 16777216) (both (ltb g.code 4) (ltb g.mask 16)))))))

-- number 6: place and count 0, nothing altered
abbrev pub turned_away : Given → Outcome
turned_away g =
    record {
      reply = record { number = 6; place = 0; count = 0; pc = g.pc; code = g.code; mask = g.mask };
      mem = g.mem;
      map = g.map;
      regs = g.regs;
    }

abbrev pub cpu_in : Given → Cpu
cpu_in g = record { regs = g.regs; pc = g.pc; code = g.code; mask = g.mask }

abbrev pub store_in : Given → Framed
store_in g = framed_of g.mem g.map

abbrev pub outcome_of : Result Cpu Framed → Outcome
outcome_of r =
    record {
      reply =
          record {
            number = r.stop;
            place = r.place;
            count = r.count;
            pc = r.cpu.pc;
            code = r.cpu.code;
            mask = r.cpu.mask;
          };
      mem = r.held.mem;
      map = r.held.map;
      regs = r.cpu.regs;
    }

-- the base runs nonprivileged: one store for every state
abbrev pub ops_for : Cpu → Ops Framed
ops_for c = framed

unfoldable pub step_outcome : Given → Outcome
step_outcome g =
    pick (proper g) (outcome_of (one (cpu_in g) (interp (ops_for (cpu_in g)) (step (cpu_in g)) (store_in g) (store_in g)))) (turned_away g)

unfoldable pub run_outcome : ℕ → Given → Outcome
run_outcome budget g =
    pick (both (proper g) (leb budget 65535)) (outcome_of (run ops_for step budget (cpu_in g) (store_in g))) (turned_away g)
