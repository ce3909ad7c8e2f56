-- Demand 3, as statements. They cite the machine's run and step, the plain machine and the premise; proofs/DemandThreeHolds proves each.
use Rattle.std.specs.Prelude.{ℕ, ◌<◌, ◌%◌, ◌≡◌, ◌≢◌, List, map, length, get_or}
use Rattle.pages.specs.Word.{Open, Writable, size, real, word_of}
use Rattle.pages.specs.Framed.{Framed, framed_of}
use Rattle.machine.specs.Run.{Result}
use Rattle.machine.specs.Cpu.{Cpu}
use Rattle.machine.specs.Machine.{Given, Outcome, cpu_in, store_in, step_outcome, run_outcome}
use Rattle.demand.specs.Plain.{Plain, bare, plain_step, plain_run}
use Rattle.demand.specs.Premise.{Premise}

-- The two stores have the same page bits, and each open page holds the same bytes in both. Nothing is said of bytes of pages that are
-- not open, nor of memory where no open page lies: the plain machine has none of it.
pub record SamePages (s : Framed) (q : Plain) : Type 0 where
  pub bits : q.bits ≡ map bare s.map
  pub bytes : (p d : ℕ) → Open (word_of s.map p) → d < size (word_of s.map p)
      → get_or s.mem (real (word_of s.map p) d) 0 ≡ q.pages p d

-- "same registers, counter, code, marks, stop, place and count, and each open page holds the same bytes"; the mask too. The marks are
-- page bits.
pub record Agrees (o : Outcome) (r : Result Cpu Plain) : Type 0 where
  pub stop : o.reply.number ≡ r.stop
  pub place : o.reply.place ≡ r.place
  pub count : o.reply.count ≡ r.count
  pub regs : o.regs ≡ r.cpu.regs
  pub pc : o.reply.pc ≡ r.cpu.pc
  pub code : o.reply.code ≡ r.cpu.code
  pub mask : o.reply.mask ≡ r.cpu.mask
  pub pages : SamePages (framed_of o.mem o.map) r.held

-- Byte x of real memory lies in no open, writable page.
abbrev pub Unwritable : List ℕ → ℕ → Type 0
Unwritable map x = (p d : ℕ) → Writable (word_of map p) → d < size (word_of map p) → real (word_of map p) d ≢ x

-- Memory is as long as it was, and of each page's word all below W and G is what it was: U, S, E, M, H, X and frame.
pub record SameLayout (g : Given) (o : Outcome) : Type 0 where
  pub long : length o.mem ≡ length g.mem
  pub words : (p : ℕ) → word_of o.map p % 16384 ≡ word_of g.map p % 16384

-- What demand 3 says of a call from g that handed back o, where `plainly` is the plain machine's answer from the same state over a plain
-- store: its run of the same budget, or its step.
pub record PagesKeep (g : Given) (o : Outcome) (plainly : Plain → Result Cpu Plain) : Type 0 where
  -- The agreement. For every plain store: suppose the premise, and that the plain store has the page bits and page bytes of what was
  -- lent (Plain's `shown` is such a store). Then the call, unless it was turned away with 6, agrees with the plain machine. It leaves out
  -- what a call does where the premise fails, and one that is turned away: that alters nothing (demand 1).
  pub agrees : (q : Plain) → Premise (length g.mem) g.map → SamePages (store_in g) q → o.reply.number ≢ 6 → Agrees o (plainly q)
  -- The last sentence, "with or without that premise, a byte in no open, writable page never changes", turned away or not. The pages are
  -- those of the map at the start; by the layout below they are those at the end too. It says nothing of a byte that does lie in such a
  -- page.
  pub leaves : (x : ℕ) → Unwritable g.map x → get_or o.mem x 0 ≡ get_or g.mem x 0
  -- The open pages, and where their bytes lie, are the same before and after, with or without the premise; so a premise that held still
  -- holds.
  pub layout : SameLayout g o

-- The statements: of every run and of every single step, whatever is lent.
abbrev pub RunsKeepPages : Type 0
RunsKeepPages = (budget : ℕ) (g : Given) → PagesKeep g (run_outcome budget g) (plain_run budget (cpu_in g))

abbrev pub StepsKeepPages : Type 0
StepsKeepPages = (g : Given) → PagesKeep g (step_outcome g) (plain_step (cpu_in g))
