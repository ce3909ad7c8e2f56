-- Slips in demand 3: a plain machine that finds pages by part of their number, or leaves marks out, also after a refusal, does not agree with
-- the machine, though the premise holds.
use Rattle.std.specs.Prelude.{ℕ, ◌+◌, ◌*◌, ◌%◌, List, [], ◌∷◌, eqb, get_or, set, replicate}
use Prim.Native.String.{String}
use Rattle.std.proofs.lemmas.List.Edits.{sets}
use Rattle.words.specs.Pick.{pick}
use Rattle.pages.specs.Word.{page_of, disp_of, word_of}
use Rattle.machine.specs.Prog.{Ops}
use Rattle.machine.specs.Run.{Result, one, run}
use Rattle.machine.specs.Cpu.{Cpu}
use Rattle.machine.specs.Step.{step}
use Rattle.machine.specs.Machine.{Given, Outcome, given, cpu_in, store_in, step_outcome, run_outcome}
use Rattle.demand.specs.Plain.{Plain, plain_of, bare, look_plain, note_plain, stored, read_plain, write_plain, plain, plain_run, shown}
use Rattle.slips.specs.Row.{Row, row}
use Rattle.slips.specs.Seen as machines

-- the definitions that are computed here
unfoldable pub computes : Unit {0}
unfolding machines.computes bare look_plain note_plain stored read_plain write_plain plain_run
computes = tt

-- a plain store that takes another page for the one that is asked for
abbrev taking : (List ℕ → ℕ → ℕ) → Ops Plain
taking other =
    record {
      looked = λ q acc a. look_plain q acc (at q a);
      noted = λ q acc a. note_plain q (at q a);
      read = λ q a. read_plain q (at q a);
      wrote = λ q a v. write_plain q (at q a) v;
    }
  where
    at : Plain → ℕ → ℕ
    at q a = other q.bits (page_of a) * 4096 + disp_of a

-- found as in a text: where there is no such page, the one whose number ends so, 110 for 10
abbrev by_ending : List ℕ → ℕ → ℕ
by_ending bits p = pick (eqb (word_of bits p) 0) (p + 100) p

-- found by six of the nine bits
abbrev by_six_bits : List ℕ → ℕ → ℕ
by_six_bits bits p = p % 64

-- a plain store that notes no G
abbrev without_g : Ops Plain
without_g = record { looked = plain.looked; noted = λ q acc a. q; read = plain.read; wrote = plain.wrote }

-- a plain store that notes no W
abbrev without_w : Ops Plain
without_w =
    record {
      looked = plain.looked;
      noted = plain.noted;
      read = plain.read;
      wrote = λ q a v. plain_of q.bits (write_plain q a v).pages;
    }

-- a plain step whose refusals keep no mark
abbrev keeping_none : Cpu → Plain → Result Cpu Plain
keeping_none c q = one c (machines.interp_by plain (λ acc a kept. kept) machines.as_kept (step c) q q)

-- number, place, count, counter, code; register 1; the bits of pages 10 and 11
abbrev seen : Outcome → List ℕ
seen o =
    o.reply.number
    ∷ o.reply.place
    ∷ o.reply.count
    ∷ o.reply.pc
    ∷ o.reply.code
    ∷ get_or o.regs 1 0
    ∷ bare (get_or o.map 10 0)
    ∷ bare (get_or o.map 11 0)
    ∷ []

abbrev seen_plain : Result Cpu Plain → List ℕ
seen_plain r =
    r.stop
    ∷ r.place
    ∷ r.count
    ∷ r.cpu.pc
    ∷ r.cpu.code
    ∷ get_or r.cpu.regs 1 0
    ∷ get_or r.held.bits 10 0
    ∷ get_or r.held.bits 11 0
    ∷ []

-- the run, and beside it a slipped plain run from the same start
abbrev plains : String → Ops Plain → ℕ → Given → ℕ → ℕ → Row
plains slip slipped budget g one other =
    row slip (seen (run_outcome budget g)) (seen_plain (run (λ c. slipped) step budget (cpu_in g) (shown (store_in g)))) one other

-- the same of a single step
abbrev refuses : String → (Cpu → Plain → Result Cpu Plain) → Given → ℕ → ℕ → Row
refuses slip slipped g one other = row slip (seen (step_outcome g)) (seen_plain (slipped (cpu_in g) (shown (store_in g)))) one other

-- this program in the one frame of memory, this map, this counter; registers 2 and 3 with the addresses of pages 11 and 12
abbrev pub loaded : List ℕ → List ℕ → ℕ → Given
loaded program map pc = given (sets (replicate 4096 0) 0 program) map (sets (replicate 16 0) 2 (0xb000 ∷ 0xc000 ∷ [])) pc 0 0

abbrev pub no_pages : List ℕ
no_pages = replicate 512 0

-- LA 1,5
abbrev load_five : List ℕ
load_five = 0x41 ∷ 0x10 ∷ 0 ∷ 5 ∷ []

-- one open page, this one, on the frame
abbrev pub lone : ℕ → List ℕ
lone p = set no_pages p 0x3000

abbrev pub slips : List Row
slips =
    plains "plain machine, page 10 found as 110" (taking by_ending) 1 (loaded load_five (lone 110) 0xa000) 3 7
    ∷ plains "plain machine, 9 bits of the page's number cut to 6" (taking by_six_bits) 1 (loaded load_five (lone 10) 0x4a000) 3 7
    ∷ plains "plain machine without G" without_g 1 (loaded load_five (lone 10) 0xa000) 0x7000 0x3000
    -- MVI 8(2),7
    ∷ plains "plain machine without W" without_w 1 (loaded (0x92 ∷ 7 ∷ 0x20 ∷ 8 ∷ []) (lone 11) 0xb000) 0xf000 0x7000
    -- no operation of the set
    ∷ refuses "plain machine that keeps no G after a refusal" keeping_none (loaded [] (lone 10) 0xa000) 0x7000 0x3000
    ∷ []
