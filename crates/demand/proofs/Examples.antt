-- Worked examples, by computation: the run beside the plain machine's, in a memory of 8,192 bytes.
use Prim.Native.Nat.{ℕ}
use native.Mathlib.Omega.{arith}
use mathlib.Core.Path.{◌≡◌, refl}
use mathlib.Core.List.{List, [], ◌∷◌}
use lib.ListN.{get_or, set, replicate}
use lib.Seq.{sets}
use Rattle.pages.specs.Word.{bit_u, bit_s, bit_e, bit_m, bit_h, bits_x, frame, base, size, real, page_of, disp_of, next, word_of, Open, accessed, written}
use Rattle.pages.specs.Tests.{tests, six_tests}
use Rattle.pages.specs.Look.{look_of}
use Rattle.pages.specs.Framed.{accessed_at, written_at, read_byte, write_byte}
use Rattle.code.specs.Table.{action_of}
use Rattle.code.specs.Table.{table as operations}
use Rattle.machine.specs.Prog.{interp}
use Rattle.machine.specs.Run.{Result, run}
use Rattle.machine.specs.Fields.{looks, gets, halfword, loading}
use Rattle.machine.specs.Cpu.{Cpu, reg, part, address, ahead}
use Rattle.machine.specs.Rx.{rx, taken}
use Rattle.machine.specs.Si.{si}
use Rattle.machine.specs.Step.{act, step}
use Rattle.machine.specs.Machine.{Given, Outcome, proper, cpu_in, store_in, run_outcome}
use Rattle.demand.specs.FetchedFrom.{fetched_in, up_to_refused}
use Rattle.demand.specs.Plain.{Plain, shown, bare, look_plain, note_plain, stored, read_plain, write_plain, plain_run}
use Rattle.demand.specs.Premise.{Inside, Apart}

-- all that the examples compute with
unfoldable pub computes : Unit {0}
unfolding bit_u bit_s bit_e bit_m bit_h bits_x frame base size real page_of disp_of next word_of accessed written tests six_tests look_of accessed_at written_at read_byte write_byte action_of operations interp run looks gets halfword loading reg part address ahead rx taken si act step proper run_outcome bare look_plain note_plain stored read_plain write_plain plain_run
computes = tt

-- what a machine answers: number, place, count, counter, register 1, and the bits of a page
abbrev pub seen : Outcome → ℕ → List ℕ
seen o p =
    o.reply.number ∷ o.reply.place ∷ o.reply.count ∷ o.reply.pc ∷ get_or o.regs 1 0 ∷ bare (get_or o.map p 0) ∷ []

abbrev pub seen_plain : Result Cpu Plain → ℕ → List ℕ
seen_plain r p =
    r.stop ∷ r.place ∷ r.count ∷ r.cpu.pc ∷ get_or r.cpu.regs 1 0 ∷ get_or r.held.bits p 0 ∷ []

-- the run, and the plain machine's run from the store that is shown
abbrev pub BothSee : ℕ → Given → ℕ → List ℕ → List ℕ → Type 0
BothSee budget g p framed plain =
    (seen (run_outcome budget g) p ≡ framed) × (seen_plain (plain_run budget (cpu_in g) (shown (store_in g))) p ≡ plain)

-- this program in frame 0, this map, and registers 2 and 3 with the addresses of pages 11 and 12
abbrev pub loaded : List ℕ → List ℕ → ℕ → Given
loaded program map pc =
    record {
      mem = sets (replicate 8192 0) 0 program;
      map = map;
      regs = set (set (replicate 16 0) 2 0xb000) 3 0xc000;
      pc = pc;
      code = 0;
      mask = 0;
    }

abbrev pub no_pages : List ℕ
no_pages = replicate 512 0

-- LA 1,5
abbrev load_five : List ℕ
load_five = 0x41 ∷ 0x10 ∷ 0x00 ∷ 0x05 ∷ []

-- MVI 0(2),7 and IC 1,0(3)
abbrev store_and_fetch : List ℕ
store_and_fetch = 0x92 ∷ 0x07 ∷ 0x20 ∷ 0x00 ∷ 0x43 ∷ 0x10 ∷ 0x30 ∷ 0x00 ∷ []

-- Page 110 has the program and page 10 is absent: at page 10 both machines refuse with 3, at page 110 both do the instruction.
abbrev page110 : ℕ → Given
page110 pc = loaded load_five (set no_pages 110 0x3000) pc

at_page_10 : BothSee 5 (page110 0x00a000) 110
    (3 ∷ 0x00a000 ∷ 0 ∷ 0x00a000 ∷ 0 ∷ 0x3000 ∷ [])
    (3 ∷ 0x00a000 ∷ 0 ∷ 0x00a000 ∷ 0 ∷ 0x3000 ∷ [])
unfolding computes
at_page_10 = (refl, refl)

at_page_110 : BothSee 1 (page110 0x06e000) 110
    (7 ∷ 0 ∷ 1 ∷ 0x06e004 ∷ 5 ∷ 0x7000 ∷ [])
    (7 ∷ 0 ∷ 1 ∷ 0x06e004 ∷ 5 ∷ 0x7000 ∷ [])
unfolding computes
at_page_110 = (refl, refl)

-- Pages 11 and 12 on one frame: what is stored in page 11 shows in page 12, and on the plain machine it does not. Hence `Apart`.
abbrev shared : List ℕ
shared = set (set (set no_pages 10 0x3000) 11 0x3001) 12 0x3001

not_apart : Apart shared → ⊥
unfolding computes
not_apart h = omega (arith, h 11 12 0 0 open_page open_page (omega arith) (omega arith) refl)
  where
    open_page : Open 0x3001
    open_page = record { u = refl; s = refl; x = refl }

sharing_shows : BothSee 2 (loaded store_and_fetch shared 0x00a000) 12
    (7 ∷ 0 ∷ 2 ∷ 0x00a008 ∷ 7 ∷ 0x7000 ∷ [])
    (7 ∷ 0 ∷ 2 ∷ 0x00a008 ∷ 0 ∷ 0x7000 ∷ [])
unfolding computes
sharing_shows = (refl, refl)

-- Page 11 past memory: the store is refused with 1, and on the plain machine, which has no memory to be past, it is done. Hence `Inside`.
abbrev past : List ℕ
past = set (set no_pages 10 0x3000) 11 0x3002

not_inside : Inside 8192 past → ⊥
unfolding computes
not_inside h = omega (arith, h 11 (record { u = refl; s = refl; x = refl }))

past_shows : BothSee 1 (loaded store_and_fetch past 0x00a000) 11
    (1 ∷ 0x00b000 ∷ 0 ∷ 0x00a000 ∷ 0 ∷ 0x3000 ∷ [])
    (7 ∷ 0 ∷ 1 ∷ 0x00a004 ∷ 0 ∷ 0xf000 ∷ [])
unfolding computes
past_shows = (refl, refl)

-- Page 11 absent: both machines refuse the store, and both keep G on page 10, from which its two halfwords were fetched.
abbrev absent : Given
absent = loaded store_and_fetch (set no_pages 10 0x3000) 0x00a000

both_keep_g : BothSee 1 absent 10
    (3 ∷ 0x00b000 ∷ 0 ∷ 0x00a000 ∷ 0 ∷ 0x7000 ∷ [])
    (3 ∷ 0x00b000 ∷ 0 ∷ 0x00a000 ∷ 0 ∷ 0x7000 ∷ [])
unfolding computes
both_keep_g = (refl, refl)

two_halfwords : fetched_in (store_in absent) (cpu_in absent) ≡ 0x00a000 ∷ 0x00a002 ∷ []
unfolding computes fetched_in up_to_refused
two_halfwords = refl
