-- Slips of a machine that refuses and leaves a trace, or completes and leaves the wrong marks (those of a refusal are in Marks). All but the
-- last are of `engine::step`.
use Rattle.std.specs.Prelude.{ℕ, List, [], ◌∷◌, ◌++◌, take, drop, replicate}
use Rattle.words.specs.Pick.{pick}
use Rattle.pages.specs.declared.Access.{Access}
use Rattle.pages.specs.declared.Access.TheVariants.{Fetch, Load, Store}
use Rattle.pages.specs.Tests.{is_store}
use Rattle.pages.specs.Framed.{Framed, framed_of, written_at, noted}
use Rattle.machine.specs.Prog.{Prog, Ops, Answer, finished, refused, done, fail, look, get, put, interp}
use Rattle.machine.specs.Run.{Result, one}
use Rattle.machine.specs.Store.{framed}
use Rattle.machine.specs.Fields.{looks}
use Rattle.machine.specs.Cpu.{Cpu, with_pc, onward}
use Rattle.machine.specs.Step.{step}
use Rattle.machine.specs.Machine.{Given, Outcome, cpu_in, store_in}
use Rattle.slips.specs.Row.{Row, row}
use Rattle.slips.specs.Seen.{lent, behind_door, step_leaving, steps}

-- W set by a store that is refused
abbrev pub written_anyway : Framed → Framed → Access → ℕ → Framed
written_anyway kept s acc a = framed_of kept.mem (pick (is_store acc) (written_at kept.map a) kept.map)

-- a program that looks nothing up
abbrev blind : Prog Cpu → Prog Cpu
blind (done c) = done c
blind (fail n a) = fail n a
blind (look acc a k) = blind k
blind (get a k) = get a (λ v. blind (k v))
blind (put a v k) = put a v (blind k)

-- where the step is refused, the state is not the one before, but what this makes of it
abbrev pub step_spoiling : (Given → Cpu) → Given → Outcome
step_spoiling spoilt = behind_door (λ g. told g (interp framed (step (cpu_in g)) (store_in g) (store_in g)))
  where
    told : Given → Answer Cpu Framed → Result Cpu Framed
    told g (finished c s) = one (cpu_in g) (finished c s)
    told g (refused n a s) = one (spoilt g) (refused n a s)

-- registers and code are as if the operand had been found, the counter alone is put back
abbrev not_undone : Given → Cpu
not_undone g = state (interp framed (blind (step (cpu_in g))) (store_in g) (store_in g))
  where
    state : Answer Cpu Framed → Cpu
    state (finished c s) = with_pc c g.pc
    state (refused n a s) = cpu_in g

-- the counter moved past what was fetched
abbrev moved_by : ℕ → Given → Cpu
moved_by n g = onward (cpu_in g) n

-- one step over a store with other marks
abbrev step_marking : (Cpu → Framed → Access → ℕ → Framed) → Given → Outcome
step_marking mark = behind_door (λ g. one (cpu_in g) (interp (marked (cpu_in g)) (step (cpu_in g)) (store_in g) (store_in g)))
  where
    marked : Cpu → Ops Framed
    marked c = record { looked = framed.looked; noted = mark c; read = framed.read; wrote = framed.wrote }

-- G for what is fetched on the counter's page only
abbrev counter_page : Cpu → Framed → Access → ℕ → Framed
counter_page c s Fetch a = noted s c.pc
counter_page c s Load a = noted s a
counter_page c s Store a = noted s a

-- G for an operand on its first page only
abbrev first_page : Framed → ℕ → ℕ → Framed
first_page s a n = noted s a

-- the look-ups of an operand alone, as the machine's program does them: `fields::note_field`
abbrev looked_up : Framed → ℕ → ℕ → Framed
looked_up s a n = store (interp framed (looks Load a n (done tt)) s s)
  where
    store : Answer (Unit {0}) Framed → Framed
    store (finished r t) = t
    store (refused m p t) = t

-- pages 10 and 11, and their words
abbrev two_pages : Framed
two_pages = store_in (lent [] [] 0x3000 [] 0)

abbrev marks : Framed → List ℕ
marks s = take 2 (drop 10 s.map)

-- this instruction at 00A000; register 1 with a word, register 2 with the address of page 11, which has this word and holds FF at 4
abbrev on_page11 : List ℕ → ℕ → Given
on_page11 instruction word = lent (instruction ++ 0xff ∷ []) [] word (0 ∷ 0x12345678 ∷ 0xb000 ∷ []) 0xa000

-- ST 1,4(2) to a page with E set
abbrev pub storing : Given
storing = on_page11 (0x50 ∷ 0x10 ∷ 0x20 ∷ 4 ∷ []) 0x3800

-- LA 1,5 at 00AFFE, its second halfword in page 11
abbrev pub at_the_end : ℕ → Given
at_the_end word = lent (0 ∷ 5 ∷ []) (replicate 14 0 ++ 0x41 ∷ 0x10 ∷ []) word [] 0xaffe

abbrev pub slips : List Row
slips =
    steps "W set by a store that was refused" (step_leaving written_anyway step) storing 0x3800 0xb800
    -- IC 1,4(2) from a page that is absent; NI, OI and XI to one with E set
    ∷ steps "IC not undone on a page fault" (step_spoiling not_undone) (on_page11 (0x43 ∷ 0x10 ∷ 0x20 ∷ 4 ∷ []) 0) 0x12345678 0x12345600
    ∷ steps "NI not undone on a page fault" (step_spoiling not_undone) (on_page11 (0x94 ∷ 0x10 ∷ 0x20 ∷ 4 ∷ []) 0x3800) 0 1
    ∷ steps "OI not undone on a page fault" (step_spoiling not_undone) (on_page11 (0x96 ∷ 0x10 ∷ 0x20 ∷ 4 ∷ []) 0x3800) 0 1
    ∷ steps "XI not undone on a page fault" (step_spoiling not_undone) (on_page11 (0x97 ∷ 0x10 ∷ 0x20 ∷ 4 ∷ []) 0x3800) 0 1
    -- LA with its second halfword in page 11, which is absent; L 1,4(2) from that page
    ∷ steps "the counter moved after a failed fetch" (step_spoiling (moved_by 2)) (at_the_end 0) 0xaffe 0xb000
    ∷ steps "the counter moved by a refusal" (step_spoiling (moved_by 4)) (on_page11 (0x58 ∷ 0x10 ∷ 0x20 ∷ 4 ∷ []) 0) 0xa000 0xa004
    -- the LA again, with page 11 there; a halfword from 00AFFF on
    ∷ steps "G on the first page of an instruction only" (step_marking counter_page) (at_the_end 0x3000) 0x7000 0x3000
    ∷ row "G on the first page of an operand only" (marks (looked_up two_pages 0xafff 2))
    (marks (first_page two_pages 0xafff 2)) 0x7000 0x3000
    ∷ []
