-- Slips in the marks that a refused instruction leaves (document 02, E4). All are of `engine::step`.
use Rattle.std.specs.Prelude.{ℕ, ◌%◌, List, [], ◌∷◌, ◌++◌, eqb, ltb, replicate}
use Rattle.words.specs.Pick.{pick}
use Rattle.pages.specs.declared.Access.{Access}
use Rattle.pages.specs.declared.Access.TheVariants.{Fetch, Load, Store}
use Rattle.pages.specs.Framed.{Framed, noted}
use Rattle.code.specs.Table.{action_of}
use Rattle.code.specs.Formats.{op_of}
use Rattle.machine.specs.Prog.{Prog, fail, keeps}
use Rattle.machine.specs.Run.{one}
use Rattle.machine.specs.Store.{framed}
use Rattle.machine.specs.Fields.{halfword}
use Rattle.machine.specs.Cpu.{Cpu, ahead}
use Rattle.machine.specs.Step.{known, step}
use Rattle.machine.specs.Machine.{Given, Outcome, cpu_in, store_in}
use Rattle.slips.specs.Row.{Row}
use Rattle.slips.specs.Seen.{lent, lone, behind_door, interp_by, as_kept, step_by, step_leaving, steps}
use Rattle.slips.specs.Refusals.{written_anyway, at_the_end}

-- one step of which a refusal keeps other marks
abbrev step_keeping : (Cpu → Access → ℕ → Framed → Framed) → Given → Outcome
step_keeping keep =
    behind_door (λ g. one (cpu_in g) (interp_by framed (keep (cpu_in g)) as_kept (step (cpu_in g)) (store_in g) (store_in g)))

-- none at all, as document 01 had it
abbrev none : Cpu → Access → ℕ → Framed → Framed
none c acc a kept = kept

-- those of operands too
abbrev operands : Cpu → Access → ℕ → Framed → Framed
operands c acc a kept = noted kept a

-- of what was fetched the counter's page only
abbrev counter_only : Cpu → Access → ℕ → Framed → Framed
counter_only c Fetch a kept = noted kept c.pc
counter_only c Load a kept = kept
counter_only c Store a kept = kept

-- a fetch that is refused takes back what the instruction had fetched before
abbrev taken_back : Given → Outcome
taken_back = behind_door (λ g. one (cpu_in g) (interp_by framed (λ acc a kept. keeps framed acc a kept) (start (store_in g)) (step (cpu_in g)) (store_in g) (store_in g)))
  where
    start : Framed → Framed → Framed → Access → ℕ → Framed
    start first kept s Fetch a = first
    start first kept s Load a = kept
    start first kept s Store a = kept

-- the page of the place of a refusal, though nothing was fetched there
abbrev tried : Framed → Framed → Access → ℕ → Framed
tried kept s acc a = noted kept a

-- the second halfword of what has the left bits of a longer instruction fetched before the operation is known
abbrev long_first : Cpu → Prog Cpu
long_first c =
    pick (eqb (c.pc % 2) 1)
    (fail 2 c.pc)
    (halfword c.pc
    (λ h1. let rest = known (action_of (op_of h1)) h1 c in pick (ltb (op_of h1) 64) rest (halfword (ahead c 2) (λ h2. rest))))

-- This instruction at 00A000; page 11 has word 3000, page 12 is absent; registers 2 and 3 have their addresses.
abbrev here : List ℕ → Given
here instruction = lent instruction [] 0x3000 (0 ∷ 9 ∷ 0xb000 ∷ 0xc000 ∷ []) 0xa000

-- These four bytes at 00AFFE, half of them in page 11.
abbrev over_the_edge : List ℕ → List ℕ → Given
over_the_edge last first = lent first (replicate 14 0 ++ last) 0x3000 (0 ∷ 0 ∷ 0 ∷ 0xc000 ∷ []) 0xaffe

abbrev pub slips : List Row
slips =
    -- 00A000 holds no operation of the set
    steps "no G after a refusal" (step_keeping none) (lone [] []) 0x7000 0x3000
    -- MVC 0(1,2),0(3): the first field is found, the second is not; D 0,8(2) by zero
    ∷ steps "G on an operand's page after a refusal" (step_keeping operands) (here (0xd2 ∷ 0 ∷ 0x20 ∷ 0 ∷ 0x30 ∷ 0 ∷ [])) 0x3000 0x7000
    ∷ steps "G on the divisor's page after a divide error" (step_keeping operands) (here (0x5d ∷ 0 ∷ 0x20 ∷ 8 ∷ [])) 0x3000 0x7000
    -- LA at 00AFFE with page 11 absent, and not open to a nonprivileged program
    ∷ steps "no G on the first page where the second halfword is refused" taken_back (at_the_end 0) 0x7000 0x3000
    ∷ steps "G on a page whose fetch was refused" (step_leaving tried step) (at_the_end 0x2000) 0x2000 0x6000
    -- L 1,0(3) over the edge
    ∷ steps "G on the first page only of a refused instruction" (step_keeping counter_only) (over_the_edge (0x58 ∷ 0x10 ∷ []) (0x30 ∷ 0 ∷ [])) 0x7000 0x3000
    ∷ steps "G by an odd counter" (step_leaving tried step) (lent [] [] 0 [] 0xa001) 0x3000 0x7000
    -- FF00 at 00AFFE
    ∷ steps "G on the page behind an operation that is not in the set" (step_by long_first) (over_the_edge (0xff ∷ 0 ∷ []) []) 0x3000 0x7000
    -- ST 1,4(2) in page 11 to that page, which is not to be written
    ∷ steps "W kept by a store to the instruction's own page" (step_leaving written_anyway step)
    (lent (0x50 ∷ 0x10 ∷ 0x20 ∷ 4 ∷ []) [] 0x3800 (0 ∷ 9 ∷ 0xb000 ∷ []) 0xb000) 0x7800 0xf800
    ∷ []
