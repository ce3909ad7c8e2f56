-- Slips in a run, its count and the door. All are of `engine::run`.
use Rattle.std.specs.Prelude.{ℕ, ◌+◌, ◌-◌, ◌%◌, List, [], ◌∷◌, eqb, leb}
use Prim.Native.String.{String}
use Rattle.words.specs.Pick.{pick, both}
use Rattle.pages.specs.Framed.{Framed}
use Rattle.machine.specs.Run.{Result, one_more, run}
use Rattle.machine.specs.Cpu.{Cpu}
use Rattle.machine.specs.Step.{step}
use Rattle.machine.specs.Machine.{Given, Outcome, given, proper, turned_away, cpu_in, store_in, outcome_of, ops_for, run_outcome}
use Rattle.slips.specs.Row.{Row, row}
use Rattle.slips.specs.Seen.{lone, seen}

-- the machine's run
abbrev ran : ℕ → Given → Result Cpu Framed
ran budget g = run ops_for step budget (cpu_in g) (store_in g)

-- a door that lets budgets up to `last` in, what is answered behind it, and what is answered before it
abbrev door : ℕ → (Given → Outcome) → (ℕ → Given → Result Cpu Framed) → ℕ → Given → Outcome
door last away answer budget g = pick (both (proper g) (leb budget last)) (outcome_of (answer budget g)) (away g)

-- the right door, and this answer
abbrev behind : (ℕ → Given → Result Cpu Framed) → ℕ → Given → Outcome
behind = door 65535 turned_away

-- the count one too many
abbrev counted : ℕ → Given → Result Cpu Framed
counted budget g = one_more (ran budget g)

-- a refusal counted as a completed step
abbrev refusal_counted : ℕ → Given → Result Cpu Framed
refusal_counted budget g =
    let r = ran budget g in
    pick (eqb r.stop 7) r (one_more r)

-- the state after one step fewer
abbrev one_fewer : ℕ → Given → Result Cpu Framed
one_fewer budget g =
    let r = ran budget g in
    let q = ran (budget - 1) g in
    record { stop = r.stop; place = r.place; count = r.count; cpu = q.cpu; held = q.held }

-- a further instruction tried when the budget is used up: its refusal is reported
abbrev tries_on : ℕ → Given → Result Cpu Framed
tries_on budget g =
    let r = ran (budget + 1) g in
    pick (eqb r.stop 7) (ran budget g) r

-- with 7, the counter as the place
abbrev placed : ℕ → Given → Result Cpu Framed
placed budget g =
    let r = ran budget g in
    record { stop = r.stop; place = pick (eqb r.stop 7) r.cpu.pc r.place; count = r.count; cpu = r.cpu; held = r.held }

-- a number 6 that cuts the counter to 24 bits
abbrev cutting : Given → Outcome
cutting g = turned_away (given g.mem g.map g.regs (g.pc % 16777216) g.code g.mask)

-- code and mask handed on in each other's place
abbrev swapped : ℕ → Given → Outcome
swapped budget g = run_outcome budget (given g.mem g.map g.regs g.pc g.mask g.code)

abbrev runs : String → (ℕ → Given → Outcome) → ℕ → Given → ℕ → ℕ → Row
runs slip slipped budget g one other = row slip (seen (run_outcome budget g)) (seen (slipped budget g)) one other

-- LA 1,5, and then no operation; nothing at all, with this counter, code 1 and mask 2
abbrev five : Given
five = lone (0x41 ∷ 0x10 ∷ 0 ∷ 5 ∷ []) []

abbrev nothing : ℕ → Given
nothing pc =
    let g = lone [] [] in
    given g.mem g.map g.regs pc 1 2

abbrev pub slips : List Row
slips =
    runs "count one too many" (behind counted) 1 five 1 2
    ∷ runs "a refusal counted" (behind refusal_counted) 2 five 1 2
    ∷ runs "the state after one step fewer" (behind one_fewer) 1 five 0xa004 0xa000
    ∷ runs "budget just used up, and a further instruction tried" (behind tries_on) 1 five 7 5
    ∷ runs "place not 0 with 7" (behind placed) 1 five 0 0xa004
    -- the first instruction is in page 0, which is absent
    ∷ runs "budget of 65,536 accepted" (door 65536 turned_away ran) 65536 (nothing 0) 6 3
    ∷ runs "number 6 that alters something" (door 65535 cutting ran) 1 (nothing 0x100a000) 0x100a000 0xa000
    -- guarantee::run
    ∷ runs "code and mask swapped" swapped 0 (nothing 0) 1 2
    ∷ []
