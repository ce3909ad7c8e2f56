-- A step: one instruction, in document 01's order: odd program counter, the first halfword's look-up, operation, the remaining halfwords,
-- lowest first, and then what the action asks: an even register for a pair, operand boundary, operand look-ups, a quotient that fits, the
-- work.
use Rattle.std.specs.Prelude.{Option, Some, None, ℕ, ◌%◌, eqb}
use Rattle.words.specs.Pick.{pick}
use Rattle.code.specs.declared.Action.{Action}
use Rattle.code.specs.declared.Action.TheVariants.{Rr, Rx, Rs, Si, Ss}
use Rattle.code.specs.Table.{action_of}
use Rattle.code.specs.Formats.{op_of, rr_of, rx_of, rs_of, si_of, ss_of}
use Rattle.machine.specs.Prog.{Prog, fail}
use Rattle.machine.specs.Fields.{halfword}
use Rattle.machine.specs.Cpu.{Cpu, ahead}
use Rattle.machine.specs.Rr.{rr}
use Rattle.machine.specs.Rx.{rx}
use Rattle.machine.specs.Rs.{rs}
use Rattle.machine.specs.Si.{si}
use Rattle.machine.specs.Ss.{ss}

-- the rest of an instruction of 2, 4, 4, 4 or 6 bytes
unfoldable pub act : Action → ℕ → Cpu → Prog Cpu
act (Rr x) h1 c = rr x (rr_of h1) c
act (Rx x) h1 c = halfword (ahead c 2) (λ h2. rx x (rx_of h1 h2) c)
act (Rs x) h1 c = halfword (ahead c 2) (λ h2. rs x (rs_of h1 h2) c)
act (Si x) h1 c = halfword (ahead c 2) (λ h2. si x (si_of h1 h2) c)
act (Ss x) h1 c = halfword (ahead c 2) (λ h2. halfword (ahead c 4) (λ h3. ss x (ss_of h1 h2 h3) c))

-- an operation that is not in the set: 5 at the program counter
abbrev pub known : Option Action → ℕ → Cpu → Prog Cpu
known (Some x) h1 c = act x h1 c
known None h1 c = fail 5 c.pc

unfoldable pub step : Cpu → Prog Cpu
step c =
    pick (eqb (c.pc % 2) 1) (fail 2 c.pc) (halfword c.pc (λ h1. known (action_of (op_of h1)) h1 c))
