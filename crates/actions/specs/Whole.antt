-- The action of an instruction whose halfwords are in hand: what is left of a step once they are fetched.
use Rattle.std.specs.Prelude.{Option, Some, None, ℕ}
use Rattle.code.specs.declared.Action.{Action}
use Rattle.code.specs.declared.Action.TheVariants.{Rr, Rx, Rs, Si, Ss}
use Rattle.code.specs.Table.{action_of}
use Rattle.code.specs.Formats.{op_of, rr_of, rx_of, rs_of, si_of, ss_of}
use Rattle.machine.specs.Prog.{Prog, fail}
use Rattle.machine.specs.Cpu.{Cpu}
use Rattle.machine.specs.Rr.{rr}
use Rattle.machine.specs.Rx.{rx}
use Rattle.machine.specs.Rs.{rs}
use Rattle.machine.specs.Si.{si}
use Rattle.machine.specs.Ss.{ss}

abbrev pub act_whole : Option Action → ℕ → ℕ → ℕ → Cpu → Prog Cpu
act_whole None h1 h2 h3 c = fail 5 c.pc
act_whole (Some (Rr x)) h1 h2 h3 c = rr x (rr_of h1) c
act_whole (Some (Rx x)) h1 h2 h3 c = rx x (rx_of h1 h2) c
act_whole (Some (Rs x)) h1 h2 h3 c = rs x (rs_of h1 h2) c
act_whole (Some (Si x)) h1 h2 h3 c = si x (si_of h1 h2) c
act_whole (Some (Ss x)) h1 h2 h3 c = ss x (ss_of h1 h2 h3) c

unfoldable pub whole : ℕ → ℕ → ℕ → Cpu → Prog Cpu
whole h1 h2 h3 c = act_whole (action_of (op_of h1)) h1 h2 h3 c
