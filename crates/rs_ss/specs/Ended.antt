-- Working definitions: how a move and a compare end, by what came of them.
use Rattle.std.specs.Prelude.{ℕ, List, Ok, Err}
use Rattle.pages.specs.Look.{Look}
use Rattle.machine.specs.Cpu.{ahead}
use Rattle.fields.specs.Both.{Order}
use Rattle.actions.specs.declared.Now.{Now}
use Rattle.actions.specs.Answered.{Out, refusal_of, cpu_of}

abbrev pub ends_move : Look → List ℕ → Now → Out
ends_move (Ok s) regs c = Ok (record { pc = ahead (cpu_of regs c) 6; code = c.code; mask = c.mask })
ends_move (Err e) regs c = Err (refusal_of e)

abbrev pub ends_compare : Order → List ℕ → Now → Out
ends_compare (Ok k) regs c = Ok (record { pc = ahead (cpu_of regs c) 6; code = k; mask = c.mask })
ends_compare (Err e) regs c = Err (refusal_of e)
