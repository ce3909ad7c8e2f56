-- The lent registers and the state's scalars are the definitions' state; an executor's answer, with what the lists hold at exit, is the
-- definitions' result of one step. Each case of the enum is given document 01's number and values here.
use Rattle.std.specs.Prelude.{ℕ, ◌≡◌, List, Ok, Err}
use Rattle.std.specs.declared.result.Result as rust
use Rattle.pages.specs.declared.Cause.{Cause}
use Rattle.pages.specs.declared.Cause.TheVariants as cause
use Rattle.pages.specs.declared.Refusal.{Refusal}
use Rattle.pages.specs.Framed.{Framed}
use Rattle.machine.specs.Prog.{Prog, done, fail, interp}
use Rattle.machine.specs.Run.{Result, one}
use Rattle.machine.specs.Store.{framed}
use Rattle.machine.specs.Cpu.{Cpu}
use Rattle.actions.specs.declared.Now.{Now}
use Rattle.actions.specs.declared.Stop.{Stop}
use Rattle.actions.specs.declared.Stop.TheVariants.{Addressing, Boundary, PagingQueue, PagingError, Unknown, Divide}

-- what an executor answers: the scalars afterwards, or why it stopped
abbrev pub Out : Type 0
Out = rust.Result Now Stop

-- document 01's number, and the place
abbrev pub number : Stop → ℕ
number (Addressing a) = 1
number (Boundary a) = 2
number (PagingQueue a) = 3
number (PagingError a) = 4
number (Unknown a) = 5
number (Divide a) = 8

abbrev pub place : Stop → ℕ
place (Addressing a) = a
place (Boundary a) = a
place (PagingQueue a) = a
place (PagingError a) = a
place (Unknown a) = a
place (Divide a) = a

abbrev pub cpu_of : List ℕ → Now → Cpu
cpu_of regs c = record { regs = regs; pc = c.pc; code = c.code; mask = c.mask }

-- registers and store are those at exit; c is the state at entry, which a refusal leaves
unfoldable pub told : Out → List ℕ → Now → Framed → Result Cpu Framed
told (Ok n) regs c s = record { stop = 0; place = 0; count = 1; cpu = cpu_of regs n; held = s }
told (Err e) regs c s = record { stop = number e; place = place e; count = 0; cpu = cpu_of regs c; held = s }

-- what a program comes to from this state and store
abbrev pub doing : (Cpu → Prog Cpu) → List ℕ → Now → Framed → Result Cpu Framed
doing p regs c s = one (cpu_of regs c) (interp framed (p (cpu_of regs c)) s s)

-- a look-up's refusal, handed on
abbrev pub stop_of : Cause → ℕ → Stop
stop_of cause.Addressing a = Addressing a
stop_of cause.PagingQueue a = PagingQueue a
stop_of cause.PagingError a = PagingError a

abbrev pub refusal_of : Refusal → Stop
refusal_of f = stop_of f.cause f.place

-- the answer of an executor that touches no storage is this program's; regs' are the registers at exit, and a refusal leaves them
unfoldable pub AnswersTo : Out → List ℕ → List ℕ → Prog Cpu → Type 0
AnswersTo (Ok n) regs regs' p = done (cpu_of regs' n) ≡ p
AnswersTo (Err e) regs regs' p = (fail (number e) (place e) ≡ p) × (regs' ≡ regs)
