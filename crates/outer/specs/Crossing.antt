-- What the caller of a linked function has afterwards: the function's own number, and the lists that it lent.
use Rattle.std.specs.Prelude.{ℕ, ◌≡◌, List, [], ◌∷◌, eqb, length, get_or}
use Rattle.words.specs.Pick.{pick}
use Rattle.machine.specs.declared.Reply.{Reply}
use Rattle.machine.specs.Machine.{Given, Outcome, given, outcome, cpu_in, step_outcome, run_outcome}
use Rattle.demand.specs.Plain.{plain_step, plain_run}
use Rattle.demand.specs.DemandOne.{CleanStep, CleanRun}
use Rattle.demand.specs.DemandThree.{PagesKeep}
use Rattle.printing.specs.declared.Text.{Text}
use Rattle.printing.specs.Answer.{text_of}
use Rattle.lines.specs.Listing.{Answer, listed}
use Rattle.reading.specs.Setting.{Setting}
use Rattle.sheet.specs.Sheet.{machine_of, printed, answer_of}

-- the version of these functions, 0.6.0, as one number: major × 65,536 + minor × 256 + patch
abbrev pub version : ℕ
version = 1536

pub record Crossed : Type 0 where
  pub number : ℕ
  pub mem : List ℕ
  pub map : List ℕ
  pub regs : List ℕ
  pub reply : List ℕ

abbrev pub crossed : ℕ → List ℕ → List ℕ → List ℕ → List ℕ → Crossed
crossed n mem map regs reply =
    record { number = n; mem = mem; map = map; regs = regs; reply = reply }

-- a reply as a list of six: number, place, count, counter, code, mask
abbrev pub six : Reply → List ℕ
six r = r.number ∷ r.place ∷ r.count ∷ r.pc ∷ r.code ∷ r.mask ∷ []

-- the machine that is lent: counter, code and mask are the last three of the reply's six
abbrev pub lent : List ℕ → List ℕ → List ℕ → List ℕ → Given
lent mem map regs reply = given mem map regs (get_or reply 3 0) (get_or reply 4 0) (get_or reply 5 0)

abbrev pub handed_back : Outcome → Crossed
handed_back o = crossed o.reply.number o.mem o.map o.regs (six o.reply)

-- a single step, and a run; where the reply has not six places, number 6 and nothing altered
unfoldable pub step_crossed : List ℕ → List ℕ → List ℕ → List ℕ → Crossed
step_crossed mem map regs reply =
    pick (eqb (length reply) 6) (handed_back (step_outcome (lent mem map regs reply))) (crossed 6 mem map regs reply)

unfoldable pub run_crossed : ℕ → List ℕ → List ℕ → List ℕ → List ℕ → Crossed
run_crossed budget mem map regs reply =
    pick (eqb (length reply) 6) (handed_back (run_outcome budget (lent mem map regs reply))) (crossed 6 mem map regs reply)

-- the outcome that a caller reads off what it has afterwards: the reply's six numbers, and the lists
abbrev pub read_off : List ℕ → List ℕ → List ℕ → List ℕ → Outcome
read_off mem map regs reply =
    outcome
    (record {
      number = get_or reply 0 0;
      place = get_or reply 1 0;
      count = get_or reply 2 0;
      pc = get_or reply 3 0;
      code = get_or reply 4 0;
      mask = get_or reply 5 0;
    })
    mem
    map
    regs

-- Demands 1 and 3 of a linked step and a linked run, where the reply has six places: g is what was lent, o what is read off afterwards.
pub record StepMeets (g : Given) (o : Outcome) : Type 0 where
  pub clean : CleanStep g o
  pub pages : PagesKeep g o (plain_step (cpu_in g))

pub record RunMeets (budget : ℕ) (g : Given) (o : Outcome) : Type 0 where
  pub clean : CleanRun budget g o
  pub pages : PagesKeep g o (plain_run budget (cpu_in g))

-- a sheet's answer with zeros after it, in a room of 8,192 bytes; a room of another size is left alone, with length 0
unfoldable pub sheet_crossed : List ℕ → List ℕ → Text
sheet_crossed sheet room =
    pick (eqb (length room) 8192) (text_of (answer_of sheet)) (record { bytes = room; len = 0 })

-- Demands 1 and 3 of a good sheet's answer: it is the text of an outcome of which both hold. h is what the sheet sets.
pub record SheetMeets (h : Setting) (t : Text) : Type 0 where
  pub from : Outcome
  pub meets : RunMeets h.budget (machine_of h) from
  pub text : t ≡ text_of (printed h.map from)

-- What the caller of a listing has afterwards: the number, the output, and what it is told.
pub record CrossedList : Type 0 where
  pub number : ℕ
  pub out : List ℕ
  pub told : List ℕ

abbrev pub crossed_list : ℕ → List ℕ → List ℕ → CrossedList
crossed_list n out told = record { number = n; out = out; told = told }

-- an answer, with what is told as a list of three: lines, next, written
abbrev pub handed_over : Answer → CrossedList
handed_over a = crossed_list a.number a.out (a.lines ∷ a.next ∷ a.written ∷ [])

-- a listing; where what is told has not three places, number 6 and nothing altered
unfoldable pub list_crossed : List ℕ → ℕ → List ℕ → List ℕ → CrossedList
list_crossed code start out told =
    pick (eqb (length told) 3) (handed_over (listed code start out)) (crossed_list 6 out told)
