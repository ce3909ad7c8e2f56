-- For the engine's inner functions: an instruction's halfwords and their marks, what the action does with them, and the answers of a step
-- and a run.
use Rattle.std.specs.Prelude.{Option, Some, None, Ok, Err, ℕ, ◌+◌, ◌-◌, ◌/◌, ◌%◌, ◌<◌, ◌≤◌, ◌≡◌, List, [], ◌∷◌, Bool, true, false, leb, ltb}
use Rattle.std.specs.declared.result.Result as rust
use Rattle.words.specs.Pick.{pick, both}
use Rattle.words.specs.Said.{Said, says}
use Rattle.pages.specs.Word.{bit_g, next, page_of, word_of}
use Rattle.pages.specs.declared.Access.TheVariants.{Fetch}
use Rattle.pages.specs.declared.Refusal.{Refusal}
use Rattle.pages.specs.Tests.{number_of}
use Rattle.pages.specs.Look.{Look, At, look_of, look_with}
use Rattle.pages.specs.Framed.{Framed, framed_of, accessed_at}
use Rattle.code.specs.declared.Action.{Action}
use Rattle.code.specs.Table.{action_of}
use Rattle.code.specs.Formats.{op_of, length_of}
use Rattle.machine.specs.declared.Reply.{Reply}
use Rattle.machine.specs.Prog.{Prog, done, Answer, finished, refused, interp}
use Rattle.machine.specs.Fields.{gets, halfword}
use Rattle.machine.specs.Store.{framed}
use Rattle.machine.specs.Run.{Result, run}
use Rattle.machine.specs.Cpu.{Cpu}
use Rattle.machine.specs.Step.{step}
use Rattle.machine.specs.Machine.{ops_for}
use Rattle.actions.specs.declared.Now.{Now}
use Rattle.actions.specs.declared.Stop.{Stop}
use Rattle.actions.specs.Answered.{Out, number, place, cpu_of}
use Rattle.engine.specs.declared.Text.{Text}
use Rattle.engine.specs.declared.Ran.{Ran}
use Rattle.engine.specs.declared.Spun.{Spun}
use Rattle.quick.specs.declared.Window.{Window}

-- an instruction's halfwords, or why they are not all had
abbrev pub Fetched : Type 0
Fetched = rust.Result Text Stop

-- the same in document 01's terms: the three halfwords, or a refusal's number and place
abbrev pub fetched_says : Fetched → Said (List ℕ)
fetched_says (Ok t) = says 0 (t.h1 ∷ t.h2 ∷ t.h3 ∷ [])
fetched_says (Err k) = says (number k) (place k ∷ [])

-- the address n bytes past pc
abbrev pub past : ℕ → ℕ → ℕ
past pc n = (pc + n) % 16777216

-- how many halfwords are fetched: of an operation that is not known, the first only
abbrev pub halves : Option Action → ℕ
halves None = 1
halves (Some x) = length_of x / 2

abbrev pub halves_of : ℕ → ℕ
halves_of h1 = halves (action_of (op_of h1))

-- a halfword's look-up, byte by byte, leaves G on the page of each byte that it finds
abbrev pub marked_if : Look → List ℕ → List ℕ → List ℕ
marked_if (Ok s) marked map = marked
marked_if (Err e) marked map = map

unfoldable pub half_marks : List ℕ → ℕ → ℕ → List ℕ
half_marks map size a =
    marked_if (look_of map size Fetch a)
    (marked_if (look_of map size Fetch (next a)) (accessed_at (accessed_at map a) (next a)) (accessed_at map a))
    map

-- a halfword that the operation has or lacks, and what is done with it; one that it lacks is read all the same
abbrev pub wanted_half : {R : Type 0} → Bool → ℕ → (ℕ → Prog R) → Prog R
wanted_half b a k = pick b (halfword a k) (gets a 2 0 k)

-- what it comes to by itself, and what the code answers, with the store at exit, as such an answer
abbrev pub halving : Bool → ℕ → Framed → Answer ℕ Framed
halving b a s = interp framed (wanted_half b a done) s s

abbrev pub halved : rust.Result ℕ Refusal → Framed → Answer ℕ Framed
halved (Ok h) s = finished h s
halved (Err e) s = refused (number_of e.cause) e.place s

-- the halfwords from pc on as a program, in the step's order: n of them are fetched, and the rest is read and not looked at
abbrev pub further_text : ℕ → ℕ → ℕ → Prog Text
further_text n pc h1 =
    wanted_half (ltb 1 n) (past pc 2) (λ h2. wanted_half (ltb 2 n) (past pc 4) (λ h3. done (record { h1 = h1; h2 = h2; h3 = h3 })))

unfoldable pub text : ℕ → Prog Text
text pc = halfword pc (λ h1. further_text (halves_of h1) pc h1)

-- what it comes to, and what the code answers, with the store at exit, as such an answer
abbrev pub fetching : ℕ → Framed → Answer Text Framed
fetching pc s = interp framed (text pc) s s

abbrev pub fetched : Fetched → Framed → Answer Text Framed
fetched (Ok t) s = finished t s
fetched (Err k) s = refused (number k) (place k) s

-- a run's number and place: those of what stopped it, or 7 where its budget is spent
abbrev pub of_stopped : {S : Type 0} → (S → ℕ) → ℕ → Option S → ℕ
of_stopped f spent None = spent
of_stopped f spent (Some k) = f k

abbrev pub ran_number : Option Stop → ℕ
ran_number o = of_stopped number 7 o

abbrev pub ran_place : Option Stop → ℕ
ran_place o = of_stopped place 0 o

-- a run's answer and what the lists hold, as the definitions' result
abbrev pub ran_as : Ran Stop → List ℕ → Framed → Result Cpu Framed
ran_as r regs s =
    record { stop = ran_number r.stopped; place = ran_place r.stopped; count = r.count; cpu = cpu_of regs r.now; held = s }

-- n steps more
abbrev pub adds : ℕ → Result Cpu Framed → Result Cpu Framed
adds n r = record { stop = r.stop; place = r.place; count = n + r.count; cpu = r.cpu; held = r.held }

-- how far the quick way went from c: the steps done make up the run with those left; where it is not stuck it has done one, and where it is
-- one is left
pub record Went (c : Now) (budget : ℕ) (regs mem map regs' mem' map' : List ℕ) (r : Spun) : Type 0 where
  pub so_far : run ops_for step budget (cpu_of regs c) (framed_of mem map)
      ≡ adds (budget - r.left) (run ops_for step r.left (cpu_of regs' r.now) (framed_of mem' map'))
  pub most : r.left ≤ budget
  pub goes : r.stuck ≡ false → 0 < budget → r.left < budget
  pub stays : r.stuck ≡ true → 0 < budget → 0 < r.left

-- a reply, by number, place, count and the scalars afterwards
abbrev pub replied : ℕ → ℕ → ℕ → Now → Reply
replied k a n c = record { number = k; place = a; count = n; pc = c.pc; code = c.code; mask = c.mask }

-- the reply to a single step from the scalars c, and to a run, by the number and the place of what stopped it
abbrev pub step_reply_by : {S : Type 0} → (S → ℕ) → (S → ℕ) → Now → rust.Result Now S → Reply
step_reply_by k a c (Ok n) = replied 0 0 1 n
step_reply_by k a c (Err e) = replied (k e) (a e) 0 c

abbrev pub ran_reply_by : {S : Type 0} → (S → ℕ) → (S → ℕ) → Ran S → Reply
ran_reply_by k a r = replied (of_stopped k 7 r.stopped) (of_stopped a 0 r.stopped) r.count r.now

-- the same of a refusal
abbrev pub step_reply : Now → Out → Reply
step_reply c out = step_reply_by number place c out

abbrev pub ran_reply : Ran Stop → Reply
ran_reply r = ran_reply_by number place r

-- the word of a page with a window: accessed, and the look-up of the window's first byte, found at b, reaches its instructions' last bytes
pub record Held (first len b w size : ℕ) : Type 0 where
  pub far : ℕ
  pub found : look_with w size Fetch first ≡ At b far
  pub room : len + 5 ≤ far
  pub seen : bit_g w ≡ 1

-- a window is shut, or holds of this map and a memory of this size
abbrev pub Ready : Window → List ℕ → ℕ → Type 0
Ready w map size =
    0 < w.len → Held w.first w.len w.base (word_of map (page_of w.first)) size

-- whether six bytes from pc on lie in the window
abbrev pub inside : Window → ℕ → Bool
inside w pc = both (leb w.first pc) (ltb (pc - w.first) w.len)
