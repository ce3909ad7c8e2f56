-- What a refused instruction leaves behind (document 02, E4): G on each page from which a halfword of it was fetched. Said from what was
-- lent, by the look-ups alone; how a step goes is not needed for it.
use Rattle.std.specs.Prelude.{Option, Some, None, ℕ, ◌+◌, ◌*◌, ◌/◌, ◌%◌, Bool, true, false, List, [], ◌∷◌, eqb, take, Ok, Err}
use Rattle.words.specs.Pick.{pick, both}
use Rattle.pages.specs.declared.Access.TheVariants.{Fetch}
use Rattle.pages.specs.Word.{next}
use Rattle.pages.specs.Look.{Look}
use Rattle.pages.specs.Framed.{Framed, accessed_at, look_in, read_byte}
use Rattle.code.specs.declared.Action.{Action}
use Rattle.code.specs.Table.{action_of}
use Rattle.code.specs.Formats.{op_of, length_of}
use Rattle.machine.specs.Cpu.{Cpu, ahead}
use Rattle.machine.specs.Machine.{Given, given, cpu_in, store_in}

-- the halfword at a can be fetched: the look-up finds both its bytes
abbrev pub is_found : Look → Bool
is_found (Ok s) = true
is_found (Err e) = false

abbrev pub fetchable : Framed → ℕ → Bool
fetchable s a = both (is_found (look_in s Fetch a)) (is_found (look_in s Fetch (next a)))

-- its value
abbrev pub halfword_at : Framed → ℕ → ℕ
halfword_at s a = read_byte s a * 256 + read_byte s (next a)

-- the addresses of an instruction's halfwords; of an operation that is not in the set only the first is fetched
abbrev pub halfwords_of : Option Action → Cpu → List ℕ
halfwords_of None c = c.pc ∷ []
halfwords_of (Some x) c = take (length_of x / 2) (c.pc ∷ ahead c 2 ∷ ahead c 4 ∷ [])

-- of these halfwords, lowest first, as many as are fetched: those before the first that a look-up refuses
unfoldable pub up_to_refused : Framed → List ℕ → List ℕ
up_to_refused s [] = []
up_to_refused s (a ∷ rest) = pick (fetchable s a) (a ∷ up_to_refused s rest) []

-- the halfwords that the instruction at the counter is fetched from; at an odd counter nothing is fetched
unfoldable pub fetched_in : Framed → Cpu → List ℕ
fetched_in s c =
    pick (eqb (c.pc % 2) 1) [] (up_to_refused s (halfwords_of (action_of (op_of (halfword_at s c.pc))) c))

-- the map with G set on the page of each of these addresses
unfoldable pub all_accessed : List ℕ → List ℕ → List ℕ
all_accessed map [] = map
all_accessed map (a ∷ rest) = all_accessed (accessed_at map a) rest

-- what was lent, as a refusal leaves it: all as it was, but for these marks
unfoldable pub left_by : Given → Given
left_by g =
    given g.mem (all_accessed g.map (fetched_in (store_in g) (cpu_in g))) g.regs g.pc g.code g.mask
