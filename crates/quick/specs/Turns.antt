-- The quick way's answers in the definitions' terms: where a place of the window's page is, and what a row leaves behind. An instruction is
-- done whole, and then it is the definition's step, or nothing is done.
use Rattle.std.specs.Prelude.{ℕ, ◌+◌, ◌%◌, ◌≤◌, ◌≡◌, List, length, Option, Some, Ok, IfSome}
use Rattle.pages.specs.declared.Access.{Access}
use Rattle.pages.specs.declared.Access.TheVariants.{Load, Store}
use Rattle.pages.specs.declared.Spot.{Spot}
use Rattle.pages.specs.Look.{spot, At}
use Rattle.pages.specs.Framed.{framed_of}
use Rattle.lookup.specs.Marked.{Found}
use Rattle.words.specs.declared.PairOp.{PairOp}
use Rattle.words.specs.Wide.{pair_of}
use Rattle.code.specs.Formats.{left_of, right_of, base_of, displacement_of}
use Rattle.fields.specs.Direct.{flat, compare_field}
use Rattle.fields.specs.Both.{look_both, note_both, moved_by}
use Rattle.machine.specs.Prog.{Prog, done}
use Rattle.machine.specs.Cpu.{Cpu, address}
use Rattle.machine.specs.Pairs.{pair, into_pair}
use Rattle.actions.specs.declared.Now.{Now}
use Rattle.actions.specs.Answered.{cpu_of, told, doing}
use Rattle.quick.specs.declared.Window.{Window}
use Rattle.quick.specs.declared.Here.{Here}
use Rattle.quick.specs.declared.Turn.{Turn}
use Rattle.quick.specs.declared.Turn.TheVariants.{On, Away, Undone}
use Rattle.quick.specs.Places.{counter_at, now_at, Stands}

-- the state's scalars where a run is
abbrev pub now_of : Here → Now
now_of p = now_at p.window p.at p.code p.mask

-- the lists have their sizes
pub record Sized (regs map : List ℕ) : Type 0 where
  pub sixteen : length regs ≡ 16
  pub pages : length map ≡ 512

-- nothing was done: counter and code are said again
pub record Same (p : Here) (q k : ℕ) : Type 0 where
  pub counter : q ≡ counter_at p.window p.at
  pub still : k ≡ p.code

-- an instruction that was done comes to what a program comes to
abbrev pub Comes : (Cpu → Prog Cpu) → Now → Now → (regs mem map regs' mem' map' : List ℕ) → Type 0
Comes prog c n regs mem map regs' mem' map' =
    told (Ok n) regs' c (framed_of mem' map') ≡ doing prog regs c (framed_of mem map)

unfoldable pub Turned : Turn → Here → (Cpu → Prog Cpu) → (regs mem map regs' mem' map' : List ℕ) → Type 0
Turned (On a k) p prog regs mem map regs' mem' map' =
    Comes prog (now_of p) (now_at p.window a k p.mask) regs mem map regs' mem' map' × Stands p.window a
Turned (Away q k) p prog regs mem map regs' mem' map' =
    Comes prog (now_of p) (record { pc = q; code = k; mask = p.mask }) regs mem map regs' mem' map'
Turned (Undone q k) p prog regs mem map regs' mem' map' =
    Same p q k × ((regs' ≡ regs) × ((mem' ≡ mem) × (map' ≡ map)))

-- the same of a program that touches no storage
unfoldable pub Ended : Turn → Here → (Cpu → Prog Cpu) → (regs regs' : List ℕ) → Type 0
Ended (On a k) p prog regs regs' =
    (done (cpu_of regs' (now_at p.window a k p.mask)) ≡ prog (cpu_of regs (now_of p))) × Stands p.window a
Ended (Away q k) p prog regs regs' =
    done (cpu_of regs' (record { pc = q; code = k; mask = p.mask })) ≡ prog (cpu_of regs (now_of p))
Ended (Undone q k) p prog regs regs' = Same p q k × (regs' ≡ regs)

-- a branch's target is a place in the window, or lies elsewhere
unfoldable pub Gone : Turn → Window → (to code : ℕ) → Type 0
Gone (On a k) w to code = (counter_at w a ≡ to) × ((k ≡ code) × Stands w a)
Gone (Away q k) w to code = (q ≡ to) × (k ≡ code)
Gone (Undone q k) w to code = ⊥

-- the address that the halfword at a place names, with the index register named by the right digit of x
abbrev pub address_at : List ℕ → Now → List ℕ → (x at : ℕ) → ℕ
address_at regs c mem x at = address (cpu_of regs c) (right_of x) (base_of (flat mem at 2 0)) (displacement_of (flat mem at 2 0))

-- an operand on its boundary, in a page that has its marks
unfoldable pub FieldLook : Option Spot → List ℕ → ℕ → Access → (n a : ℕ) → Type 0
FieldLook found map size acc n a = IfSome found (λ s. (a % n ≡ 0) × Found map size acc a s.at s.reach)

-- what was found lies in memory
abbrev pub Lies : Option Spot → ℕ → Type 0
Lies found size = IfSome found (λ s. s.at + s.reach ≤ size)

-- a row with one operand in storage: its n bytes were found at i, and what the row changes, registers or memory, is with its code what
-- `work` makes of i; or nothing is changed
pub record Worked (found : Option Spot) (n next : ℕ) (work : ℕ → List ℕ × ℕ) (a k : ℕ) (after : List ℕ) : Type 0 where
  pub i : ℕ
  pub reach : ℕ
  pub there : found ≡ Some (spot i reach)
  pub far : n ≤ reach
  pub on : a ≡ next
  pub changed : after ≡ (work i).0
  pub coded : k ≡ (work i).1

unfoldable pub Did : Turn → Here → Option Spot → (n len : ℕ) → (ℕ → List ℕ × ℕ) → (before after : List ℕ) → Type 0
Did (On a k) p found n len work before after = Worked found n (p.at + len) work a k after
Did (Away q k) p found n len work before after = ⊥
Did (Undone q k) p found n len work before after = Same p q k × (after ≡ before)

-- multiply and divide, whose work may be refused: what is done with the pair and the word found at i
abbrev pub pairs : PairOp → (h1 : ℕ) → (mem : List ℕ) → (i : ℕ) → Cpu → Prog Cpu
pairs op h1 mem i c = into_pair (pair_of op (pair c (left_of h1)) (flat mem i 4 0)) 4 (left_of h1) c

-- a word that was found, and an even register
abbrev pub Paired : Option Spot → Here → Option Spot → Type 0
Paired place p found = IfSome place (λ s. (found ≡ Some s) × ((4 ≤ s.reach) × (left_of p.text % 2 ≡ 0)))

pub record PairWorked (p : Here) (found : Option Spot) (op : PairOp) (h1 : ℕ) (mem regs regs' : List ℕ) (a k : ℕ) : Type 0 where
  pub i : ℕ
  pub reach : ℕ
  pub there : found ≡ Some (spot i reach)
  pub far : 4 ≤ reach
  pub even : left_of h1 % 2 ≡ 0
  pub on : a ≡ p.at + 4
  pub comes : done (cpu_of regs' (now_at p.window a k p.mask)) ≡ pairs op h1 mem i (cpu_of regs (now_of p))

unfoldable pub PairDid : Turn → Here → Option Spot → PairOp → ℕ → (mem regs regs' : List ℕ) → Type 0
PairDid (On a k) p found op h1 mem regs regs' = PairWorked p found op h1 mem regs regs' a k
PairDid (Away q k) p found op h1 mem regs regs' = ⊥
PairDid (Undone q k) p found op h1 mem regs regs' = Same p q k × (regs' ≡ regs)

-- moves and compares: every byte of both fields was found, and what is left is what the byte by byte work leaves
pub record MoveDone (p : Here) (to from n : ℕ) (mem map mem' map' : List ℕ) (a k : ℕ) : Type 0 where
  pub i : ℕ
  pub reach : ℕ
  pub there : look_both map (length mem) Store to from n ≡ At i reach
  pub held : framed_of mem' map' ≡ moved_by (At i reach) mem map to from n
  pub on : a ≡ p.at + 6
  pub still : k ≡ p.code

unfoldable pub Moved : Turn → Here → (to from n : ℕ) → (mem map mem' map' : List ℕ) → Type 0
Moved (On a k) p to from n mem map mem' map' = MoveDone p to from n mem map mem' map' a k
Moved (Away q k) p to from n mem map mem' map' = ⊥
Moved (Undone q k) p to from n mem map mem' map' = Same p q k × ((mem' ≡ mem) × (map' ≡ map))

pub record CompareDone (p : Here) (first second n : ℕ) (mem map map' : List ℕ) (a k : ℕ) : Type 0 where
  pub i : ℕ
  pub reach : ℕ
  pub there : look_both map (length mem) Load first second n ≡ At i reach
  pub order : k ≡ compare_field (framed_of mem (note_both map first second n)) first second n
  pub marks : map' ≡ note_both map first second n
  pub on : a ≡ p.at + 6

unfoldable pub Compared : Turn → Here → (first second n : ℕ) → (mem map map' : List ℕ) → Type 0
Compared (On a k) p first second n mem map map' = CompareDone p first second n mem map map' a k
Compared (Away q k) p first second n mem map map' = ⊥
Compared (Undone q k) p first second n mem map map' = Same p q k × (map' ≡ map)
