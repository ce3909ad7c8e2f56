-- The rows with an operand in storage, done: what each has in hand is the work that its promise names.
use Prim.Native.Nat.{ℕ, ◌+◌, ◌*◌, ◌/◌, ◌%◌, ◌≤◌}
use native.Mathlib.Omega.{arith}
use mathlib.Core.Path.{◌≡◌, refl, ◌∙◌, ap, subst}
use mathlib.Core.List.{List}
use lib.ListN.{get_or, set}
use Rattle.words.specs.declared.Alu.{Alu}
use Rattle.words.specs.declared.Res.{Res}
use Rattle.words.specs.Whole.{spread}
use Rattle.words.specs.Combine.{combine_of, result_of}
use Rattle.pages.specs.declared.Spot.{Spot}
use Rattle.pages.specs.Look.{spot}
use Rattle.code.specs.declared.Operand.{Operand}
use Rattle.code.specs.declared.Operand.TheVariants.{WordWith, HalfWith, ByteInserted}
use Rattle.code.specs.declared.RsFields.{RsFields}
use Rattle.code.specs.Formats.{left_of, rs_of}
use Rattle.machine.specs.Fields.{bytes_of}
use Rattle.machine.specs.Rx.{width_of, taken}
use Rattle.machine.specs.Rs.{how_many}
use Rattle.machine.specs.Pairs.{pair, into_pair}
use Rattle.words.specs.declared.PairOp.{PairOp}
use Rattle.words.specs.Wide.{pair_of}
use Rattle.fields.specs.Direct.{flat}
use Rattle.rs_ss.specs.Multiple.{filled_at, spilled_at}
use Rattle.actions.specs.declared.Now.{Now}
use Rattle.std.specs.Prelude.{Option, Some, Ok}
use Rattle.actions.specs.Answered.{Out, cpu_of, AnswersTo}
use Rattle.quick.specs.declared.Here.{Here}
use Rattle.quick.specs.declared.Turn.{Turn}
use Rattle.quick.specs.declared.Turn.TheVariants.{On, Undone}
use Rattle.quick.specs.Places.{counter_at}
use Rattle.quick.specs.Turns.{now_of, Lies, Ended, Did, pairs, Paired, PairDid}
use Rattle.quick.specs.Work.{taken_at, loads, many_of}
use Rattle.quick.proofs.Answered.{same_here, did_on, lies_room, paired_plain}

pub flat_one : (mem : List ℕ) (i : ℕ) → flat mem i 1 0 ≡ get_or mem i 0
unfolding flat
flat_one mem i = omega arith

module _ (h1 code : ℕ) (mem regs : List ℕ) (i a : ℕ) (ea : a ≡ get_or regs (left_of h1) 0) (res : Res ℕ) where
  pub word_taken : (op : Alu) (v : ℕ) → v ≡ flat mem i 4 0 → res ≡ combine_of op a v code → res ≡ taken_at (WordWith op) h1 code mem regs i
  unfolding taken
  word_taken op v ev er = rw (er, ea, ev)

  pub half_taken : (op : Alu) (h v : ℕ) → h ≡ flat mem i 2 0 → v ≡ spread h → res ≡ combine_of op a v code
      → res ≡ taken_at (HalfWith op) h1 code mem regs i
  unfolding taken
  half_taken op h v eh ev er = rw (er, ea, ev, eh)

  pub byte_taken : (b : ℕ) → b ≡ get_or mem i 0 → res ≡ result_of (a / 256 * 256 + b) code → res ≡ taken_at ByteInserted h1 code mem regs i
  unfolding taken
  byte_taken b eb er = rw (er, ea, eb, flat_one mem i)

pub took : (p : Here) (found : Option Spot) (i reach : ℕ) → found ≡ Some (spot i reach) → (mem regs regs' : List ℕ) (res : Res ℕ) (op : Operand)
    → bytes_of (width_of op) ≤ reach → res ≡ taken_at op p.text p.code mem regs i → regs' ≡ set regs (left_of p.text) res.value
    → Did (On (p.at + 4) res.code) p found (bytes_of (width_of op)) 4 (loads op p.text p.code mem regs) regs regs'
took p found i reach e mem regs regs' res op far er eg =
    did_on p found (bytes_of (width_of op)) 4 (loads op p.text p.code mem regs) regs regs' res.code i reach e far
    (eg ∙ ap (λ (x : Res ℕ). set regs (left_of p.text) x.value) er) (ap (λ (x : Res ℕ). x.code) er)

-- how many registers, and their words
module _ (h1 : ℕ) (f : RsFields) (ef : f ≡ rs_of h1 0) (n : ℕ) (en : n ≡ how_many f) where
  count_is : n ≡ many_of h1
  count_is = en ∙ ap how_many ef

  pub many_is : (reach : ℕ) → n * 4 ≤ reach → many_of h1 * 4 ≤ reach
  many_is reach h = rw (← count_is) h

  pub fills_is : (mem regs : List ℕ) (i : ℕ) (regs' : List ℕ) → regs' ≡ filled_at mem n f.r1 i regs → regs' ≡ filled_at mem (many_of h1) (left_of h1) i regs
  fills_is mem regs i regs' e = rw (← count_is, ← (ap (λ (g : RsFields). g.r1) ef)) e

  pub spills_is : (regs mem : List ℕ) (i : ℕ) (mem' : List ℕ) → mem' ≡ spilled_at regs n f.r1 i mem → mem' ≡ spilled_at regs (many_of h1) (left_of h1) i mem
  spills_is regs mem i mem' e = rw (← count_is, ← (ap (λ (g : RsFields). g.r1) ef)) e

-- multiply and divide
pub even_digit : (h1 : ℕ) → h1 / 16 % 2 ≡ 0 → left_of h1 % 2 ≡ 0
even_digit h1 e = omega arith

pub pair_not : (p : Here) (r : Turn) → r ≡ Undone (counter_at p.window p.at) p.code → (found : Option Spot) (op : PairOp) (h1 : ℕ) (mem regs regs' : List ℕ)
    → regs' ≡ regs → PairDid r p found op h1 mem regs regs'
unfolding PairDid
pair_not p r e found op h1 mem regs regs' er = rw e (same_here p, er)

module _ (p : Here) (found place : Option Spot) (i : ℕ) (k : ℕ) (h : Paired place p found) (e : place ≡ Some (spot i k)) where
  paired_is : Paired (Some (spot i k)) p found
  paired_is = rw e at h

  pub pair_room : (size : ℕ) → Lies found size → i + 4 ≤ size
  pair_room size l = lies_room found size i k 4 l paired_is.0 paired_is.1.0

pub pair_on : (p : Here) → (found place : Option Spot) (i k : ℕ) → Paired place p found → place ≡ Some (spot i k) → (op : PairOp) (mem regs regs' : List ℕ) (b : ℕ)
    → b ≡ flat mem i 4 0 → (o : Out) (n : Now) → o ≡ Ok n → (c : Now) → c ≡ now_of p
    → AnswersTo o regs regs' (into_pair (pair_of op (pair (cpu_of regs c) (left_of p.text)) b) 4 (left_of p.text) (cpu_of regs c))
    → PairDid (On (p.at + 4) n.code) p found op p.text mem regs regs'
unfolding PairDid Ended
pair_on p found place i k h e op mem regs regs' b eb o n eo c ec a =
    record { i = i; reach = k; there = q.0; far = q.1.0; even = q.1.1; on = refl; comes = ended.0 }
  where
    q : Paired (Some (spot i k)) p found
    q = rw e at h

    ended : Ended (On (p.at + 4) n.code) p (pairs op p.text mem i) regs regs'
    ended =
        paired_plain p regs regs' 4 refl (omega arith) o n eo c ec (pairs op p.text mem i) (left_of p.text) _ refl
        (subst (λ (x : ℕ). AnswersTo o regs regs' (into_pair (pair_of op (pair (cpu_of regs c) (left_of p.text)) x) 4 (left_of p.text) (cpu_of regs c))) eb a)
