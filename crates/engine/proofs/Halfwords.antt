-- A halfword of the instruction, by its look-up: refused, or fetched, and then the rest from where its marks are set.
use Prim.Native.Nat.{ℕ, ◌+◌, ◌/◌, ◌≤◌}
use native.Mathlib.Omega.{arith}
use native.Mathlib.Nat.{add-zero}
use mathlib.Core.Path.{◌≡◌, refl, sym, ◌∙◌, ap}
use mathlib.Core.Bool.{Bool, true, false}
use mathlib.Core.List.{List}
use lib.ListN.{length}
use Rattle.std.specs.Prelude.{Option, Some, None, Ok, Err}
use Rattle.pages.specs.declared.Access.TheVariants.{Fetch}
use Rattle.pages.specs.declared.Refusal.{Refusal}
use Rattle.pages.specs.Word.{next, page_of, accessed}
use Rattle.pages.specs.Tests.{number_of}
use Rattle.pages.specs.Look.{Look, At, look_of, verdict_of}
use Rattle.pages.specs.Framed.{Framed, framed_of, accessed_at, noted}
use Rattle.pages.proofs.LookLaws.{refused_place, any_load}
use Rattle.pages.proofs.ReachLaws.{reach_behind, reach_inside, reach_next, reach_page}
use Rattle.pages.proofs.Marks.{look_quiet, accessed_quiet, accessed_again}
use Rattle.code.specs.declared.Action.{Action}
use Rattle.code.specs.declared.Action.TheVariants.{Rr, Rx, Rs, Si, Ss}
use Rattle.code.specs.Table.{action_of}
use Rattle.code.specs.Formats.{op_of, length_of}
use Rattle.machine.specs.Prog.{Prog, done, Answer, finished, refused, interp}
use Rattle.machine.specs.Fields.{halfword}
use Rattle.machine.specs.Store.{framed}
use Rattle.machine.proofs.MarksLast.{blind}
use Rattle.machine.proofs.Fetches.{then_on, half_then, half_refused, half_cut, half_fetched}
use Rattle.fields.specs.Direct.{or_else, look_field, look_one, read_field, flat}
use Rattle.fields.proofs.Bridge.{after_look, gets_is}
use Rattle.fields.proofs.Reached.{reach_one, reach_read}
use Rattle.fields.proofs.Found.{whole_first}
use Rattle.engine.specs.Entry.{halves_of, marked_if, half_marks, wanted_half, halving, halved}

-- what follows a look-up that has set its marks: a refusal, or the rest, both from the store as it is
abbrev pub from_there : {R : Type 0} → Look → ℕ → (ℕ → Prog R) → Framed → Answer R Framed
from_there l a k s = after_look l (λ t. interp framed (k (read_field t a 2 0)) t t) s s

module _ {R : Type 0} (mem map : List ℕ) (a : ℕ) (k : ℕ → Prog R) where
  pub half_comes : interp framed (halfword a k) (framed_of mem map) (framed_of mem map)
      ≡ from_there (look_one map (length mem) Fetch a 2) a k (framed_of mem (half_marks map (length mem) a))
  unfolding look_one look_field half_marks read_field
  half_comes = go (look_of map (length mem) Fetch a) refl (look_of map (length mem) Fetch (next a)) refl
    where
      go : (l : Look) → look_of map (length mem) Fetch a ≡ l → (m : Look) → look_of map (length mem) Fetch (next a) ≡ m
          → interp framed (halfword a k) (framed_of mem map) (framed_of mem map)
          ≡ from_there (or_else l (or_else m l)) a k
          (framed_of mem (marked_if l (marked_if m (accessed_at (accessed_at map a) (next a)) (accessed_at map a)) map))
      go (Err q) e m f =
          half_refused framed a k (framed_of mem map) q.cause (ap verdict_of e)
          ∙ ap (λ (x : ℕ). refused (number_of q.cause) x (framed_of mem map)) (refused_place map (length mem) Fetch a q.cause q.place e)
      go (Ok s) e (Err q) f =
          half_cut framed a k (framed_of mem map) (ap verdict_of e) q.cause (ap verdict_of (blind (framed_of mem map) a Fetch (next a) ∙ f))
          ∙ ap (λ (x : ℕ). refused (number_of q.cause) x (noted (framed_of mem map) a)) (refused_place map (length mem) Fetch (next a) q.cause q.place f)
      go (Ok s) e (Ok t) f =
          half_fetched framed a k (framed_of mem map) (ap verdict_of e) (ap verdict_of (blind (framed_of mem map) a Fetch (next a) ∙ f))

-- one that the operation has or lacks, in front of what is done with it
pub wanted_then : {R : Type 0} (b : Bool) (a : ℕ) (k : ℕ → Prog R) (s : Framed)
    → interp framed (wanted_half b a k) s s ≡ then_on (halving b a s) (λ h t. interp framed (k h) t t)
unfolding interp
wanted_then true a k s = half_then framed a k s
wanted_then false a k s =
    gets_is a 2 0 k s s
    ∙ sym (ap (λ (x : Answer ℕ Framed). then_on x (λ h t. interp framed (k h) t t)) (gets_is a 2 0 done s s))

-- a halfword in front of two programs of which one is the other and something more
pub half_more : {R T : Type 0} (a : ℕ) (j : ℕ → Prog R) (k : ℕ → Prog T) (go : R → Framed → Answer T Framed)
    → ((h : ℕ) (t : Framed) → interp framed (k h) t t ≡ then_on (interp framed (j h) t t) go)
    → (s : Framed) → interp framed (halfword a k) s s ≡ then_on (interp framed (halfword a j) s s) go
half_more a j k go f s =
    half_then framed a k s
    ∙ by_half (interp framed (halfword a done) s s)
    ∙ ap (λ (x : Answer _ Framed). then_on x go) (sym (half_then framed a j s))
  where
    by_half : (x : Answer ℕ Framed)
        → then_on x (λ h t. interp framed (k h) t t) ≡ then_on (then_on x (λ h t. interp framed (j h) t t)) go
    by_half (finished h t) = f h t
    by_half (refused n b t) = refl

-- the byte behind one from which two are reached
next_one : (map : List ℕ) (size a x k : ℕ) → look_of map size Fetch a ≡ At x k → 2 ≤ k → next a ≡ a + 1
next_one map size a x k g h = ap next (sym (add-zero a)) ∙ reach_next map size Fetch a x k g 0 (omega arith)

-- a halfword's look-up, by its way out
module _ (map : List ℕ) (size a : ℕ) (first : Look) (e1 : first ≡ look_of map size Fetch a) where
  pub look_first : (q : Refusal) → first ≡ Err q → (first ≡ look_one map size Fetch a 2) × (map ≡ half_marks map size a)
  unfolding look_one look_field half_marks
  look_first q f = (rw (← e1, f), rw (← e1, f))

  module _ (x k : ℕ) (f1 : first ≡ At x k) (map1 : List ℕ) (m1 : map1 ≡ accessed_at map a) where
    -- the first look-up reaches both bytes
    pub look_reached : 2 ≤ k → (At x k ≡ look_one map size Fetch a 2) × (map1 ≡ half_marks map size a)
    unfolding half_marks
    look_reached h =
        let g : look_of map size Fetch a ≡ At x k = sym e1 ∙ f1 in
        let n : next a ≡ a + 1 = next_one map size a x k g h in
        (reach_one map size Fetch a x k g 2 h, rw (g, n, reach_behind map size Fetch a x k g 1 h) (m1 ∙ sym (accessed_again map a (a + 1) (reach_page map size Fetch a x k g 1 h))))

    module _ (behind : ℕ) (eb : behind ≡ next a) (second : Look) (e2 : second ≡ look_of map1 size Fetch behind) where
      unmarked : second ≡ look_of map size Fetch (next a)
      unmarked =
          e2
          ∙ rw (m1, eb) (unfold accessed_at in look_quiet accessed accessed_quiet map (page_of a) size Fetch (next a))

      pub look_second : (q : Refusal) → second ≡ Err q → (second ≡ look_one map size Fetch a 2) × (map1 ≡ half_marks map size a)
      unfolding look_one look_field half_marks
      look_second q f = (rw (← e1, f1, ← unmarked, f), rw (← e1, f1, ← unmarked, f) m1)

      pub look_both_lem : (y z : ℕ) (map2 : List ℕ) → second ≡ At y z → map2 ≡ accessed_at map1 behind
          → (At x k ≡ look_one map size Fetch a 2) × (map2 ≡ half_marks map size a)
      unfolding look_one look_field half_marks
      look_both_lem y z map2 f m2 = (rw (← e1, f1, ← unmarked, f), rw (← e1, f1, ← unmarked, f) (m2 ∙ rw (m1, eb)))

-- the marks of a halfword are not seen
quiet : (map : List ℕ) (size a b : ℕ) → look_of (accessed_at map a) size Fetch b ≡ look_of map size Fetch b
unfolding accessed_at
quiet map size a b = look_quiet accessed accessed_quiet map (page_of a) size Fetch b

half_quiet : (map : List ℕ) (size a b : ℕ) → look_of (half_marks map size a) size Fetch b ≡ look_of map size Fetch b
unfolding half_marks
half_quiet map size a b = go (look_of map size Fetch a) (look_of map size Fetch (next a))
  where
    go : (l m : Look) → look_of (marked_if l (marked_if m (accessed_at (accessed_at map a) (next a)) (accessed_at map a)) map) size Fetch b ≡ look_of map size Fetch b
    go (Err e) m = refl
    go (Ok s) (Err e) = quiet map size a b
    go (Ok s) (Ok t) = quiet (accessed_at map a) size (next a) b ∙ quiet map size a b

-- so a halfword stays where its look-up found it
there_still : (map : List ℕ) (size a : ℕ) (l : Look) (map' : List ℕ) → l ≡ look_one map size Fetch a 2 → map' ≡ half_marks map size a
    → (r k : ℕ) → l ≡ At r k → look_of map' size Fetch a ≡ At r k
there_still map size a l map' e m r k f =
    ap (λ (x : List ℕ). look_of x size Fetch a) m ∙ half_quiet map size a a ∙ whole_first map size Fetch a 2 r k (sym e ∙ f)

-- a halfword by its way out: lacked, refused, or found and read
pub half_lacked : (mem map : List ℕ) (b : Bool) (a h : ℕ) → b ≡ false → h ≡ read_field (framed_of mem map) a 2 0
    → halved (Ok h) (framed_of mem map) ≡ halving b a (framed_of mem map)
unfolding interp
half_lacked mem map b a h eb eh = rw (eb, eh) (sym (gets_is a 2 0 done (framed_of mem map) (framed_of mem map)))

module _ (mem map : List ℕ) (b : Bool) (eb : b ≡ true) (a : ℕ) (l : Look) (map' : List ℕ) (e : l ≡ look_one map (length mem) Fetch a 2) (m : map' ≡ half_marks map (length mem) a) where
  pub half_not : (q : Refusal) → l ≡ Err q → halved (Err q) (framed_of mem map') ≡ halving b a (framed_of mem map)
  half_not q f = rw eb (sym (half_comes mem map a done ∙ rw (← e, f, ← m)))

  module _ (r k : ℕ) (f : l ≡ At r k) where
    pub half_had : (h : ℕ) → h ≡ read_field (framed_of mem map') a 2 0 → halved (Ok h) (framed_of mem map') ≡ halving b a (framed_of mem map)
    unfolding interp
    half_had h eh = rw (eb, eh) (sym (half_comes mem map a done ∙ rw (← e, f, ← m)))

    there : look_of map' (length mem) Fetch a ≡ At r k
    there = there_still map (length mem) a l map' e m r k f

    pub half_inside : 2 ≤ k → r + 2 ≤ length mem
    half_inside h = omega (arith, reach_inside map' (length mem) Fetch a r k there)

    pub half_reached : 2 ≤ k → (h : ℕ) → h ≡ flat mem r 2 0 → halved (Ok h) (framed_of mem map') ≡ halving b a (framed_of mem map)
    half_reached w h eh = half_had h (eh ∙ reach_read mem map' a r k (any_load map' (length mem) Fetch a r k there) 2 w 0)

-- how many halfwords are fetched, by what the first one names
pub length_small : (x : Action) (n : ℕ) → n ≡ length_of x → n ≤ 6
length_small (Rr x) n e = omega arith
length_small (Rx x) n e = omega arith
length_small (Rs x) n e = omega arith
length_small (Si x) n e = omega arith
length_small (Ss x) n e = omega arith

module _ (h1 : ℕ) (found : Option Action) (e : found ≡ action_of (op_of h1)) where
  pub halves_one : found ≡ None → 1 ≡ halves_of h1
  halves_one u = rw (← e, u)

  pub halves_known : (x : Action) (n : ℕ) → found ≡ Some x → n ≡ length_of x → n / 2 ≡ halves_of h1
  halves_known x n k l = rw (← e, k, l)
