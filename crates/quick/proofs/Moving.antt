-- Moves and compares: both fields reached by their first look-ups, in pages that have their marks; or over an edge.
use Prim.Native.Nat.{ℕ, suc, ◌+◌, ◌<◌, ◌≤◌}
use native.Mathlib.Omega.{arith}
use mathlib.Core.Path.{◌≡◌, refl, sym, ◌∙◌, ap}
use mathlib.Core.List.{List}
use lib.ListN.{length}
use Rattle.std.specs.Prelude.{Ok, Err}
use Rattle.pages.specs.declared.Access.TheVariants.{Load, Store}
use Rattle.pages.specs.declared.Refusal.{Refusal}
use Rattle.pages.specs.Look.{Look, At}
use Rattle.pages.specs.Framed.{Framed, framed_of}
use Rattle.pages.proofs.ReachLaws.{reach_inside}
use Rattle.pages.specs.declared.Access.{Access}
use Rattle.lookup.specs.Marked.{Found}
use Rattle.fields.specs.Direct.{note_field, move_field, compare_field, flat_move, flat_compare}
use Rattle.fields.specs.Both.{Order, look_both, note_both, moved_by, order_of, noted_by}
use Rattle.rs_ss.proofs.BothReached.{both_found, field_noted, both_moved, both_compared}
use Rattle.quick.specs.declared.Here.{Here}
use Rattle.quick.specs.declared.Turn.{Turn}
use Rattle.quick.specs.declared.Turn.TheVariants.{On, Undone}
use Rattle.quick.specs.Places.{counter_at}
use Rattle.quick.specs.Turns.{Moved, Compared}
use Rattle.quick.proofs.Answered.{same_here}

pub marked_room : (map : List ℕ) (size : ℕ) (acc : Access) (a r k n : ℕ) → Found map size acc a r k → n ≤ k → r + n ≤ size
marked_room map size acc a r k n f h = let g = reach_inside map size acc a r k f.there in omega (arith, g, h)

-- nothing done
module _ (p : Here) (r : Turn) (e : r ≡ Undone (counter_at p.window p.at) p.code) where
  pub moved_not : (to from n : ℕ) (mem map mem' map' : List ℕ) → mem' ≡ mem → map' ≡ map → Moved r p to from n mem map mem' map'
  unfolding Moved
  moved_not to from n mem map mem' map' em ep = rw e (same_here p, (em, ep))

  pub compared_not : (first second n : ℕ) (mem map map' : List ℕ) → map' ≡ map → Compared r p first second n mem map map'
  unfolding Compared
  compared_not first second n mem map map' ep = rw e (same_here p, ep)

-- what a refused move leaves
pub refused_mem : (found : Look) (q : Refusal) (mem map mem' map' : List ℕ) (to from n : ℕ) → framed_of mem' map' ≡ moved_by found mem map to from n
    → found ≡ Err q → (mem' ≡ mem) × (map' ≡ map)
refused_mem found q mem map mem' map' to from n h e =
    let k : framed_of mem' map' ≡ framed_of mem map = h ∙ ap (λ (x : Look). moved_by x mem map to from n) e in
    (ap (λ (s : Framed). s.mem) k, ap (λ (s : Framed). s.map) k)

pub barred_look : (look : Look) (order : Order) (mem map map' : List ℕ) (a b n : ℕ) (q : Refusal) → order ≡ order_of look mem map a b n → order ≡ Err q
    → map' ≡ noted_by look map a b n → map' ≡ map
barred_look (Ok s) order mem map map' a b n q e f m = absurd (let z : ◌≡◌ {A = ℕ} 0 1 = cc in omega arith)
barred_look (Err r) order mem map map' a b n q e f m = m

-- n bytes, as L says
module _ (p : Here) (a b n l : ℕ) (en : n ≡ suc l) (mem map : List ℕ) where
  pub moved_over : (found : Look) (i reach : ℕ) → found ≡ look_both map (length mem) Store a b n → found ≡ At i reach → (mem' map' : List ℕ)
      → framed_of mem' map' ≡ moved_by found mem map a b n → Moved (On (p.at + 6) p.code) p a b (suc l) mem map mem' map'
  unfolding Moved
  moved_over found i reach e f mem' map' m =
      record {
        i = i;
        reach = reach;
        there = rw (← en) (sym e ∙ f);
        held = rw (← en) (m ∙ ap (λ (x : Look). moved_by x mem map a b n) f);
        on = refl;
        still = refl;
      }

  pub compared_over : (look : Look) (order : Order) (k : ℕ) → look ≡ look_both map (length mem) Load a b n → order ≡ order_of look mem map a b n → order ≡ Ok k
      → (map' : List ℕ) → map' ≡ noted_by look map a b n → Compared (On (p.at + 6) k) p a b (suc l) mem map map'
  unfolding Compared
  compared_over (Ok s) order k e f g map' m =
      record {
        i = s.at;
        reach = s.reach;
        there = rw (← en) (sym e);
        order = rw (← en) (codes k _ (sym g ∙ f));
        marks = rw (← en) m;
        on = refl;
      }
    where
      codes : (x y : ℕ) → ◌≡◌ {A = Order} (Ok x) (Ok y) → x ≡ y
      codes x y z = cc
  compared_over (Err q) order k e f g map' m = absurd (let z : ◌≡◌ {A = ℕ} 0 1 = cc in omega arith)

  -- both reached
  module _ (x room y more : ℕ) (far : n ≤ room) (far' : n ≤ more) (here : Found map (length mem) Load b y more) where
    some : 0 < n
    some = omega arith

    pub moved_flat : Found map (length mem) Store a x room → (mem' : List ℕ) → mem' ≡ flat_move mem x y n → Moved (On (p.at + 6) p.code) p a b (suc l) mem map mem' map
    moved_flat there mem' em =
        moved_over (At x room) x room found refl mem' map
        (both_moved mem map a b n (At x room) (At y more) (sym here.there) x room y more refl refl far far' map map n1 n2 (sym there.there) some mem' map em (there.written refl)
        ∙ ap (λ (m : List ℕ). move_field (framed_of mem m) a b n) both)
      where
        n1 : map ≡ note_field map a n
        n1 = field_noted map (length mem) Store a x room n (At x room) (sym there.there) refl some far map map there.accessed

        n2 : map ≡ note_field map b n
        n2 = field_noted map (length mem) Load b y more n (At y more) (sym here.there) refl some far' map map here.accessed

        both : map ≡ note_both map a b n
        both = n2 ∙ ap (λ (m : List ℕ). note_field m b n) n1

        found : At x room ≡ look_both map (length mem) Store a b n
        found =
            both_found map (length mem) (record { access = Store; at = a; len = n }) (record { access = Load; at = b; len = n }) (At x room) (sym there.there) x room refl far (At y more) (sym here.there) y more refl far'

    pub compared_flat : Found map (length mem) Load a x room → (k : ℕ) → k ≡ flat_compare mem x y n → Compared (On (p.at + 6) k) p a b (suc l) mem map map
    compared_flat there k ek =
        compared_over (At x room) (Ok k) k found
        (ap Ok (both_compared mem map a b n (At x room) (At y more) (sym here.there) x room y more refl refl far far' map map n1 n2 (sym there.there) k ek ∙ ap (λ (m : List ℕ). compare_field (framed_of mem m) a b n) both)) refl map both
      where
        n1 : map ≡ note_field map a n
        n1 = field_noted map (length mem) Load a x room n (At x room) (sym there.there) refl some far map map there.accessed

        n2 : map ≡ note_field map b n
        n2 = field_noted map (length mem) Load b y more n (At y more) (sym here.there) refl some far' map map here.accessed

        both : map ≡ note_both map a b n
        both = n2 ∙ ap (λ (m : List ℕ). note_field m b n) n1

        found : At x room ≡ look_both map (length mem) Load a b n
        found =
            both_found map (length mem) (record { access = Load; at = a; len = n }) (record { access = Load; at = b; len = n }) (At x room) (sym there.there) x room refl far (At y more) (sym here.there) y more refl far'

-- with the addresses as the definition has them
pub moved_at : (t : Turn) (p : Here) (a a' b b' n : ℕ) (mem map mem' map' : List ℕ) → a ≡ a' → b ≡ b' → Moved t p a b n mem map mem' map' → Moved t p a' b' n mem map mem' map'
moved_at t p a a' b b' n mem map mem' map' e f h = rw (← e, ← f) h

pub compared_at : (t : Turn) (p : Here) (a a' b b' n : ℕ) (mem map map' : List ℕ) → a ≡ a' → b ≡ b' → Compared t p a b n mem map map' → Compared t p a' b' n mem map map'
compared_at t p a a' b b' n mem map map' e f h = rw (← e, ← f) h
