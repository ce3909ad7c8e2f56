-- Two fields, by the look-ups of their first bytes: refused at the first, or reached whole, and then moved or compared by real address.
use Prim.Native.Nat.{ℕ, ◌<◌, ◌≤◌}
use native.Mathlib.Omega.{arith}
use mathlib.Core.Path.{◌≡◌, refl, sym, ◌∙◌, ap}
use mathlib.Core.List.{List, [], ◌∷◌}
use lib.ListN.{length}
use Rattle.pages.specs.declared.Access.{Access}
use Rattle.pages.specs.declared.Access.TheVariants.{Load, Store}
use Rattle.pages.specs.declared.Cause.{Cause}
use Rattle.pages.specs.Look.{Look, At, Refused, look_of}
use Rattle.pages.specs.Framed.{framed_of, accessed_at, written_at}
use Rattle.pages.proofs.ReachLaws.{reach_below, reach_fits}
use Rattle.fields.specs.declared.Field.{Field}
use Rattle.fields.specs.Direct.{look_fields, note_field, move_field, compare_field, flat_move, flat_compare}
use Rattle.fields.proofs.ByteLoops.{look_stop}
use Rattle.fields.proofs.Found.{note_blind}
use Rattle.fields.proofs.MarkedOnce.{note_once}
use Rattle.fields.proofs.Reached.{reach_clear, reach_move, reach_compare}

-- looked up
module _ (map : List ℕ) (size : ℕ) (f g : Field) (one : Look) (e : one ≡ look_of map size f.access f.at) where
  pub first_refused : 0 < f.len → (rest : Look) (c : Cause) (p : ℕ) → one ≡ Refused c p → one ≡ look_fields map size (f ∷ g ∷ []) rest
  unfolding look_fields
  first_refused h rest c p r = look_stop map size f.access f.at _ one e f.len h c p r

  module _ (x k : ℕ) (t : one ≡ At x k) (h : f.len ≤ k) (two : Look) (d : two ≡ look_of map size g.access g.at) where
    pub both_found : (y j : ℕ) → two ≡ At y j → g.len ≤ j → one ≡ look_fields map size (f ∷ g ∷ []) (look_of map size f.access f.at)
    unfolding look_fields
    both_found y j s l =
        e
        ∙ sym (reach_clear map size g.access g.at y j (sym d ∙ s) g.len l (look_of map size f.access f.at))
        ∙ sym (reach_clear map size f.access f.at x k (sym e ∙ t) f.len h _)

-- marked, once a field
pub field_noted : (map : List ℕ) (size : ℕ) (acc : Access) (a r k n : ℕ) (one : Look) → one ≡ look_of map size acc a → one ≡ At r k → 0 < n → n ≤ k
    → (map₀ map' : List ℕ) → map' ≡ accessed_at map₀ a → map' ≡ note_field map₀ a n
field_noted map size acc a r k n one e t p h map₀ map' m =
    let b = reach_below map size acc a r k (sym e ∙ t) in
    let i = reach_fits map size acc a r k (sym e ∙ t) in
    m ∙ note_once map₀ a n p (omega arith) (omega arith)

-- what is found is found when both are marked
still : (map : List ℕ) (size : ℕ) (acc : Access) (a r k : ℕ) (one : Look) → one ≡ look_of map size acc a → one ≡ At r k
    → (b c n : ℕ) (map' map'' : List ℕ) → map' ≡ note_field map b n → map'' ≡ note_field map' c n → look_of map'' size acc a ≡ At r k
still map size acc a r k one e t b c n map' map'' m1 m2 =
    ap (λ (x : List ℕ). look_of x size acc a) m2
    ∙ note_blind map' c n size acc a
    ∙ ap (λ (x : List ℕ). look_of x size acc a) m1
    ∙ note_blind map b n size acc a
    ∙ sym e
    ∙ t

module _ (mem map : List ℕ) (a b n : ℕ) (one two : Look) (f : two ≡ look_of map (length mem) Load b) (x k y j : ℕ) (t : one ≡ At x k) (u : two ≡ At y j) (h : n ≤ k) (l : n ≤ j)
    (map' map'' : List ℕ) (m1 : map' ≡ note_field map a n) (m2 : map'' ≡ note_field map' b n) where
  pub both_moved : one ≡ look_of map (length mem) Store a → 0 < n → (mem' map''' : List ℕ) → mem' ≡ flat_move mem x y n → map''' ≡ written_at map'' a
      → framed_of mem' map''' ≡ move_field (framed_of mem map'') a b n
  both_moved e p mem' map''' em en =
      rw (em, en)
      (reach_move map'' (length mem) a b x y k j (still map (length mem) Store a x k one e t a b n map' map'' m1 m2) (still map (length mem) Load b y j two f u a b n map' map'' m1 m2) mem refl n p h l)

  pub both_compared : one ≡ look_of map (length mem) Load a → (v : ℕ) → v ≡ flat_compare mem x y n → v ≡ compare_field (framed_of mem map'') a b n
  both_compared e v ev =
      ev
      ∙ reach_compare mem map'' a b x y k j (still map (length mem) Load a x k one e t a b n map' map'' m1 m2) (still map (length mem) Load b y j two f u a b n map' map'' m1 m2) n h l
