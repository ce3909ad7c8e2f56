-- Both fields of a move or a compare, looked up one after the other, and what that leaves.
use Rattle.std.specs.Prelude.{Ok, Err}
use Rattle.std.proofs.Common.{◌≡◌, ℕ, zero, suc, ◌<◌, List, sym, refl, ap, ◌∙◌, arith}
use Rattle.pages.specs.declared.Access.{Access}
use Rattle.pages.specs.declared.Access.TheVariants.{Load}
use Rattle.pages.specs.declared.Cause.{Cause}
use Rattle.pages.specs.Word.{next}
use Rattle.pages.specs.Look.{Look, At, Refused, look_of}
use Rattle.pages.specs.Framed.{framed_of}
use Rattle.fields.specs.Direct.{or_else, look_field, look_fields, look_one, note_field, move_field, compare_field}
use Rattle.fields.specs.Both.{look_both, moved_by, order_of, noted_by}
use Rattle.fields.proofs.Found.{whole_first}
use Rattle.fields.proofs.Cleared.{found_clear}

-- a field that is refused is refused, whatever comes next
module _ (map : List ℕ) (size : ℕ) (acc : Access) (c : Cause) (p : ℕ) where
  stop_any : (r k m b : ℕ) → look_field map size acc b m (At r k) ≡ Refused c p → (rest : Look) → look_field map size acc b m rest ≡ Refused c p
  unfolding look_field
  stop_any r k zero b e rest = absurd (let z : ◌≡◌ {A = ℕ} 0 1 = cc in omega arith)
  stop_any r k (suc m) b e rest = go (look_of map size acc b) e (λ t. stop_any r k m (next b) t rest)
    where
      go : (v : Look) → or_else v (look_field map size acc (next b) m (At r k)) ≡ Refused c p
          → (look_field map size acc (next b) m (At r k) ≡ Refused c p → look_field map size acc (next b) m rest ≡ Refused c p)
          → or_else v (look_field map size acc (next b) m rest) ≡ Refused c p
      go (Ok s) t later = later t
      go (Err e) t later = t

  refused_any : (a n : ℕ) → 0 < n → look_one map size acc a n ≡ Refused c p → (rest : Look) → look_field map size acc a n rest ≡ Refused c p
  unfolding look_one look_field
  refused_any a zero h e rest = absurd (omega arith)
  refused_any a (suc m) h e rest = go (look_of map size acc a) refl e
    where
      go : (v : Look) → look_of map size acc a ≡ v → or_else v (look_field map size acc (next a) m v) ≡ Refused c p
          → or_else v (look_field map size acc (next a) m rest) ≡ Refused c p
      go (Ok s) f t = stop_any s.at s.reach m (next a) t rest
      go (Err e) f t = t

module _ (map : List ℕ) (size : ℕ) (acc : Access) (a b n : ℕ) (h : 0 < n) (there : Look) (e : there ≡ look_one map size acc a n) where
  pub both_first : (c : Cause) (p : ℕ) → there ≡ Refused c p → there ≡ look_both map size acc a b n
  unfolding look_fields
  both_first c p f = f ∙ sym (refused_any map size acc c p a n h (sym e ∙ f) (look_field map size Load b n (look_of map size acc a)))

  module _ (r k : ℕ) (t : there ≡ At r k) (here : Look) (d : here ≡ look_one map size Load b n) where
    pub both_second : (c : Cause) (p : ℕ) → here ≡ Refused c p → here ≡ look_both map size acc a b n
    unfolding look_fields
    both_second c p f =
        f
        ∙ sym
        (found_clear map size acc a n r k (sym e ∙ t) (look_field map size Load b n (look_of map size acc a))
        ∙ refused_any map size Load c p b n h (sym d ∙ f) (look_of map size acc a))

    pub both_there : (q j : ℕ) → here ≡ At q j → there ≡ look_both map size acc a b n
    unfolding look_fields
    both_there q j f =
        t
        ∙ sym (whole_first map size acc a n r k (sym e ∙ t))
        ∙ sym
        (found_clear map size acc a n r k (sym e ∙ t) (look_field map size Load b n (look_of map size acc a))
        ∙ found_clear map size Load b n q j (sym d ∙ f) (look_of map size acc a))

-- what it leaves, by how it ends
module _ (mem map : List ℕ) (a b n : ℕ) (found : Look) where
  pub moved_no : (c : Cause) (p : ℕ) → found ≡ Refused c p → framed_of mem map ≡ moved_by found mem map a b n
  moved_no c p f = sym (ap (λ (l : Look). moved_by l mem map a b n) f)

  pub moved_yes : (r k : ℕ) → found ≡ At r k → (map' map'' mem''' map''' : List ℕ) → map' ≡ note_field map a n → map'' ≡ note_field map' b n
      → framed_of mem''' map''' ≡ move_field (framed_of mem map'') a b n → framed_of mem''' map''' ≡ moved_by found mem map a b n
  moved_yes r k f map' map'' mem''' map''' e g m = m ∙ rw (g, e) (sym (ap (λ (l : Look). moved_by l mem map a b n) f))

  module _ (look : Look) (s : found ≡ look) where
    pub order_no : (c : Cause) (p : ℕ) → found ≡ Refused c p → (Err (record { cause = c; place = p }) ≡ order_of look mem map a b n) × (map ≡ noted_by look map a b n)
    order_no c p f =
        (ap (λ (l : Look). order_of l mem map a b n) (sym f ∙ s), ap (λ (l : Look). noted_by l map a b n) (sym f ∙ s))

    pub order_yes : (r k : ℕ) → found ≡ At r k → (map' map'' : List ℕ) → map' ≡ note_field map a n → map'' ≡ note_field map' b n
        → (v : ℕ) → v ≡ compare_field (framed_of mem map'') a b n → (Ok v ≡ order_of look mem map a b n) × (map'' ≡ noted_by look map a b n)
    order_yes r k f map' map'' e g v w =
        (ap Ok (w ∙ rw (g, e)) ∙ ap (λ (l : Look). order_of l mem map a b n) (sym f ∙ s), rw (g, e) (ap (λ (l : Look). noted_by l map a b n) (sym f ∙ s)))
