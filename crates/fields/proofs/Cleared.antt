-- A field of which no byte is refused: behind a piece of it the rest is such a field, and on a boundary of 4 its first word is reached whole.
use Rattle.std.specs.Prelude.{Ok, Err}
use Rattle.std.proofs.Common.{◌≡◌, ℕ, zero, suc, ◌+◌, ◌-◌, ◌%◌, ◌<◌, ◌≤◌, List, sym, refl, ap, ◌∙◌, arith}
use Rattle.pages.specs.declared.Access.{Access}
use Rattle.pages.specs.declared.Cause.{Cause}
use Rattle.words.proofs.Choice.{by_order}
use Rattle.pages.specs.Word.{page_of, next}
use Rattle.pages.specs.Look.{Look, At, Refused, look_of, verdict_of}
use Rattle.pages.proofs.ReachLaws.{reach_some, reach_below, reach_fits, reach_page, reach_behind, reach_largest}
use Rattle.fields.specs.Direct.{or_else, look_field, look_one, Clear}
use Rattle.fields.proofs.Pieces.{look_pieces}
use Rattle.fields.proofs.Reached.{reach_on}
use Rattle.fields.proofs.Found.{half_reached}

module _ (map : List ℕ) (size : ℕ) (acc : Access) where
  -- what comes next makes no difference
  clear_any : (n a : ℕ) (before : Look) (r k : ℕ) → look_field map size acc a n before ≡ At r k → Clear map size acc a n
  unfolding look_field
  clear_any zero a before r k e rest = refl
  clear_any (suc n) a before r k e rest = go (look_of map size acc a) e (λ t. clear_any n (next a) before r k t rest)
    where
      go : (v : Look) → or_else v (look_field map size acc (next a) n before) ≡ At r k
          → (look_field map size acc (next a) n before ≡ At r k → look_field map size acc (next a) n rest ≡ rest)
          → or_else v (look_field map size acc (next a) n rest) ≡ rest
      go (Ok s) t later = later t
      go (Err e) t later = absurd (let z : ◌≡◌ {A = ℕ} 0 1 = cc in omega arith)

  -- a field that was found
  pub found_clear : (a n r k : ℕ) → look_one map size acc a n ≡ At r k → Clear map size acc a n
  unfolding look_one
  found_clear a n r k e = clear_any n a (look_of map size acc a) r k e

  module _ (a n : ℕ) (f : Clear map size acc a n) where
    pub clear_first : 0 < n → (c : Cause) (p : ℕ) → look_of map size acc a ≡ Refused c p → ⊥
    unfolding look_field
    clear_first h c p e = go n h (f (At 0 0))
      where
        go : (m : ℕ) → 0 < m → look_field map size acc a m (At 0 0) ≡ At 0 0 → ⊥
        go zero l g = absurd (omega arith)
        go (suc m) l g = let z : ◌≡◌ {A = Look} (Refused c p) (At 0 0) = ap (λ (v : Look). or_else v (look_field map size acc (next a) m (At 0 0))) (sym e) ∙ g in absurd (let y : ◌≡◌ {A = ℕ} 0 1 = cc in omega arith)

    module _ (r k : ℕ) (e : look_of map size acc a ≡ At r k) where
      pub clear_on : (s : ℕ) → 0 < s → s ≤ n → s ≤ k → Clear map size acc ((a + s) % 16777216) (n - s)
      clear_on s p h l rest = sym (reach_on map size acc a r k e n s rest p h l) ∙ f rest

      pub clear_word : a % 4 ≡ 0 → 4 ≤ n → 4 ≤ k
      unfolding look_one
      clear_word on h = half_reached map size acc a 4 r k (omega arith) whole
        where
          whole : look_one map size acc a 4 ≡ At r k
          whole =
              clear_any 4 a (look_field map size acc ((a + 4) % 16777216) (n - 4) (At r k)) r k
              (sym (look_pieces n 4 (omega arith) h map size acc a (At r k)) ∙ f (At r k)) (look_of map size acc a)
              ∙ e

-- two stretches are enough: where the first look-up ends before such a field, a page ends, and of the next page the second reaches the rest
module _ (map : List ℕ) (size : ℕ) (acc : Access) (a n r k : ℕ) (e : look_of map size acc a ≡ At r k) (f : Clear map size acc a n) (h : k < n) where
  behind_clear : Clear map size acc ((a + k) % 16777216) (n - k)
  behind_clear = clear_on map size acc a n f r k e k (reach_some map size acc a r k e) (omega arith) (omega arith)

  pub behind_found : (c : Cause) (p : ℕ) → look_of map size acc ((a + k) % 16777216) ≡ Refused c p → ⊥
  behind_found c p g = clear_first map size acc ((a + k) % 16777216) (n - k) behind_clear (omega arith) c p g

  module _ (q j : ℕ) (g : look_of map size acc ((a + k) % 16777216) ≡ At q j) where
    straight : (a + k) % 16777216 ≡ a + k
    straight = omega (arith, reach_below map size acc a r k e)

    edge : 4096 ≤ a % 4096 + k
    edge =
        by_order (a % 4096 + k) 4096
        (λ l. absurd
        (let m : k + 1 ≤ k =
        reach_largest map size acc a r k e (k + 1)
        (record {
          page =
              λ d o. by_order d k (λ i. reach_page map size acc a r k e d i) (λ i. unfold page_of in omega arith);
          right =
              λ d o. by_order d k
              (λ i. ap verdict_of (reach_behind map size acc a r k e d i))
              (λ i. ap (λ (x : ℕ). verdict_of (look_of map size acc x)) (let z : a + d ≡ (a + k) % 16777216 = omega (arith, straight) in z) ∙ ap verdict_of g);
        }) in omega arith))
        (λ l. l)

    pub two_enough : n - k ≤ 2048 → n - k ≤ j
    unfolding look_one
    two_enough l =
        half_reached map size acc ((a + k) % 16777216) (n - k) q j
        (omega (arith, straight, edge, reach_fits map size acc a r k e))
        (behind_clear (look_of map size acc ((a + k) % 16777216)) ∙ g)

-- a map in which the look-ups are the same
pub clear_alike : (map map' : List ℕ) (size : ℕ) (acc : Access) → ((b : ℕ) → look_of map' size acc b ≡ look_of map size acc b) → (a n : ℕ)
    → Clear map size acc a n → Clear map' size acc a n
unfolding look_field
clear_alike map map' size acc same a n f rest = alike n a ∙ f rest
  where
    alike : (m b : ℕ) → look_field map' size acc b m rest ≡ look_field map size acc b m rest
    alike zero b = refl
    alike (suc m) b = rw (same b, alike m (next b))
