-- Marks change nothing but marks: no bit that a look-up tests, no real address; two marks may be set in either order, and a mark twice is
-- the mark once.
use Prim.Native.Nat.{ℕ, ◌<◌, ◌≤◌, ◌/◌, ◌%◌, ◌*◌, ◌+◌}
use native.Mathlib.Omega.{arith}
use native.Mathlib.Decide.{ℕ_discrete, dec_lt}
use mathlib.Core.Path.{◌≡◌, sym, ◌∙◌, ap, subst}
use mathlib.Core.List.{List}
use lib.ListN.{length, get_or, set}
use lib.Seq.{get_or-set_same, get_or-set_other, set_out, set-set, set_comm, set-get_or}
use Rattle.pages.specs.declared.Access.{Access}
use Rattle.pages.specs.Word.{bit_u, bit_s, bit_e, bit_m, bit_h, bits_x, frame, base, size, real, word_of, page_of, disp_of, accessed, written}
use Rattle.pages.specs.Tests.{tests, six_tests}
use Rattle.pages.specs.Look.{look_of, look_with, reach}
use Rattle.pages.specs.Framed.{accessed_at, written_at}

-- a change of a word that leaves all but W and G
pub record Quiet (f : ℕ → ℕ) : Type 0 where
  pub u : (w : ℕ) → bit_u (f w) ≡ bit_u w
  pub s : (w : ℕ) → bit_s (f w) ≡ bit_s w
  pub e : (w : ℕ) → bit_e (f w) ≡ bit_e w
  pub m : (w : ℕ) → bit_m (f w) ≡ bit_m w
  pub h : (w : ℕ) → bit_h (f w) ≡ bit_h w
  pub x : (w : ℕ) → bits_x (f w) ≡ bits_x w
  pub p : (w : ℕ) → frame (f w) ≡ frame w

low : (f : ℕ → ℕ) → ((w : ℕ) → f w % 16384 ≡ w % 16384) → Quiet f
unfolding bit_u bit_s bit_e bit_m bit_h bits_x frame
low f k =
    record {
      u = λ w. omega (arith, k w);
      s = λ w. omega (arith, k w);
      e = λ w. omega (arith, k w);
      m = λ w. omega (arith, k w);
      h = λ w. omega (arith, k w);
      x = λ w. omega (arith, k w);
      p = λ w. omega (arith, k w);
    }

pub accessed_quiet : Quiet accessed
unfolding accessed
accessed_quiet = low accessed (λ w. omega arith)

pub written_quiet : Quiet written
unfolding written
written_quiet = low written (λ w. omega arith)

module _ (f : ℕ → ℕ) (q : Quiet f) where
  pub tests_quiet : (acc : Access) (a w : ℕ) → tests acc a (f w) ≡ tests acc a w
  unfolding tests six_tests
  tests_quiet acc a w = rw (q.u w, q.x w, q.m w, q.s w, q.e w)

  pub base_quiet : (w : ℕ) → base (f w) ≡ base w
  unfolding base
  base_quiet w = rw (q.p w, q.m w, q.h w)

  real_quiet : (d w : ℕ) → real (f w) d ≡ real w d
  unfolding real
  real_quiet d w = rw (base_quiet w)

  reach_quiet : (d n w : ℕ) → reach (f w) d n ≡ reach w d n
  unfolding reach size
  reach_quiet d n w = rw (q.m w, real_quiet d w)

  -- the look-up with a page's word
  pub word_quiet : (n : ℕ) (acc : Access) (a w : ℕ) → look_with (f w) n acc a ≡ look_with w n acc a
  word_quiet n acc a w = rw (tests_quiet acc a w, real_quiet (disp_of a) w, reach_quiet (disp_of a) n w)

-- the map with the word of page p changed by f
abbrev pub changed : (ℕ → ℕ) → ℕ → List ℕ → List ℕ
changed f p map = set map p (f (word_of map p))

-- what a change leaves of a word it leaves of every page's word
pub changed_keeps : {X : Type 0} (f : ℕ → ℕ) (g : ℕ → X) → ((w : ℕ) → g (f w) ≡ g w)
    → (map : List ℕ) (p r : ℕ) → g (word_of (changed f p map) r) ≡ g (word_of map r)
unfolding word_of
changed_keeps f g k map p r = same (ℕ_discrete r p)
  where
    in_map : Dec (p < length map) → g (get_or (set map p (f (get_or map p 0))) p 0) ≡ g (get_or map p 0)
    in_map (yes h) = ap g (get_or-set_same map p (f (get_or map p 0)) 0 h) ∙ k (get_or map p 0)
    in_map (no h) =
        let o : length map ≤ p = omega arith in
        ap (λ (m : List ℕ). g (get_or m p 0)) (set_out map p (f (get_or map p 0)) o)

    same : Dec (r ≡ p) → g (get_or (set map p (f (get_or map p 0))) r 0) ≡ g (get_or map r 0)
    same (yes e) =
        subst
        (λ (t : ℕ). g (get_or (set map p (f (get_or map p 0))) t 0) ≡ g (get_or map t 0))
        (sym e)
        (in_map (dec_lt p (length map)))
    same (no e) = ap g (get_or-set_other map p r (f (get_or map p 0)) 0 e)

pub look_quiet : (f : ℕ → ℕ) → Quiet f → (map : List ℕ) (p n : ℕ) (acc : Access) (a : ℕ)
    → look_of (changed f p map) n acc a ≡ look_of map n acc a
unfolding look_of
look_quiet f q map p n acc a =
    changed_keeps f (λ (w : ℕ). look_with w n acc a) (word_quiet f q n acc a) map p (page_of a)

-- two changes that commute on a word commute on the map
pub changed_comm : (f g : ℕ → ℕ) → ((w : ℕ) → f (g w) ≡ g (f w)) → (p r : ℕ) (map : List ℕ)
    → changed f p (changed g r map) ≡ changed g r (changed f p map)
unfolding word_of
changed_comm f g k p r map = same (ℕ_discrete p r)
  where
    w : ℕ
    w = get_or map p 0

    twice : (x y : ℕ → ℕ) → p < length map → set (set map p (x w)) p (y (get_or (set map p (x w)) p 0)) ≡ set map p (y (x w))
    twice x y h =
        ap (λ (v : ℕ). set (set map p (x w)) p (y v)) (get_or-set_same map p (x w) 0 h) ∙ set-set map p (x w) (y (x w))

    never : (x y : ℕ → ℕ) → length map ≤ p → set (set map p (x w)) p (y (get_or (set map p (x w)) p 0)) ≡ map
    never x y h =
        ap (λ (m : List ℕ). set m p (y (get_or m p 0))) (set_out map p (x w) h) ∙ set_out map p (y w) h

    here : Dec (p < length map) → set (set map p (g w)) p (f (get_or (set map p (g w)) p 0)) ≡ set (set map p (f w)) p (g (get_or (set map p (f w)) p 0))
    here (yes h) = twice g f h ∙ ap (λ (v : ℕ). set map p v) (k w) ∙ sym (twice f g h)
    here (no h) = let o : length map ≤ p = omega arith in never g f o ∙ sym (never f g o)

    same : Dec (p ≡ r) → changed f p (changed g r map) ≡ changed g r (changed f p map)
    same (yes e) =
        subst
        (λ (t : ℕ). set (set map t (g (get_or map t 0))) p (f (get_or (set map t (g (get_or map t 0))) p 0))
        ≡ set (set map p (f w)) t (g (get_or (set map p (f w)) t 0)))
        e
        (here (dec_lt p (length map)))
    same (no e) =
        ap (λ (v : ℕ). set (set map r (g (get_or map r 0))) p (f v)) (get_or-set_other map r p (g (get_or map r 0)) 0 e)
        ∙ sym (set_comm map p r (f w) (g (get_or map r 0)) e)
        ∙ ap (λ (v : ℕ). set (set map p (f w)) r (g v)) (sym (get_or-set_other map p r (f w) 0 (λ q. e (sym q))))

pub accessed_written : (w : ℕ) → accessed (written w) ≡ written (accessed w)
unfolding accessed written
accessed_written w = omega arith

-- a mark on a page, twice, is the mark once
again : (f : ℕ → ℕ) → ((x : ℕ) → f (f x) ≡ f x) → (map : List ℕ) (p : ℕ) → changed f p (changed f p map) ≡ changed f p map
unfolding word_of
again f k map p = go (dec_lt p (length map))
  where
    go : Dec (p < length map) → set (set map p (f (get_or map p 0))) p (f (get_or (set map p (f (get_or map p 0))) p 0)) ≡ set map p (f (get_or map p 0))
    go (yes h) =
        ap (λ (v : ℕ). set (set map p (f (get_or map p 0))) p (f v)) (get_or-set_same map p (f (get_or map p 0)) 0 h)
        ∙ set-set map p (f (get_or map p 0)) (f (f (get_or map p 0)))
        ∙ ap (λ (v : ℕ). set map p v) (k (get_or map p 0))
    go (no h) =
        let o : length map ≤ p = omega arith in
        ap (λ (m : List ℕ). set m p (f (get_or m p 0))) (set_out map p (f (get_or map p 0)) o)

pub accessed_again : (map : List ℕ) (a b : ℕ) → page_of b ≡ page_of a → accessed_at (accessed_at map a) b ≡ accessed_at map a
unfolding accessed_at
accessed_again map a b h = rw h (again accessed twice map (page_of a))
  where
    twice : (x : ℕ) → accessed (accessed x) ≡ accessed x
    twice x = unfold accessed in omega arith

pub written_again : (map : List ℕ) (a b : ℕ) → page_of b ≡ page_of a → written_at (written_at map a) b ≡ written_at map a
unfolding written_at
written_again map a b h = rw h (again written twice map (page_of a))
  where
    twice : (x : ℕ) → written (written x) ≡ written x
    twice x = unfold written in omega arith

-- a mark that is there already need not be set
pub accessed_old : (map : List ℕ) (p w : ℕ) → w ≡ get_or map p 0 → (w / 16384 % 2 ≡ 0 → ⊥) → map ≡ set map p (accessed w)
unfolding accessed
accessed_old map p w e h =
    let k : w / 32768 * 32768 + 16384 + w % 16384 ≡ w = omega arith in
    sym (set-get_or map p 0) ∙ ap (λ (v : ℕ). set map p v) (sym e ∙ sym k)

pub written_new : (w : ℕ) → w < 32768 → w + 32768 ≡ written w
unfolding written
written_new w h = omega arith

pub written_old : (map : List ℕ) (p w : ℕ) → w ≡ get_or map p 0 → 32768 ≤ w → w < 65536 → map ≡ set map p (written w)
unfolding written
written_old map p w e h l =
    let k : 32768 + w % 32768 ≡ w = omega arith in
    sym (set-get_or map p 0) ∙ ap (λ (v : ℕ). set map p v) (sym e ∙ sym k)
