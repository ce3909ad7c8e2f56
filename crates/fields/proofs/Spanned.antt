-- A field in at most two stretches: how it comes to lie so, that none of its bytes is then refused, and a piece of two such fields, as long as
-- both lie together, moved and compared by real address.
use Rattle.std.proofs.Common.{◌≡◌, ℕ, zero, suc, ◌+◌, ◌-◌, ◌%◌, ◌<◌, ◌≤◌, List, length, sym, refl, ap, ◌∙◌, arith, le-ltb, lt-ltb}
use Rattle.words.proofs.Choice.{by_order}
use Rattle.pages.specs.declared.Access.{Access}
use Rattle.pages.specs.declared.Access.TheVariants.{Load, Store}
use Rattle.pages.specs.Word.{page_of, next, written}
use Rattle.pages.specs.Look.{Look, At, fewer, look_of}
use Rattle.pages.specs.Framed.{framed_of, accessed_at, written_at}
use Rattle.pages.proofs.ReachLaws.{fewer_left, fewer_right, fewer_above, reach_behind, reach_below, reach_fits, reach_inside}
use Rattle.pages.proofs.Marks.{written_quiet, look_quiet}
use Rattle.fields.specs.declared.Span.{Span}
use Rattle.fields.specs.Direct.{look_field, look_fields, note_field, move_field, compare_field, flat_move, flat_compare, Clear}
use Rattle.fields.specs.Both.{look_both, note_both}
use Rattle.fields.specs.Spans.{spot_of, rest_of, Lies, Spans, Paged}
use Rattle.fields.proofs.ByteLoops.{move_none, compare_none}
use Rattle.fields.proofs.Found.{note_blind}
use Rattle.fields.proofs.MarkedOnce.{note_once}
use Rattle.fields.proofs.Pieces.{note_pieces, compare_unlike, compare_alike}
use Rattle.fields.proofs.Reached.{reach_moved, reach_compare}

module _ (s : Span) (i : ℕ) where
  pub spot_first : i < s.len → spot_of s i ≡ s.at + i
  unfolding spot_of
  spot_first h = rw (lt-ltb i s.len h)

  pub spot_rest : s.len ≤ i → spot_of s i ≡ s.on + (i - s.len)
  unfolding spot_of
  spot_rest h = rw (le-ltb i s.len h)

  pub rest_first : (n : ℕ) → i < s.len → rest_of s n i ≡ s.len - i
  unfolding rest_of
  rest_first n h = rw (lt-ltb i s.len h)

  pub rest_rest : (n : ℕ) → s.len ≤ i → rest_of s n i ≡ n - i
  unfolding rest_of
  rest_rest n h = rw (le-ltb i s.len h)

  rest_some : (n : ℕ) → i < n → 0 < rest_of s n i
  rest_some n h = by_order i s.len (λ l. omega (arith, rest_first n l)) (λ l. omega (arith, rest_rest n l))

  rest_left : (n : ℕ) → s.len ≤ n → rest_of s n i ≤ n - i
  rest_left n h = by_order i s.len (λ l. omega (arith, rest_first n l)) (λ l. omega (arith, rest_rest n l))

-- by the look-ups
module _ (map : List ℕ) (size : ℕ) (acc : Access) (a r k : ℕ) (e : look_of map size acc a ≡ At r k) where
  -- as far as the first one reaches
  near : (s : Span) (n i : ℕ) → i < s.len → s.at ≡ r → s.len ≤ k → Lies map size acc ((a + i) % 16777216) (spot_of s i) (rest_of s n i)
  near s n i h t l =
      record {
        reach = k - i;
        found =
            ap (look_of map size acc) (let b = reach_below map size acc a r k e in let z : (a + i) % 16777216 ≡ a + i = omega arith in z)
            ∙ reach_behind map size acc a r k e i (omega arith)
            ∙ ap (λ (p : ℕ). At p (k - i)) (let p = spot_first s i h in omega arith);
        far = omega (arith, rest_first s i n h);
      }

  pub span_one : (n : ℕ) → n ≤ k → Spans map size acc a n (record { at = r; len = n; on = 0 })
  span_one n h =
      record {
        low = omega (arith, reach_below map size acc a r k e);
        within = omega arith;
        each = λ i l. near (record { at = r; len = n; on = 0 }) n i l refl h;
      }

  module _ (n q j : ℕ) (f : look_of map size acc ((a + k) % 16777216) ≡ At q j) (h : k < n) (l : n - k ≤ j) where
    two : Span
    two = record { at = r; len = k; on = q }

    -- and as far as the second
    beyond : (i : ℕ) → i < n → k ≤ i → Lies map size acc ((a + i) % 16777216) (spot_of two i) (rest_of two n i)
    unfolding two
    beyond i m g =
        record {
          reach = j - (i - k);
          found =
              ap (look_of map size acc) (let b = reach_below map size acc ((a + k) % 16777216) q j f in let z : (a + i) % 16777216 ≡ (a + k) % 16777216 + (i - k) = omega arith in z)
              ∙ reach_behind map size acc ((a + k) % 16777216) q j f (i - k) (omega arith)
              ∙ ap (λ (p : ℕ). At p (j - (i - k))) (sym (spot_rest (record { at = r; len = k; on = q }) i g));
          far = omega (arith, rest_rest (record { at = r; len = k; on = q }) i n g);
        }

    pub span_two : Spans map size acc a n (record { at = r; len = k; on = q })
    unfolding two
    span_two =
        record {
          low = omega (arith, reach_below map size acc a r k e);
          within = omega arith;
          each = λ i m. by_order i k (λ g. near (record { at = r; len = k; on = q }) n i g refl (omega arith)) (λ g. beyond i m g);
        }

-- a map in which the look-ups are the same
pub spans_alike : (map map' : List ℕ) (size size' : ℕ) (acc : Access) → size' ≡ size → ((b : ℕ) → look_of map' size acc b ≡ look_of map size acc b)
    → (a n : ℕ) (s : Span) → Spans map size acc a n s → Spans map' size' acc a n s
spans_alike map map' size size' acc z same a n s p =
    record {
      low = p.low;
      within = p.within;
      each =
          λ i h. record {
            reach = (p.each i h).reach;
            found = ap (λ (y : ℕ). look_of map' y acc ((a + i) % 16777216)) z ∙ same ((a + i) % 16777216) ∙ (p.each i h).found;
            far = (p.each i h).far;
          };
    }

-- no byte is refused
module _ (map : List ℕ) (size : ℕ) (acc : Access) (a n : ℕ) (s : Span) (p : Spans map size acc a n s) where
  clear_from : (rest : Look) (m i : ℕ) → i + m ≡ n → look_field map size acc ((a + i) % 16777216) m rest ≡ rest
  unfolding look_field next
  clear_from rest zero i e = refl
  clear_from rest (suc m) i e =
      rw (p.each i (omega arith)).found
      (ap (λ (b : ℕ). look_field map size acc b m rest) (let z : ((a + i) % 16777216 + 1) % 16777216 ≡ (a + (i + 1)) % 16777216 = omega arith in z)
      ∙ clear_from rest m (i + 1) (omega arith))

  pub spans_clear : Clear map size acc a n
  spans_clear rest =
      ap (λ (b : ℕ). look_field map size acc b n rest) (let l = p.low in let z : a ≡ (a + 0) % 16777216 = omega arith in z)
      ∙ clear_from rest n 0 (omega arith)

pub spans_both : (map : List ℕ) (size : ℕ) (acc : Access) (a b n : ℕ) (s t : Span) → Spans map size acc a n s → Spans map size Load b n t
    → look_of map size acc a ≡ look_both map size acc a b n
unfolding look_fields
spans_both map size acc a b n s t p q =
    sym (spans_clear map size acc a n s p (look_field map size Load b n (look_of map size acc a)) ∙ spans_clear map size Load b n t q (look_of map size acc a))

-- a piece, from byte i on
module _ (map : List ℕ) (size : ℕ) (acc : Access) (a b n : ℕ) (s t : Span) (p : Spans map size acc a n s) (q : Spans map size Load b n t)
    (i step : ℕ) (h : i < n) (e : step ≡ fewer (rest_of s n i) (rest_of t n i)) where
  pub piece_some : 0 < step
  piece_some = rw e (fewer_above 0 (rest_of s n i) (rest_of t n i) (rest_some s i n h) (rest_some t i n h))

  first_far : step ≤ rest_of s n i
  first_far = rw e (fewer_left (rest_of s n i) (rest_of t n i))

  second_far : step ≤ rest_of t n i
  second_far = rw e (fewer_right (rest_of s n i) (rest_of t n i))

  pub piece_left : i + step ≤ n
  piece_left = omega (arith, first_far, rest_left s i n p.within)

  pub first_room : spot_of s i + step ≤ size
  first_room = omega (arith, first_far, (p.each i h).far, reach_inside map size acc ((a + i) % 16777216) (spot_of s i) (p.each i h).reach (p.each i h).found)

  pub second_room : spot_of t i + step ≤ size
  second_room = omega (arith, second_far, (q.each i h).far, reach_inside map size Load ((b + i) % 16777216) (spot_of t i) (q.each i h).reach (q.each i h).found)

  first_reach : step ≤ (p.each i h).reach
  first_reach = omega (arith, first_far, (p.each i h).far)

  second_reach : step ≤ (q.each i h).reach
  second_reach = omega (arith, second_far, (q.each i h).far)

  on_from_lem : (x : ℕ) → ((x + i) % 16777216 + step) % 16777216 ≡ (x + (i + step)) % 16777216
  on_from_lem x = omega arith

  less : n - i - step ≡ n - (i + step)
  less = omega arith

-- where a byte may lie
pub spot_low : (map : List ℕ) (size : ℕ) (acc : Access) (a n : ℕ) (s : Span) → Spans map size acc a n s → (i : ℕ) → i < n → spot_of s i < size
spot_low map size acc a n s p i h =
    omega (arith, rest_some s i n h, (p.each i h).far, reach_inside map size acc ((a + i) % 16777216) (spot_of s i) (p.each i h).reach (p.each i h).found)

-- moved
module _ (mem map : List ℕ) (a b n : ℕ) (s t : Span) (p : Spans map (length mem) Store a n s) (q : Spans map (length mem) Load b n t)
    (i step : ℕ) (h : i < n) (e : step ≡ fewer (rest_of s n i) (rest_of t n i)) (mem' map' : List ℕ)
    (em : mem' ≡ flat_move mem (spot_of s i) (spot_of t i) step) (en : map' ≡ written_at map ((a + i) % 16777216)) where
  pub moved_on : move_field (framed_of mem map) ((a + i) % 16777216) ((b + i) % 16777216) (n - i)
      ≡ move_field (framed_of mem' map') ((a + (i + step)) % 16777216) ((b + (i + step)) % 16777216) (n - (i + step))
  moved_on =
      reach_moved map (length mem) ((a + i) % 16777216) ((b + i) % 16777216) (spot_of s i) (spot_of t i) (p.each i h).reach (q.each i h).reach
      (p.each i h).found (q.each i h).found mem refl (n - i) step
      (piece_some map (length mem) Store a b n s t p q i step h e)
      (omega (arith, piece_left map (length mem) Store a b n s t p q i step h e))
      (first_reach map (length mem) Store a b n s t p q i step h e)
      (second_reach map (length mem) Store a b n s t p q i step h e)
      mem' map' em en
      ∙ rw (
        on_from_lem map (length mem) Store a b n s t p q i step h e a,
        on_from_lem map (length mem) Store a b n s t p q i step h e b,
        less map (length mem) Store a b n s t p q i step h e,
      )

  -- the look-ups are as before
  pub still_spans : length mem' ≡ length mem → (acc : Access) (c : ℕ) (u : Span) → Spans map (length mem) acc c n u → Spans map' (length mem') acc c n u
  still_spans z acc c u w =
      spans_alike map map' (length mem) (length mem') acc z
      (λ d. ap (λ (m : List ℕ). look_of m (length mem) acc d) en ∙ unfold written_at in look_quiet written written_quiet map (page_of ((a + i) % 16777216)) (length mem) acc d)
      c n u w

-- compared
module _ (mem map : List ℕ) (a b n : ℕ) (s t : Span) (p : Spans map (length mem) Load a n s) (q : Spans map (length mem) Load b n t)
    (i step : ℕ) (h : i < n) (e : step ≡ fewer (rest_of s n i) (rest_of t n i)) (v : ℕ) (ev : v ≡ flat_compare mem (spot_of s i) (spot_of t i) step) where
  piece_code : v ≡ compare_field (framed_of mem map) ((a + i) % 16777216) ((b + i) % 16777216) step
  piece_code =
      ev
      ∙ reach_compare mem map ((a + i) % 16777216) ((b + i) % 16777216) (spot_of s i) (spot_of t i) (p.each i h).reach (q.each i h).reach
      (p.each i h).found (q.each i h).found step
      (first_reach map (length mem) Load a b n s t p q i step h e) (second_reach map (length mem) Load a b n s t p q i step h e)

  pub compared_unlike : (v ≡ 0 → ⊥) → v ≡ compare_field (framed_of mem map) ((a + i) % 16777216) ((b + i) % 16777216) (n - i)
  compared_unlike f =
      compare_unlike (n - i) step (piece_some map (length mem) Load a b n s t p q i step h e)
      (omega (arith, piece_left map (length mem) Load a b n s t p q i step h e)) (framed_of mem map) ((a + i) % 16777216) ((b + i) % 16777216) v piece_code f

  pub compared_alike : v ≡ 0 → compare_field (framed_of mem map) ((a + i) % 16777216) ((b + i) % 16777216) (n - i)
      ≡ compare_field (framed_of mem map) ((a + (i + step)) % 16777216) ((b + (i + step)) % 16777216) (n - (i + step))
  compared_alike f =
      compare_alike (n - i) step (piece_some map (length mem) Load a b n s t p q i step h e)
      (omega (arith, piece_left map (length mem) Load a b n s t p q i step h e)) (framed_of mem map) ((a + i) % 16777216) ((b + i) % 16777216) v piece_code f
      ∙ rw (
        on_from_lem map (length mem) Load a b n s t p q i step h e a,
        on_from_lem map (length mem) Load a b n s t p q i step h e b,
        less map (length mem) Load a b n s t p q i step h e,
      )

-- the loop over pieces: how it begins, a turn as the code has it, and how it ends
pub noted_spans : (map map' map'' : List ℕ) (size a b n : ℕ) → map' ≡ note_field map a n → map'' ≡ note_field map' b n → (acc : Access) (c m : ℕ) (s : Span)
    → Spans map size acc c m s → Spans map'' size acc c m s
noted_spans map map' map'' size a b n e f acc c m s p =
    spans_alike map map'' size size acc refl
    (λ d. ap (λ (x : List ℕ). look_of x size acc d) f ∙ note_blind map' b n size acc d ∙ ap (λ (x : List ℕ). look_of x size acc d) e ∙ note_blind map a n size acc d)
    c m s p

at_first : (a : ℕ) → a < 16777216 → a ≡ (a + 0) % 16777216
at_first a h = omega arith

all_left_lem : (n : ℕ) → n ≡ n - 0
all_left_lem n = omega arith

pub step_is : (s t : Span) (n i step x y : ℕ) → step ≡ fewer x y → x ≡ rest_of s n i → y ≡ rest_of t n i → step ≡ fewer (rest_of s n i) (rest_of t n i)
step_is s t n i step x y e f g = e ∙ rw (f, g)

pub move_is : (mem mem' : List ℕ) (x x' y y' k : ℕ) → mem' ≡ flat_move mem x y k → x ≡ x' → y ≡ y' → mem' ≡ flat_move mem x' y' k
move_is mem mem' x x' y y' k e f g = e ∙ rw (f, g)

pub compare_is : (mem : List ℕ) (v x x' y y' k : ℕ) → v ≡ flat_compare mem x y k → x ≡ x' → y ≡ y' → v ≡ flat_compare mem x' y' k
compare_is mem v x x' y y' k e f g = e ∙ rw (f, g)

pub all_moved : (mem map mem₀ map₀ map₁ map₂ : List ℕ) (a b n i x y : ℕ)
    → move_field (framed_of mem₀ map₂) a b n ≡ move_field (framed_of mem map) x y (n - i) → n ≤ i
    → map₁ ≡ note_field map₀ a n → map₂ ≡ note_field map₁ b n → framed_of mem map ≡ move_field (framed_of mem₀ (note_both map₀ a b n)) a b n
all_moved mem map mem₀ map₀ map₁ map₂ a b n i x y e h f g =
    sym (ap (λ (m : List ℕ). move_field (framed_of mem₀ m) a b n) (sym (g ∙ rw f)) ∙ e ∙ move_none (n - i) (omega arith) (framed_of mem map) x y)

pub begun : {A : Type 0} (f : ℕ → ℕ → ℕ → A) (map : List ℕ) (size a b n : ℕ) (s t : Span) (acc : Access) → Spans map size acc a n s
    → Spans map size Load b n t → f a b n ≡ f ((a + 0) % 16777216) ((b + 0) % 16777216) (n - 0)
begun f map size a b n s t acc p q = rw (← at_first a p.low, ← at_first b q.low, ← all_left_lem n)

pub mark_is : (map map' : List ℕ) (x x' : ℕ) → map' ≡ written_at map x → x ≡ x' → map' ≡ written_at map x'
mark_is map map' x x' e f = e ∙ rw f

pub all_alike : (mem map : List ℕ) (a b n i x y : ℕ) → compare_field (framed_of mem map) a b n ≡ compare_field (framed_of mem map) x y (n - i) → n ≤ i
    → 0 ≡ compare_field (framed_of mem map) a b n
all_alike mem map a b n i x y e h = sym (e ∙ compare_none (n - i) (omega arith) (framed_of mem map) x y)

-- its pages
pub spans_paged : (map : List ℕ) (size : ℕ) (acc : Access) (a n : ℕ) (s : Span) → 0 < n → 0 < s.len → Spans map size acc a n s → Paged a n s.len
spans_paged map size acc a n s h l p =
    record {
      some = l;
      low = p.low;
      within = p.within;
      first =
          omega (
            arith,
            p.low,
            rest_first s 0 n l,
            (p.each 0 h).far,
            reach_fits map size acc ((a + 0) % 16777216) (spot_of s 0) (p.each 0 h).reach (p.each 0 h).found,
          );
      rest =
          λ m. omega (
            arith,
            rest_rest s s.len n (omega arith),
            (p.each s.len m).far,
            reach_fits map size acc ((a + s.len) % 16777216) (spot_of s s.len) (p.each s.len m).reach (p.each s.len m).found,
          );
    }

module _ (map : List ℕ) (a n k : ℕ) (p : Paged a n k) (map' : List ℕ) (e : map' ≡ accessed_at map a) where
  pub noted_one : n ≤ k → map' ≡ note_field map a n
  noted_one h = e ∙ note_once map a n (omega (arith, p.some, p.within)) (omega (arith, p.first, p.within)) p.low

  pub noted_two : k < n → (b : ℕ) → b ≡ (a + k) % 16777216 → (map'' : List ℕ) → map'' ≡ accessed_at map' b → map'' ≡ note_field map a n
  noted_two h b g map'' f =
      f
      ∙ rw g
      (note_once map' ((a + k) % 16777216) (n - k) (omega arith) (p.rest h) (omega arith)
      ∙ ap (λ (m : List ℕ). note_field m ((a + k) % 16777216) (n - k)) (e ∙ note_once map a k p.some p.first p.low)
      ∙ sym (note_pieces n k p.some p.within map a))
