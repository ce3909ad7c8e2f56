-- A move of which one field goes on into a second page, where no page lacks its marks: what moving it in two pieces comes to.
use Rattle.std.proofs.Common.{◌≡◌, ◌⊎◌, inl, inr, ℕ, zero, suc, ◌+◌, ◌-◌, ◌%◌, ◌<◌, ◌≤◌, false, List, length, get_or, set, sym, refl, ap, ◌∙◌, true≢false, zero-add, arith, length-set, le-ltb, lt-ltb}
use Rattle.pages.specs.declared.Access.{Access}
use Rattle.pages.specs.declared.Access.TheVariants.{Fetch, Load, Store}
use Rattle.pages.specs.Tests.{is_store}
use Rattle.pages.specs.Look.{At, fewer}
use Rattle.pages.specs.Framed.{framed_of, written_at}
use Rattle.pages.proofs.Marks.{written_again}
use Rattle.pages.proofs.ReachLaws.{reach_some, reach_below, reach_page, reach_inside}
use Rattle.lookup.specs.Marked.{Found}
use Rattle.fields.specs.declared.Span.{Span}
use Rattle.fields.specs.Direct.{note_field, move_field, flat_move}
use Rattle.fields.specs.Both.{look_both, moved_by}
use Rattle.fields.specs.Spans.{spot_of, rest_of, Spans, edged, Edged}
use Rattle.fields.proofs.Spanned.{spot_first, spot_rest, rest_first, rest_rest, span_one, span_two, spans_both, spans_paged, noted_one, noted_two, moved_on, still_spans, begun, all_moved}

-- an access that is no store
pub no_store : (acc : Access) → (acc ≡ Load) ⊎ (acc ≡ Fetch) → is_store acc ≡ false
no_store acc (inl e) = rw e refl
no_store acc (inr e) = rw e refl

-- the second look-up, as the code has it
pub edge_room : (map : List ℕ) (size : ℕ) (acc : Access) (b z far m : ℕ) → Found map size acc b z far → m ≤ far → z + m ≤ size
edge_room map size acc b z far m f l = omega (arith, reach_inside map size acc b z far f.there)

-- and what was moved by it
module _ (acc : Access) (map : List ℕ) (a x y k n : ℕ) (mem mem₁ mem₂ : List ℕ) (b z far : ℕ)
    (m : Found map (length mem) acc b z far) (h : b ≡ (a + k) % 16777216) (l : n - k ≤ far) (f : mem₁ ≡ flat_move mem x y k) where
  both_pieces : mem₂ ≡ edged acc mem x y k z n → Edged acc map a x y k n mem mem₂
  both_pieces g =
      record { z = z; far = far; found = rw h at m; room = l; moved = g }

  pub edged_stored : acc ≡ Store → mem₂ ≡ flat_move mem₁ z (y + k) (n - k) → Edged acc map a x y k n mem mem₂
  unfolding edged
  edged_stored s g = both_pieces (g ∙ rw (f, s))

  pub edged_read : is_store acc ≡ false → mem₂ ≡ flat_move mem₁ (x + k) z (n - k) → Edged acc map a x y k n mem mem₂
  unfolding edged
  edged_read s g = both_pieces (g ∙ rw f (by_access acc s))
    where
      by_access : (c : Access) → is_store c ≡ false → flat_move (flat_move mem x y k) (x + k) z (n - k) ≡ edged c mem x y k z n
      by_access Fetch s = refl
      by_access Load s = refl
      by_access Store s = absurd (true≢false s)

-- a stretch is as long after a move
pub length_moved : (n : ℕ) (mem : List ℕ) (a b : ℕ) → length (flat_move mem a b n) ≡ length mem
unfolding flat_move
length_moved zero mem a b = refl
length_moved (suc n) mem a b = length_moved n (set mem a (get_or mem b 0)) (a + 1) (b + 1) ∙ length-set mem a (get_or mem b 0)

fewer_first : (x y : ℕ) → x ≤ y → x ≡ fewer x y
fewer_first x y h = rw (le-ltb y x h)

fewer_second : (x y : ℕ) → y < x → y ≡ fewer x y
fewer_second x y h = rw (lt-ltb y x h)

-- a field of n bytes, cut at k: where its two pieces lie, and how many bytes lie together from the first on; its pages have their marks
record Laid (map : List ℕ) (size : ℕ) (acc : Access) (a n k r r' j : ℕ) : Type 0 where
  s : Span
  lies : Spans map size acc a n s
  first : spot_of s 0 ≡ r
  rest : spot_of s k ≡ r'
  near : rest_of s n 0 ≡ j
  past : rest_of s n k ≡ n - k
  noted : map ≡ note_field map a n

module _ (map : List ℕ) (size : ℕ) (acc : Access) (a n k r : ℕ) (p : 0 < k) (h : k < n) where
  -- it lies whole
  whole : (far : ℕ) → Found map size acc a r far → n ≤ far → Laid map size acc a n k r (r + k) n
  whole far f l =
      record {
        s = record { at = r; len = n; on = 0 };
        lies = span_one map size acc a r far f.there n l;
        first = omega (arith, spot_first (record { at = r; len = n; on = 0 }) 0 (omega arith));
        rest = spot_first (record { at = r; len = n; on = 0 }) k h;
        near = omega (arith, rest_first (record { at = r; len = n; on = 0 }) 0 n (omega arith));
        past = rest_first (record { at = r; len = n; on = 0 }) k n h;
        noted =
            noted_one map a n n
            (spans_paged map size acc a n (record { at = r; len = n; on = 0 }) (omega arith) (omega arith)
            (span_one map size acc a r far f.there n l))
            map f.accessed (omega arith);
      }

  -- its first k bytes in one page, and the rest in another
  parted : Found map size acc a r k → (z far : ℕ) → Found map size acc ((a + k) % 16777216) z far → n - k ≤ far
      → Laid map size acc a n k r z k
  parted f z far g l =
      record {
        s = record { at = r; len = k; on = z };
        lies = span_two map size acc a r k f.there n z far g.there h l;
        first = omega (arith, spot_first (record { at = r; len = k; on = z }) 0 p);
        rest = omega (arith, spot_rest (record { at = r; len = k; on = z }) k (omega arith));
        near = omega (arith, rest_first (record { at = r; len = k; on = z }) 0 n p);
        past = rest_rest (record { at = r; len = k; on = z }) k n (omega arith);
        noted =
            noted_two map a n k
            (spans_paged map size acc a n (record { at = r; len = k; on = z }) (omega arith) p
            (span_two map size acc a r k f.there n z far g.there h l))
            map f.accessed h ((a + k) % 16777216) refl map g.accessed;
      }

-- both pieces, of any two fields laid so
module _ (mem map mem' : List ℕ) (a b n k x x' i y y' j room : ℕ)
    (p : Laid map (length mem) Store a n k x x' i) (q : Laid map (length mem) Load b n k y y' j) (h : k < n) (e : k ≡ fewer i j)
    (there : Found map (length mem) Store a x room) (w : map ≡ written_at map ((a + k) % 16777216))
    (d : mem' ≡ flat_move (flat_move mem x y k) x' y' (n - k)) where
  e₀ : k ≡ fewer (rest_of p.s n 0) (rest_of q.s n 0)
  e₀ = rw (p.near, q.near) e

  e₁ : n - k ≡ fewer (rest_of p.s n k) (rest_of q.s n k)
  e₁ = rw (p.past, q.past) (fewer_first (n - k) (n - k) (omega arith))

  w₀ : map ≡ written_at map ((a + 0) % 16777216)
  w₀ = there.written refl ∙ ap (written_at map) (let l = p.lies.low in let z : a ≡ (a + 0) % 16777216 = omega arith in z)

  f₀ : flat_move mem x y k ≡ flat_move mem (spot_of p.s 0) (spot_of q.s 0) k
  f₀ = rw (p.first, q.first)

  f₁ : mem' ≡ flat_move (flat_move mem x y k) (spot_of p.s k) (spot_of q.s k) (n - k)
  f₁ = rw (p.rest, q.rest) d

  still : (acc : Access) (c : ℕ) (u : Span) → Spans map (length mem) acc c n u → Spans map (length (flat_move mem x y k)) acc c n u
  still =
      still_spans mem map a b n p.s q.s p.lies q.lies 0 k (omega arith) e₀ (flat_move mem x y k) map f₀ w₀
      (length_moved k mem x y)

  two_pieces : (look_both map (length mem) Store a b n ≡ At x room) × (framed_of mem' map ≡ moved_by (At x room) mem map a b n)
  two_pieces = (
    sym (spans_both map (length mem) Store a b n p.s q.s p.lies q.lies) ∙ there.there,
    all_moved mem' map mem map map map a b n (k + (n - k)) ((a + (k + (n - k))) % 16777216) ((b + (k + (n - k))) % 16777216)
        (begun (move_field (framed_of mem map)) map (length mem) a b n p.s q.s Store p.lies q.lies
        ∙ moved_on mem map a b n p.s q.s p.lies q.lies 0 k (omega arith) e₀ (flat_move mem x y k) map f₀ w₀
        ∙ ap (λ (u : ℕ). move_field (framed_of (flat_move mem x y k) map) ((a + u) % 16777216) ((b + u) % 16777216) (n - u)) (zero-add k)
        ∙ moved_on (flat_move mem x y k) map a b n p.s q.s (still Store a p.s p.lies) (still Load b q.s q.lies)
        k (n - k) h e₁ mem' map f₁ w)
        (omega arith) p.noted q.noted,
  )

module _ (mem map mem' : List ℕ) (to from n x room y more : ℕ)
    (there : Found map (length mem) Store to x room) (here : Found map (length mem) Load from y more) where
  -- the stored field goes on
  pub edge_stored : room < n → n ≤ more → Edged Store map to x y room n mem mem'
      → (look_both map (length mem) Store to from n ≡ At x room) × (framed_of mem' map ≡ moved_by (At x room) mem map to from n)
  unfolding edged
  edge_stored h l d =
      two_pieces mem map mem' to from n room x d.z room y (y + room) n room
      (parted map (length mem) Store to n room x some h there d.z d.far d.found d.room)
      (whole map (length mem) Load from n room y some h more here l)
      h (fewer_first room n (omega arith)) there (d.found.written refl) d.moved
    where
      some : 0 < room
      some = reach_some map (length mem) Store to x room there.there

  -- the one that is read goes on
  pub edge_read : more < n → n ≤ room → Edged Load map from x y more n mem mem'
      → (look_both map (length mem) Store to from n ≡ At x room) × (framed_of mem' map ≡ moved_by (At x room) mem map to from n)
  unfolding edged
  edge_read h l d =
      two_pieces mem map mem' to from n more x (x + more) n y d.z more room
      (whole map (length mem) Store to n more x some h room there l)
      (parted map (length mem) Load from n more y some h here d.z d.far d.found d.room)
      h (fewer_second n more h) there same d.moved
    where
      some : 0 < more
      some = reach_some map (length mem) Load from y more here.there

      low : to + more ≡ (to + more) % 16777216
      low = omega (arith, reach_below map (length mem) Store to x room there.there)

      -- W of the one page that is stored into
      same : map ≡ written_at map ((to + more) % 16777216)
      same =
          there.written refl
          ∙ sym (written_again map to (to + more) (reach_page map (length mem) Store to x room there.there more (omega arith)))
          ∙ ap (λ (m : List ℕ). written_at m (to + more)) (sym (there.written refl))
          ∙ ap (written_at map) low
