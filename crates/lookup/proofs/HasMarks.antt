-- A page that has its marks already: setting them changes nothing.
use Prim.Native.Nat.{ℕ, ◌/◌, ◌%◌, ◌-◌, ◌+◌, ◌*◌, ◌<◌, ◌≤◌}
use native.Mathlib.Omega.{arith}
use mathlib.Core.Path.{◌≡◌, refl, sym, ◌∙◌, ap}
use mathlib.Core.Bool.{Bool, true, false}
use mathlib.Core.List.{List}
use borrow.Author.Tests.{eqb-true, leb-true, le-ltb}
use lib.Dec.{eqb, leb}
use lib.ListN.{length, get_or, set}
use lib.Seq.{get_or-set_same, set_out, set-set}
use Rattle.std.specs.Prelude.{Option, Some, None}
use Rattle.words.specs.Pick.{pick}
use Rattle.words.proofs.Tests.{left_of_lem, right_of_lem}
use Rattle.pages.specs.declared.Access.{Access}
use Rattle.pages.specs.declared.Spot.{Spot}
use Rattle.pages.specs.Word.{bit_g, page_of, word_of, accessed, written}
use Rattle.pages.specs.Tests.{is_store}
use Rattle.pages.specs.Look.{At, fewer, look_of}
use Rattle.pages.specs.Framed.{accessed_at, written_at}
use Rattle.pages.proofs.Marks.{accessed_old, written_old}
use Rattle.lookup.specs.Marked.{marked, with_marks, marks_of, Found, WholeLook, MarkedLook}

pub seen_marked : (map : List ℕ) (pc page : ℕ) → page_of pc ≡ page → bit_g (word_of map page) ≡ 1 → map ≡ accessed_at map pc
unfolding accessed_at word_of bit_g page_of
seen_marked map pc page e g =
    let k : get_or map (pc / 4096) 0 / 16384 % 2 ≡ 1 = ap (λ (x : ℕ). get_or map x 0 / 16384 % 2) e ∙ g in
    accessed_old map (pc / 4096) (get_or map (pc / 4096) 0) refl (λ z. (let y : ◌≡◌ {A = ℕ} 0 1 = sym z ∙ k in omega arith))

pub stored_marked : (map : List ℕ) (a : ℕ) → 32768 ≤ word_of map (page_of a) → word_of map (page_of a) < 65536 → map ≡ written_at map a
unfolding written_at word_of
stored_marked map a h l = written_old map (page_of a) (get_or map (page_of a) 0) refl h l

-- the test of the marks, by its ways out
module _ (w : ℕ) (acc : Access) where
  pub no_mark : bit_g w ≡ 0 → false ≡ marked w acc
  unfolding marked
  no_mark h = rw h

  module _ (g : bit_g w ≡ 0 → ⊥) (s : Bool) (es : s ≡ is_store acc) where
    has_mark : bit_g w ≡ 1
    unfolding bit_g
    has_mark = let z : w / 16384 % 2 ≡ 0 → ⊥ = g in omega arith

    pub store_mark : s ≡ true → leb 32768 w ≡ marked w acc
    unfolding marked
    store_mark t = rw (has_mark, ← es, t)

    pub load_mark : s ≡ false → true ≡ marked w acc
    unfolding marked
    load_mark t = rw (has_mark, ← es, t)

  only_stored : (s : Bool) → pick s (leb 32768 w) true ≡ true → s ≡ true → 32768 ≤ w
  only_stored true h e = leb-true 32768 w h
  only_stored false h e = absurd (let z : ◌≡◌ {A = ℕ} 0 1 = cc in omega arith)

  -- what was found there
  module _ (m : Bool) (em : m ≡ marked w acc) (t : m ≡ true) (small : w < 65536) (map : List ℕ) (n a : ℕ) (ew : w ≡ word_of map (page_of a)) where
    g_is : bit_g (word_of map (page_of a)) ≡ 1
    unfolding marked
    g_is = ap bit_g (sym ew) ∙ eqb-true (bit_g w) 1 (left_of_lem (eqb (bit_g w) 1) (pick (is_store acc) (leb 32768 w) true) (sym em ∙ t))

    w_is : is_store acc ≡ true → 32768 ≤ w
    unfolding marked
    w_is = only_stored (is_store acc) (right_of_lem (eqb (bit_g w) 1) (pick (is_store acc) (leb 32768 w) true) (sym em ∙ t))

    pub marked_found : (r k : ℕ) → At r k ≡ look_of map n acc a → Found map n acc a r k
    marked_found r k e =
        record {
          there = sym e;
          accessed = seen_marked map a (page_of a) refl g_is;
          written =
              λ s. stored_marked map a (let h = w_is s in omega (arith, h, ew)) (omega (arith, small, ew));
        }

    pub marked_whole : (found : Option Spot) → WholeLook found map n acc a → MarkedLook found map n acc a
    marked_whole (Some s) h = marked_found s.at s.reach (sym h.0)
    marked_whole None h = h

    -- they are set already
    pub marks_there : map ≡ marks_of acc map a
    marks_there = both_there (is_store acc) (w_is)
      where
        g : map ≡ accessed_at map a
        g = seen_marked map a (page_of a) refl g_is

        both_there : (s : Bool) → (s ≡ true → 32768 ≤ w) → map ≡ pick s (written_at (accessed_at map a) a) (accessed_at map a)
        both_there true h =
            stored_marked map a (let k = h refl in omega (arith, k, ew)) (omega (arith, small, ew)) ∙ ap (λ (m : List ℕ). written_at m a) g
        both_there false h = g

-- they are set
pub marks_set : (acc : Access) (map : List ℕ) (a : ℕ) → page_of a < length map → set map (page_of a) (with_marks (word_of map (page_of a)) acc) ≡ marks_of acc map a
unfolding with_marks accessed_at written_at word_of
marks_set acc map a h = by_store (is_store acc)
  where
    p : ℕ
    p = page_of a

    w : ℕ
    w = get_or map p 0

    by_store : (s : Bool) → set map p (pick s (written (accessed w)) (accessed w))
        ≡ pick s (set (set map p (accessed w)) p (written (get_or (set map p (accessed w)) p 0))) (set map p (accessed w))
    by_store true =
        sym (ap (λ (v : ℕ). set (set map p (accessed w)) p (written v)) (get_or-set_same map p (accessed w) 0 h) ∙ set-set map p (accessed w) (written (accessed w)))
    by_store false = refl

pub marks_out : (acc : Access) (map : List ℕ) (a : ℕ) → length map ≤ page_of a → map ≡ marks_of acc map a
unfolding accessed_at written_at word_of
marks_out acc map a h = by_store (is_store acc)
  where
    p : ℕ
    p = page_of a

    once : (v : ℕ) → set map p v ≡ map
    once v = set_out map p v h

    by_store : (s : Bool) → map
        ≡ pick s (set (set map p (accessed (get_or map p 0))) p (written (get_or (set map p (accessed (get_or map p 0))) p 0))) (set map p (accessed (get_or map p 0)))
    by_store true =
        sym (ap (λ (m : List ℕ). set m p (written (get_or m p 0))) (once (accessed (get_or map p 0))) ∙ once (written (get_or map p 0)))
    by_store false = sym (once (accessed (get_or map p 0)))

-- the word with them, as the code makes it
pub marks_store : (w : ℕ) (acc : Access) (s : Bool) → s ≡ is_store acc → s ≡ true → 49152 + w % 16384 ≡ with_marks w acc
unfolding with_marks accessed written
marks_store w acc s e t = rw (← e, t) (omega arith)

pub marks_load : (w : ℕ) (acc : Access) (s : Bool) → s ≡ is_store acc → s ≡ false → w / 32768 * 32768 + 16384 + w % 16384 ≡ with_marks w acc
unfolding with_marks accessed
marks_load w acc s e t = rw (← e, t) refl

-- a page that lies in memory to its end is reached to its end
pub in_memory : (left n r : ℕ) → (left ≡ 0 → ⊥) → r + left ≤ n → r < n
in_memory left n r some h = omega arith

pub all_left_lem : (left n r : ℕ) → r + left ≤ n → left ≡ fewer left (n - r)
all_left_lem left n r h = rw (le-ltb (n - r) left (omega arith))
