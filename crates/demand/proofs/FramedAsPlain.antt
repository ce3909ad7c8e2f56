-- The framed store under the premise and the plain store with the same pages answer alike and stay so.
use Prim.Native.Nat.{ℕ, zero, suc, ◌%◌, ◌<◌}
use native.Mathlib.Omega.{arith}
use native.Mathlib.Decide.{ℕ_discrete}
use mathlib.Core.Path.{◌≡◌, refl, sym, ◌∙◌, ap, subst}
use mathlib.Core.Logic.{◌≢◌}
use mathlib.Core.List.{List, [], ◌∷◌, map}
use borrow.Author.Tests.{lt-ltb, eq-eqb, ne_eqb}
use lib.Dec.{eqb}
use lib.ListN.{length, get_or, set, length-set, get_or-map}
use lib.Seq.{get_or-set_same, get_or-set_other}
use Rattle.words.specs.Pick.{pick, both}
use Rattle.pages.specs.declared.Access.{Access}
use Rattle.pages.specs.declared.Access.TheVariants.{Load, Store}
use Rattle.pages.specs.Word.{bits_x, size, real, page_of, disp_of, word_of, Open, accessed, written}
use Rattle.pages.specs.Tests.{Verdict, fine, bad, tests}
use Rattle.pages.specs.Look.{Look, At, Refused, reach, look_of, test_seven, verdict_of}
use Rattle.pages.specs.Framed.{Framed, framed_of, look_in, noted, accessed_at, written_at, read_at, read_byte, write_at, write_byte}
use Rattle.pages.proofs.Marks.{changed, changed_keeps}
use Rattle.machine.specs.Store.{framed}
use Rattle.demand.specs.Plain.{Plain, plain_of, bare, stored, plain, look_plain, note_plain, read_if, read_plain, write_if, write_plain}
use Rattle.demand.specs.Premise.{Inside, Apart, Premise}
use Rattle.demand.specs.DemandThree.{SamePages}
use Rattle.demand.proofs.AlikeStores.{Laws}
use Rattle.demand.proofs.PageWords.{Twin, base_twin, size_twin, real_twin, open_twin, page-twin, accessed_twin, written_twin, bare_accessed, bare_written, tests_bare, passed}

-- the tie: the premise, and the same pages
pub record Same (s : Framed) (q : Plain) : Type 0 where
  pub premise : Premise (length s.mem) s.map
  pub pages : SamePages s q

-- maps whose words differ in marks at most
abbrev pub Twins : List ℕ → List ℕ → Type 0
Twins ws vs = (p : ℕ) → Twin (word_of ws p) (word_of vs p)

pub changed_twins : (f : ℕ → ℕ) → ((w : ℕ) → Twin (f w) w) → (p : ℕ) (ws : List ℕ) → Twins (changed f p ws) ws
changed_twins f t p ws r = changed_keeps f (λ w. w % 16384) t ws p r

module _ (n : ℕ) (ws vs : List ℕ) (t : Twins ws vs) where
  pub premise_twins : Premise n vs → Premise n ws
  premise_twins h = record { inside = within_memory; apart = one_page }
    where
      within_memory : Inside n ws
      within_memory p o =
          rw
          (base_twin (word_of ws p) (word_of vs p) (t p), size_twin (word_of ws p) (word_of vs p) (t p))
          (h.inside p (search page-twin))

      one_page : Apart ws
      one_page p q d e o o' l l' same =
          h.apart
          p
          q
          d
          e
          (search page-twin)
          (search page-twin)
          (rw (size_twin (word_of ws p) (word_of vs p) (t p)) at l)
          (rw (size_twin (word_of ws q) (word_of vs q) (t q)) at l')
          (rw (real_twin (word_of ws p) (word_of vs p) (t p) d, real_twin (word_of ws q) (word_of vs q) (t q) e) at same)

map_set : (f : ℕ → ℕ) (l : List ℕ) (i v : ℕ) → map f (set l i v) ≡ set (map f l) i (f v)
map_set f [] i v = refl
map_set f (x ∷ xs) zero v = refl
map_set f (x ∷ xs) (suc i) v = ap (λ (t : List ℕ). f x ∷ t) (map_set f xs i v)

-- the word of a page in the plain store
bare_word : (ws : List ℕ) (p : ℕ) → word_of (map bare ws) p ≡ bare (word_of ws p)
unfolding word_of bare bits_x
bare_word ws p = get_or-map bare ws p 0

-- a mark on one page, set in both stores
marked_same : (f : ℕ → ℕ) → ((w : ℕ) → Twin (f w) w) → ((w : ℕ) → bare (f w) ≡ f (bare w)) → (p : ℕ) (s : Framed) (q : Plain)
    → Same s q → Same (framed_of s.mem (changed f p s.map)) (plain_of (changed f p q.bits) q.pages)
marked_same f t c p s q h =
    record {
      premise = premise_twins (length s.mem) (changed f p s.map) s.map twins h.premise;
      pages = record { bits = bits; bytes = bytes };
    }
  where
    twins : Twins (changed f p s.map) s.map
    twins = changed_twins f t p s.map

    bits : changed f p q.bits ≡ map bare (changed f p s.map)
    bits =
        ap (changed f p) h.pages.bits
        ∙ ap (λ (w : ℕ). set (map bare s.map) p (f w)) (bare_word s.map p)
        ∙ ap (set (map bare s.map) p) (sym (c (word_of s.map p)))
        ∙ sym (map_set bare s.map p (f (word_of s.map p)))

    bytes : (r d : ℕ) → Open (word_of (changed f p s.map) r) → d < size (word_of (changed f p s.map) r)
        → get_or s.mem (real (word_of (changed f p s.map) r) d) 0 ≡ q.pages r d
    bytes r d o l =
        rw
        (real_twin (word_of (changed f p s.map) r) (word_of s.map r) (twins r) d)
        (h.pages.bytes
        r
        d
        (open_twin (word_of (changed f p s.map) r) (word_of s.map r) (twins r) o)
        (rw (size_twin (word_of (changed f p s.map) r) (word_of s.map r) (twins r)) at l))

stored_hit : (pages : ℕ → ℕ → ℕ) (p d v p' d' : ℕ) → p' ≡ p → d' ≡ d → stored pages p d v p' d' ≡ v
unfolding stored
stored_hit pages p d v p' d' h k = rw (eq-eqb p' p h, eq-eqb d' d k)

stored_miss : (pages : ℕ → ℕ → ℕ) (p d v p' d' : ℕ) → (p' ≡ p → d' ≢ d) → stored pages p d v p' d' ≡ pages p' d'
unfolding stored
stored_miss pages p d v p' d' h = go (ℕ_discrete p' p)
  where
    go : Dec (p' ≡ p) → pick (both (eqb p' p) (eqb d' d)) v (pages p' d') ≡ pages p' d'
    go (yes e) = rw (eq-eqb p' p e, ne_eqb d' d (h e))
    go (no e) = rw (ne_eqb p' p e)

-- a byte of an open page lies in memory
within_page : (s : Framed) (p d : ℕ) → Premise (length s.mem) s.map → Open (word_of s.map p) → d < size (word_of s.map p)
    → real (word_of s.map p) d < length s.mem
unfolding real
within_page s p d h o l = omega (arith, h.inside p o, l)

real_inj : (w d e : ℕ) → real w d ≡ real w e → d ≡ e
unfolding real
real_inj w d e h = omega (arith, h)

-- a byte of an open page, stored in both
stored_same : (p d v : ℕ) (s : Framed) (q : Plain) → Same s q → Open (word_of s.map p) → d < size (word_of s.map p)
    → Same (framed_of (set s.mem (real (word_of s.map p) d) v) s.map) (plain_of q.bits (stored q.pages p d v))
stored_same p d v s q h o l =
    record {
      premise = subst (λ (n : ℕ). Premise n ws) (sym (length-set s.mem at v)) h.premise;
      pages = record { bits = h.pages.bits; bytes = λ r e o' l'. byte r e o' l' (ℕ_discrete (real (word_of ws r) e) at) };
    }
  where
    ws : List ℕ
    ws = s.map

    at : ℕ
    at = real (word_of s.map p) d

    byte : (r e : ℕ) → Open (word_of ws r) → e < size (word_of ws r) → Dec (real (word_of ws r) e ≡ at)
        → get_or (set s.mem at v) (real (word_of ws r) e) 0 ≡ stored q.pages p d v r e
    byte r e o' l' (yes k) =
        let same : r ≡ p = h.premise.apart r p e d o' o l' l k in
        ap (λ (i : ℕ). get_or (set s.mem at v) i 0) k
        ∙ get_or-set_same s.mem at v 0 (within_page s p d h.premise o l)
        ∙ sym
        (stored_hit q.pages p d v r e same
        (real_inj (word_of ws p) e d (subst (λ (i : ℕ). real (word_of ws i) e ≡ at) same k)))
    byte r e o' l' (no k) =
        get_or-set_other s.mem at (real (word_of ws r) e) v 0 k
        ∙ h.pages.bytes r e o' l'
        ∙ sym
        (stored_miss q.pages p d v r e
        (λ same also. k (ap (λ (i : ℕ). real (word_of ws i) e) same ∙ ap (real (word_of ws p)) also)))

-- under the premise test 7 never fails, so that a look-up is tests 1 to 6 alone
abbrev placed : Verdict → ℕ → ℕ → ℕ → Look
placed fine r k a = At r k
placed (bad c) r k a = Refused c a

within_placed : (v : Verdict) (r k n a : ℕ) → (v ≡ fine → r < n) → test_seven v r k n a ≡ placed v r k a
within_placed fine r k n a h = rw (lt-ltb r n (h refl))
within_placed (bad c) r k n a h = refl

module _ (s : Framed) (q : Plain) (h : Same s q) (a : ℕ) where
  abbrev word : ℕ
  word = word_of s.map (page_of a)

  abbrev place : ℕ
  place = real (word_of s.map (page_of a)) (disp_of a)

  abbrev far : ℕ
  far = reach (word_of s.map (page_of a)) (disp_of a) (length s.mem)

  look_placed : (acc : Access) → look_in s acc a ≡ placed (tests acc a word) place far a
  unfolding look_of
  look_placed acc =
      within_placed (tests acc a word) place far (length s.mem) a
      (λ e. within_page s (page_of a) (disp_of a) h.premise (passed acc a word e).open_page (passed acc a word e).near)

  look_plain_lem : (acc : Access) → look_plain q acc a ≡ tests acc a word
  unfolding look_plain
  look_plain_lem acc =
      ap (λ (b : List ℕ). tests acc a (word_of b (page_of a))) h.pages.bits
      ∙ ap (tests acc a) (bare_word s.map (page_of a))
      ∙ tests_bare acc a word

  looked_tie : (acc : Access) → verdict_of (look_in s acc a) ≡ look_plain q acc a
  looked_tie acc = ap verdict_of (look_placed acc) ∙ verdict (tests acc a word) ∙ sym (look_plain_lem acc)
    where
      verdict : (v : Verdict) → verdict_of (placed v place far a) ≡ v
      verdict fine = refl
      verdict (bad c) = refl

  noted_tie : Same (noted s a) (note_plain q a)
  unfolding note_plain accessed_at
  noted_tie = marked_same accessed accessed_twin bare_accessed (page_of a) s q h

  read_tie : read_byte s a ≡ read_plain q a
  unfolding read_byte read_plain
  read_tie =
      ap (read_at s.mem) (look_placed Load)
      ∙ byte (tests Load a word) refl
      ∙ ap (λ (v : Verdict). read_if v (q.pages (page_of a) (disp_of a))) (sym (look_plain_lem Load))
    where
      byte : (v : Verdict) → tests Load a word ≡ v → read_at s.mem (placed v place far a) ≡ read_if v (q.pages (page_of a) (disp_of a))
      byte fine e =
          h.pages.bytes (page_of a) (disp_of a) (passed Load a word e).open_page (passed Load a word e).near
      byte (bad c) e = refl

  wrote_tie : (v : ℕ) → Same (write_byte s a v) (write_plain q a v)
  unfolding write_byte write_plain
  wrote_tie v =
      rw (look_placed Store, look_plain_lem Store) (both_wrote (tests Store a word) refl)
    where
      after : Plain
      after = plain_of (written_at q.bits a) (stored q.pages (page_of a) (disp_of a) v)

      both_wrote : (t : Verdict) → tests Store a word ≡ t → Same (write_at s a v (placed t place far a)) (write_if t q after)
      both_wrote fine e =
          unfold written_at in
          marked_same written written_twin bare_written (page_of a)
          (framed_of (set s.mem place v) s.map)
          (plain_of q.bits (stored q.pages (page_of a) (disp_of a) v))
          (stored_same (page_of a) (disp_of a) v s q h (passed Store a word e).open_page (passed Store a word e).near)
      both_wrote (bad c) e = h

pub ties : Laws framed plain Same
ties =
    record {
      looked = λ s q acc a h. looked_tie s q h a acc;
      noted = λ s q acc a h. noted_tie s q h a;
      read = λ s q a h. read_tie s q h a;
      wrote = λ s q a v h. wrote_tie s q h a v;
    }
