-- Load Multiple and Store Multiple as far as a look-up reaches: by real address they do the same as word by word through the map.
use Prim.Native.Nat.{ℕ, zero, suc, ◌+◌, ◌-◌, ◌*◌, ◌/◌, ◌%◌, ◌^◌, ◌<◌, ◌≤◌}
use native.Mathlib.Omega.{arith}
use native.Mathlib.Nat.{add-zero}
use mathlib.Core.Path.{◌≡◌, refl, sym, ◌∙◌, ap, subst}
use mathlib.Core.List.{List}
use lib.ListN.{length, get_or, set, length-set}
use Rattle.pages.specs.declared.Access.{Access}
use Rattle.pages.specs.declared.Access.TheVariants.{Load, Store}
use Rattle.pages.specs.declared.Cause.{Cause}
use Rattle.pages.specs.Word.{page_of, written}
use Rattle.pages.specs.Look.{Look, At, Refused, fewer, look_of}
use Rattle.pages.specs.Framed.{framed_of, written_at}
use Rattle.pages.proofs.ReachLaws.{reach_behind, reach_below, reach_fits, reach_inside, reach_page}
use Rattle.pages.proofs.Marks.{written_quiet, look_quiet, written_again}
use Rattle.machine.specs.Rs.{next_reg, next_word}
use Rattle.fields.specs.Direct.{look_one, Clear, note_field, read_field, write_field, flat, flat_put}
use Rattle.fields.proofs.Found.{note_blind, whole_first}
use Rattle.fields.proofs.Pieces.{piece_within, piece_reached, piece_some}
use Rattle.fields.proofs.Reached.{reach_read, reach_put}
use Rattle.fields.proofs.Cleared.{found_clear, clear_first, clear_on, clear_word, clear_alike}
use Rattle.rs_ss.specs.Multiple.{words, filled, spilled, filled_at, spilled_at}
use Rattle.rs_ss.proofs.RegisterLoops.{words_parts}

word_on : (a k d : ℕ) → a + k ≤ 2097152 → d + 4 ≤ k → next_word (a + d) ≡ a + (d + 4)
word_on a k d b h = omega arith

-- read
module _ (mem map : List ℕ) (a q k : ℕ) (e : look_of map (length mem) Load a ≡ At q k) where
  fill_from : (n r d : ℕ) (regs : List ℕ) → d + n * 4 ≤ k → filled_at mem n r (q + d) regs ≡ filled (framed_of mem map) n r (a + d) regs
  unfolding words filled_at filled
  fill_from zero r d regs h = refl
  fill_from (suc n) r d regs h =
      let v : flat mem (q + d) 4 0 ≡ read_field (framed_of mem map) (a + d) 4 0
      = reach_read mem map (a + d) (q + d) (k - d) (reach_behind map (length mem) Load a q k e d (omega arith)) 4 (omega arith) 0 in
      let w : q + d + 4 ≡ q + (d + 4) = omega arith in
      rw (← v, word_on a k d (reach_below map (length mem) Load a q k e) (omega arith), w)
      (fill_from n (next_reg r) (d + 4) (set regs r (flat mem (q + d) 4 0)) (omega arith))

  fill_reached : (n r : ℕ) (regs : List ℕ) → n * 4 ≤ k → filled_at mem n r q regs ≡ filled (framed_of mem map) n r a regs
  fill_reached n r regs h =
      ap (λ (x : ℕ). filled_at mem n r x regs) (sym (add-zero q))
      ∙ fill_from n r 0 regs (omega arith)
      ∙ ap (λ (x : ℕ). filled (framed_of mem map) n r x regs) (add-zero a)

  -- and on from there
  pub fill_on : (left n r : ℕ) (regs regs' : List ℕ) → 0 < n → n ≤ left → n * 4 ≤ k → regs' ≡ filled_at mem n r q regs
      → filled (framed_of mem map) left r a regs ≡ filled (framed_of mem map) (left - n) ((r + n) % 16) ((a + n * 4) % 16777216) regs'
  unfolding filled
  fill_on left n r regs regs' p h l er =
      words_parts (λ r a regs. set regs r (read_field (framed_of mem map) a 4 0)) n left r a regs p h
      ∙ ap (filled (framed_of mem map) (left - n) ((r + n) % 16) ((a + n * 4) % 16777216)) (sym (er ∙ fill_reached n r regs l))

-- written
put_length : (mem : List ℕ) (r n v : ℕ) → length (flat_put mem r n v) ≡ length mem
unfolding flat_put
put_length mem r zero v = refl
put_length mem r (suc n) v = put_length (set mem r (v / 256 ^ n % 256)) (r + 1) n v ∙ length-set mem r (v / 256 ^ n % 256)

module _ (map : List ℕ) (size a q k : ℕ) (e : look_of map size Store a ≡ At q k) where
  there : (d : ℕ) → d < k → look_of (written_at map a) size Store (a + d) ≡ At (q + d) (k - d)
  unfolding written_at
  there d h = look_quiet written written_quiet map (page_of a) size Store (a + d) ∙ reach_behind map size Store a q k e d h

  word_put : (mem : List ℕ) → length mem ≡ size → (d v : ℕ) → d + 4 ≤ k
      → framed_of (flat_put mem (q + d) 4 v) (written_at map a) ≡ write_field (framed_of mem (written_at map a)) (a + d) 4 v
  word_put mem s d v h =
      ap (framed_of (flat_put mem (q + d) 4 v)) (sym (written_again map a (a + d) (reach_page map size Store a q k e d (omega arith))))
      ∙ reach_put (written_at map a) size (a + d) (q + d) (k - d) (there d (omega arith)) mem s 4 (omega arith) (omega arith) v

  spill_from : (n r d : ℕ) (regs mem : List ℕ) → length mem ≡ size → d + n * 4 ≤ k
      → framed_of (spilled_at regs n r (q + d) mem) (written_at map a) ≡ spilled regs n r (a + d) (framed_of mem (written_at map a))
  unfolding words spilled_at spilled
  spill_from zero r d regs mem s h = refl
  spill_from (suc n) r d regs mem s h =
      let v = get_or regs r 0 in
      let w : q + d + 4 ≡ q + (d + 4) = omega arith in
      rw (← word_put mem s d v (omega arith), word_on a k d (reach_below map size Store a q k e) (omega arith), w)
      (spill_from n (next_reg r) (d + 4) regs (flat_put mem (q + d) 4 v) (put_length mem (q + d) 4 v ∙ s) (omega arith))

  spill_reached : (n r : ℕ) (regs mem : List ℕ) → length mem ≡ size → 0 < n → n * 4 ≤ k
      → framed_of (spilled_at regs n r q mem) (written_at map a) ≡ spilled regs n r a (framed_of mem map)
  unfolding words spilled_at spilled
  spill_reached zero r regs mem s p h = absurd (omega arith)
  spill_reached (suc n) r regs mem s p h =
      let v = get_or regs r 0 in
      let w : next_word a ≡ a + 4 = (let b = reach_below map size Store a q k e in omega arith) in
      rw (← reach_put map size a q k e mem s 4 (omega arith) (omega arith) v, w)
      (spill_from n (next_reg r) 4 regs (flat_put mem q 4 v) (put_length mem q 4 v ∙ s) (omega arith))

  pub spill_on : (left n r : ℕ) (regs mem mem' map' : List ℕ) → length mem ≡ size → 0 < n → n ≤ left → n * 4 ≤ k
      → mem' ≡ spilled_at regs n r q mem → map' ≡ written_at map a
      → spilled regs left r a (framed_of mem map)
      ≡ spilled regs (left - n) ((r + n) % 16) ((a + n * 4) % 16777216) (framed_of mem' map')
  unfolding spilled
  spill_on left n r regs mem mem' map' s p h l em en =
      words_parts (λ r a s. write_field s a 4 (get_or regs r 0)) n left r a (framed_of mem map) p h
      ∙ ap (spilled regs (left - n) ((r + n) % 16) ((a + n * 4) % 16777216)) (sym (rw (em, en) (spill_reached n r regs mem s p l)))

-- a field on its boundary, no byte of which is refused, by what a loop over its pieces has in hand
module _ (map : List ℕ) (size : ℕ) (acc : Access) (a left : ℕ) (on : a % 4 ≡ 0) (f : Clear map size acc a (left * 4)) (some : 0 < left) where
  pub never_refused : (found : Look) → found ≡ look_of map size acc a → (c : Cause) (p : ℕ) → found ≡ Refused c p → ⊥
  never_refused found e c p g = clear_first map size acc a (left * 4) f (omega arith) c p (sym e ∙ g)

  module _ (q k n : ℕ) (e : look_of map size acc a ≡ At q k) (en : n ≡ fewer left (k / 4)) where
    -- some of what is left, and whole words of what is reached
    pub piece : (0 < n) × (n ≤ left) × (n * 4 ≤ k)
    piece =
        let w : 4 ≤ k = clear_word map size acc a (left * 4) f q k e on (omega arith) in
        let l : n ≤ k / 4 = piece_reached left (k / 4) n en in
        (piece_some left (k / 4) n en some (omega arith), piece_within left (k / 4) n en, omega arith)

    pub piece_inside : q + n * 4 ≤ size
    piece_inside = omega (arith, reach_inside map size acc a q k e, piece.2)

    pub piece_small : n * 4 ≤ 4096
    piece_small = omega (arith, reach_fits map size acc a q k e, piece.2)

    pub piece_on : ((a + n * 4) % 16777216 % 4 ≡ 0) × Clear map size acc ((a + n * 4) % 16777216) ((left - n) * 4)
    piece_on =
        let z : left * 4 - n * 4 ≡ (left - n) * 4 = omega arith in
        (omega arith, subst (λ (m : ℕ). Clear map size acc ((a + n * 4) % 16777216) m) z (clear_on map size acc a (left * 4) f q k e (n * 4) (omega (arith, piece.0)) (omega (arith, piece.1)) piece.2))

-- what the executors have in hand: the field, looked up whole and marked
module _ (mem map : List ℕ) (acc : Access) (a n r k : ℕ) (found : Look) (e : found ≡ look_one map (length mem) acc a (n * 4)) (f : found ≡ At r k) (h : n * 4 ≤ k) where
  pub words_inside : r + n * 4 ≤ length mem
  words_inside = omega (arith, reach_inside map (length mem) acc a r k (whole_first map (length mem) acc a (n * 4) r k (sym e ∙ f)), h)

  marked : (map' : List ℕ) → map' ≡ note_field map a (n * 4) → look_of map' (length mem) acc a ≡ At r k
  marked map' m =
      ap (λ (x : List ℕ). look_of x (length mem) acc a) m
      ∙ note_blind map a (n * 4) (length mem) acc a
      ∙ whole_first map (length mem) acc a (n * 4) r k (sym e ∙ f)

pub words_filled : (mem map : List ℕ) (a n r k : ℕ) (found : Look) → found ≡ look_one map (length mem) Load a (n * 4) → found ≡ At r k → n * 4 ≤ k
    → (map' : List ℕ) → map' ≡ note_field map a (n * 4) → (x : ℕ) (regs regs' : List ℕ) → regs' ≡ filled_at mem n x r regs
    → regs' ≡ filled (framed_of mem map') n x a regs
words_filled mem map a n r k found e f h map' m x regs regs' er =
    er ∙ fill_reached mem map' a r k (marked mem map Load a n r k found e f h map' m) n x regs h

pub words_spilled : (mem map : List ℕ) (a n r k : ℕ) (found : Look) → found ≡ look_one map (length mem) Store a (n * 4) → found ≡ At r k → n * 4 ≤ k
    → (map' : List ℕ) → map' ≡ note_field map a (n * 4) → 0 < n → (x : ℕ) (regs mem' map'' : List ℕ) → mem' ≡ spilled_at regs n x r mem
    → map'' ≡ written_at map' a → framed_of mem' map'' ≡ spilled regs n x a (framed_of mem map')
words_spilled mem map a n r k found e f h map' m p x regs mem' map'' em en =
    rw (em, en) (spill_reached map' (length mem) a r k (marked mem map Store a n r k found e f h map' m) n x regs mem refl p h)

-- the same of a field over the edge of a page: marked, no byte of it is refused
pub words_clear : (map : List ℕ) (size : ℕ) (acc : Access) (a n r k : ℕ) (found : Look) → found ≡ look_one map size acc a n → found ≡ At r k
    → (map' : List ℕ) → map' ≡ note_field map a n → Clear map' size acc a n
words_clear map size acc a n r k found e f map' m =
    clear_alike map map' size acc (λ b. ap (λ (x : List ℕ). look_of x size acc b) m ∙ note_blind map a n size acc b) a n
    (found_clear map size acc a n r k (sym e ∙ f))

-- and after a store in one of its pages
pub written_clear : (map : List ℕ) (size b a n : ℕ) → Clear map size Store a n → (map' : List ℕ) → map' ≡ written_at map b → (size' : ℕ) → size' ≡ size
    → Clear map' size' Store a n
written_clear map size b a n f map' m size' s =
    subst (λ (z : ℕ). Clear map' z Store a n) (sym s)
    (clear_alike map map' size Store
    (λ c. ap (λ (x : List ℕ). look_of x size Store c) m ∙ unfold written_at in look_quiet written written_quiet map (page_of b) size Store c) a n f)
