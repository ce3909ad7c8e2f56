-- As far as a look-up reaches, no further one is needed: the bytes are read, written, moved and compared by real address.
use Rattle.std.proofs.Common.{◌≡◌, ℕ, zero, suc, ◌+◌, ◌-◌, ◌*◌, ◌/◌, ◌%◌, ◌^◌, ◌<◌, ◌≤◌, eqb, List, length, get_or, set, sym, refl, ap, ◌∙◌, add-zero, arith, length-set}
use Rattle.words.specs.Pick.{pick}
use Rattle.words.specs.Codes.{compare_bits}
use Rattle.pages.specs.declared.Access.{Access}
use Rattle.pages.specs.declared.Access.TheVariants.{Load, Store}
use Rattle.pages.specs.Word.{page_of, next, written}
use Rattle.pages.specs.Look.{Look, At, look_of}
use Rattle.pages.specs.Framed.{Framed, framed_of, written_at, read_byte, write_byte}
use Rattle.pages.proofs.ReachLaws.{reach_behind, reach_next, reach_page, reach_some}
use Rattle.pages.proofs.Marks.{written_quiet, look_quiet, written_again}
use Rattle.fields.specs.Direct.{look_field, look_one, read_field, write_field, move_field, compare_field, flat, flat_put, flat_move, flat_compare}
use Rattle.fields.proofs.Pieces.{look_pieces, move_pieces}

-- looked up
module _ (map : List ℕ) (size : ℕ) (acc : Access) (a r k : ℕ) (e : look_of map size acc a ≡ At r k) where
  clear : (rest : Look) (n d : ℕ) → d + n ≤ k → look_field map size acc (a + d) n rest ≡ rest
  unfolding look_field
  clear rest zero d h = refl
  clear rest (suc n) d h =
      let j : d < k = omega arith in
      rw (reach_behind map size acc a r k e d j, reach_next map size acc a r k e d j) (clear rest n (d + 1) (omega arith))

  pub reach_clear : (n : ℕ) → n ≤ k → (rest : Look) → look_field map size acc a n rest ≡ rest
  reach_clear n h rest =
      ap (λ (b : ℕ). look_field map size acc b n rest) (sym (add-zero a)) ∙ clear rest n 0 (omega arith)

  pub reach_one : (n : ℕ) → n ≤ k → At r k ≡ look_one map size acc a n
  unfolding look_one
  reach_one n h = sym e ∙ sym (reach_clear n h (look_of map size acc a))

  -- and on from there
  pub reach_on : (n s : ℕ) (rest : Look) → 0 < s → s ≤ n → s ≤ k
      → look_field map size acc a n rest ≡ look_field map size acc ((a + s) % 16777216) (n - s) rest
  reach_on n s rest p h l =
      look_pieces n s p h map size acc a rest ∙ reach_clear s l (look_field map size acc ((a + s) % 16777216) (n - s) rest)

-- read
module _ (mem map : List ℕ) (a r k : ℕ) (e : look_of map (length mem) Load a ≡ At r k) where
  byte_there : (d : ℕ) → d < k → read_byte (framed_of mem map) (a + d) ≡ get_or mem (r + d) 0
  unfolding read_byte
  byte_there d h = rw (reach_behind map (length mem) Load a r k e d h)

  read_from : (n d v : ℕ) → d + n ≤ k → flat mem (r + d) n v ≡ read_field (framed_of mem map) (a + d) n v
  unfolding flat read_field
  read_from zero d v h = refl
  read_from (suc n) d v h =
      let j : d < k = omega arith in
      rw (byte_there d j, reach_next map (length mem) Load a r k e d j)
      (ap (λ (x : ℕ). flat mem x n (v * 256 + get_or mem (r + d) 0)) (omega arith) ∙ read_from n (d + 1) (v * 256 + get_or mem (r + d) 0) (omega arith))

  pub reach_read : (n : ℕ) → n ≤ k → (v : ℕ) → flat mem r n v ≡ read_field (framed_of mem map) a n v
  reach_read n h v =
      ap (λ (x : ℕ). flat mem x n v) (sym (add-zero r))
      ∙ read_from n 0 v (omega arith)
      ∙ ap (λ (x : ℕ). read_field (framed_of mem map) x n v) (add-zero a)

-- written: W noted once
module _ (map : List ℕ) (size a r k : ℕ) (e : look_of map size Store a ≡ At r k) where
  first_put : (mem : List ℕ) → length mem ≡ size → (x : ℕ) → write_byte (framed_of mem map) a x ≡ framed_of (set mem r x) (written_at map a)
  unfolding write_byte
  first_put mem s x = rw (ap (λ (z : ℕ). look_of map z Store a) s ∙ e)

  next_put : (mem : List ℕ) → length mem ≡ size → (d x : ℕ) → d < k
      → write_byte (framed_of mem (written_at map a)) (a + d) x ≡ framed_of (set mem (r + d) x) (written_at map a)
  unfolding write_byte
  next_put mem s d x h =
      rw there (ap (framed_of (set mem (r + d) x)) (written_again map a (a + d) (reach_page map size Store a r k e d h)))
    where
      there : look_of (written_at map a) (length mem) Store (a + d) ≡ At (r + d) (k - d)
      there =
          ap (λ (z : ℕ). look_of (written_at map a) z Store (a + d)) s
          ∙ unfold written_at in look_quiet written written_quiet map (page_of a) size Store (a + d)
          ∙ reach_behind map size Store a r k e d h

  second : next a ≡ a + 1
  second = let z : 0 < k = reach_some map size Store a r k e in ap next (sym (add-zero a)) ∙ reach_next map size Store a r k e 0 z

  put_from : (mem : List ℕ) → length mem ≡ size → (n d v : ℕ) → d + n ≤ k
      → framed_of (flat_put mem (r + d) n v) (written_at map a) ≡ write_field (framed_of mem (written_at map a)) (a + d) n v
  unfolding flat_put write_field
  put_from mem s zero d v h = refl
  put_from mem s (suc n) d v h =
      let j : d < k = omega arith in
      rw (next_put mem s d (v / 256 ^ n % 256) j, reach_next map size Store a r k e d j)
      (ap (λ (x : ℕ). framed_of (flat_put (set mem (r + d) (v / 256 ^ n % 256)) x n v) (written_at map a)) (omega arith)
      ∙ put_from (set mem (r + d) (v / 256 ^ n % 256)) (length-set mem (r + d) (v / 256 ^ n % 256) ∙ s) n (d + 1) v (omega arith))

  pub reach_put : (mem : List ℕ) → length mem ≡ size → (n : ℕ) → 0 < n → n ≤ k → (v : ℕ)
      → framed_of (flat_put mem r n v) (written_at map a) ≡ write_field (framed_of mem map) a n v
  unfolding flat_put write_field
  reach_put mem s zero p h v = absurd (omega arith)
  reach_put mem s (suc n) p h v =
      rw (first_put mem s (v / 256 ^ n % 256))
      (put_from (set mem r (v / 256 ^ n % 256)) (length-set mem r (v / 256 ^ n % 256) ∙ s) n 1 v (omega arith)
      ∙ ap (λ (x : ℕ). write_field (framed_of (set mem r (v / 256 ^ n % 256)) (written_at map a)) x n v) (sym second))

-- moved, byte by byte, left to right
module _ (map : List ℕ) (size a b r q k j : ℕ) (e : look_of map size Store a ≡ At r k) (f : look_of map size Load b ≡ At q j) where
  got : (mem : List ℕ) → length mem ≡ size → (d : ℕ) → d < j → read_byte (framed_of mem (written_at map a)) (b + d) ≡ get_or mem (q + d) 0
  unfolding read_byte
  got mem s d h = rw there
    where
      there : look_of (written_at map a) (length mem) Load (b + d) ≡ At (q + d) (j - d)
      there =
          ap (λ (z : ℕ). look_of (written_at map a) z Load (b + d)) s
          ∙ unfold written_at in look_quiet written written_quiet map (page_of a) size Load (b + d)
          ∙ reach_behind map size Load b q j f d h

  first_got : (mem : List ℕ) → length mem ≡ size → read_byte (framed_of mem map) b ≡ get_or mem q 0
  unfolding read_byte
  first_got mem s = rw (ap (λ (z : ℕ). look_of map z Load b) s ∙ f)

  second_got : next b ≡ b + 1
  second_got = let z : 0 < j = reach_some map size Load b q j f in ap next (sym (add-zero b)) ∙ reach_next map size Load b q j f 0 z

  move_from : (mem : List ℕ) → length mem ≡ size → (n d : ℕ) → d + n ≤ k → d + n ≤ j
      → framed_of (flat_move mem (r + d) (q + d) n) (written_at map a) ≡ move_field (framed_of mem (written_at map a)) (a + d) (b + d) n
  unfolding flat_move move_field
  move_from mem s zero d h l = refl
  move_from mem s (suc n) d h l =
      let x : d < k = omega arith in
      let y : d < j = omega arith in
      rw (got mem s d y, next_put map size a r k e mem s d (get_or mem (q + d) 0) x, reach_next map size Store a r k e d x, reach_next map size Load b q j f d y)
      (ap (λ (x : ℕ). framed_of (flat_move (set mem (r + d) (get_or mem (q + d) 0)) x (q + d + 1) n) (written_at map a)) (omega arith)
      ∙ ap (λ (x : ℕ). framed_of (flat_move (set mem (r + d) (get_or mem (q + d) 0)) (r + (d + 1)) x n) (written_at map a)) (omega arith)
      ∙ move_from (set mem (r + d) (get_or mem (q + d) 0)) (length-set mem (r + d) (get_or mem (q + d) 0) ∙ s) n (d + 1) (omega arith) (omega arith))

  pub reach_move : (mem : List ℕ) → length mem ≡ size → (n : ℕ) → 0 < n → n ≤ k → n ≤ j
      → framed_of (flat_move mem r q n) (written_at map a) ≡ move_field (framed_of mem map) a b n
  unfolding flat_move move_field
  reach_move mem s zero p h l = absurd (omega arith)
  reach_move mem s (suc n) p h l =
      rw (first_got mem s, first_put map size a r k e mem s (get_or mem q 0))
      (move_from (set mem r (get_or mem q 0)) (length-set mem r (get_or mem q 0) ∙ s) n 1 (omega arith) (omega arith)
      ∙ ap (λ (x : ℕ). move_field (framed_of (set mem r (get_or mem q 0)) (written_at map a)) x (b + 1) n) (sym (second map size a r k e))
      ∙ ap (λ (x : ℕ). move_field (framed_of (set mem r (get_or mem q 0)) (written_at map a)) (next a) x n) (sym second_got))

  -- and on from there
  pub reach_moved : (mem : List ℕ) → length mem ≡ size → (n s : ℕ) → 0 < s → s ≤ n → s ≤ k → s ≤ j → (mem' map' : List ℕ)
      → mem' ≡ flat_move mem r q s → map' ≡ written_at map a
      → move_field (framed_of mem map) a b n ≡ move_field (framed_of mem' map') ((a + s) % 16777216) ((b + s) % 16777216) (n - s)
  reach_moved mem z n s p h l m mem' map' em en =
      move_pieces n s p h (framed_of mem map) a b
      ∙ ap (λ (t : Framed). move_field t ((a + s) % 16777216) ((b + s) % 16777216) (n - s)) (sym (reach_move mem z s p l m))
      ∙ rw (em, en)

-- compared
module _ (mem map : List ℕ) (a b r q k j : ℕ) (e : look_of map (length mem) Load a ≡ At r k) (f : look_of map (length mem) Load b ≡ At q j) where
  compare_from : (n d : ℕ) → d + n ≤ k → d + n ≤ j → flat_compare mem (r + d) (q + d) n ≡ compare_field (framed_of mem map) (a + d) (b + d) n
  unfolding flat_compare compare_field
  compare_from zero d h l = refl
  compare_from (suc n) d h l =
      let x : d < k = omega arith in
      let y : d < j = omega arith in
      rw (byte_there mem map a r k e d x, byte_there mem map b q j f d y, reach_next map (length mem) Load a r k e d x, reach_next map (length mem) Load b q j f d y)
      (ap (λ (x : ℕ). pick (eqb (get_or mem (r + d) 0) (get_or mem (q + d) 0)) x (compare_bits (get_or mem (r + d) 0) (get_or mem (q + d) 0)))
      (ap (λ (x : ℕ). flat_compare mem x (q + d + 1) n) (omega arith)
      ∙ ap (λ (x : ℕ). flat_compare mem (r + (d + 1)) x n) (omega arith)
      ∙ compare_from n (d + 1) (omega arith) (omega arith)))

  pub reach_compare : (n : ℕ) → n ≤ k → n ≤ j → flat_compare mem r q n ≡ compare_field (framed_of mem map) a b n
  reach_compare n h l =
      ap (λ (x : ℕ). flat_compare mem x q n) (sym (add-zero r))
      ∙ ap (λ (x : ℕ). flat_compare mem (r + 0) x n) (sym (add-zero q))
      ∙ compare_from n 0 (omega arith) (omega arith)
      ∙ ap (λ (x : ℕ). compare_field (framed_of mem map) x (b + 0) n) (add-zero a)
      ∙ ap (λ (x : ℕ). compare_field (framed_of mem map) a x n) (add-zero b)
