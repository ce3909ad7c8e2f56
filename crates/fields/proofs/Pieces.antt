-- A field in two pieces: the first s bytes, and what is left behind them.
use Rattle.std.proofs.Common.{◌≡◌, ℕ, zero, suc, ◌+◌, ◌-◌, ◌%◌, ◌<◌, ◌≤◌, Bool, true, false, eqb, ltb, List, sym, refl, ap, ◌∙◌, arith, ltb-false, eq-eqb, ne_eqb}
use borrow.Author.Tests.{eqb-false}
use Rattle.words.specs.Pick.{pick}
use Rattle.words.specs.Codes.{compare_bits}
use Rattle.pages.specs.declared.Access.{Access}
use Rattle.pages.specs.Word.{next}
use Rattle.pages.specs.Look.{Look, fewer, look_of}
use Rattle.pages.specs.Framed.{Framed, accessed_at, read_byte, write_byte}
use Rattle.pages.proofs.ReachLaws.{fewer_left, fewer_right, fewer_above}
use Rattle.fields.specs.Direct.{or_else, look_field, note_field, move_field, compare_field}

-- one address on, and then s
past_next : (a s : ℕ) → (next a + suc s) % 16777216 ≡ (a + suc (suc s)) % 16777216
unfolding next
past_next a s = omega arith

past_one : (a : ℕ) → next a ≡ (a + 1) % 16777216
unfolding next
past_one a = refl

suc_plus : (s m : ℕ) → suc s + m ≡ suc (s + m)
suc_plus s m = omega arith

-- a piece of what is left, as long as something reaches: some of it, and no more than either
module _ (left k s : ℕ) (e : s ≡ fewer left k) where
  pub piece_within : s ≤ left
  piece_within = rw e (fewer_left left k)

  pub piece_reached : s ≤ k
  piece_reached = rw e (fewer_right left k)

  pub piece_some : 0 < left → 0 < k → 0 < s
  piece_some h l = rw e (fewer_above 0 left k h l)

  pub piece_less : 0 < left → 0 < k → left - s < left
  piece_less h l = omega (arith, piece_within, piece_some h l)

-- what a loop over pieces has to show of them
pub trans : {x y z : ℕ} → x ≤ y → y ≤ z → x ≤ z
trans h l = omega arith

pub room : (r k n s : ℕ) → r + k ≤ n → s ≤ k → r + s ≤ n
room r k n s h l = omega arith

pub less : {s left : ℕ} → 0 < s → s ≤ left → left - s < left
less h l = omega arith

-- each by the number of bytes of the first piece, less one
module _ (map : List ℕ) (size : ℕ) (acc : Access) (m : ℕ) (rest : Look) where
  look_split : (s a : ℕ) → look_field map size acc a (suc s + m) rest
      ≡ look_field map size acc a (suc s) (look_field map size acc ((a + suc s) % 16777216) m rest)
  unfolding look_field
  look_split zero a =
      rw suc_plus
      (let z : zero + m ≡ m = omega arith in
      ap (λ (i : ℕ). or_else (look_of map size acc a) (look_field map size acc (next a) i rest)) z
      ∙ ap (λ (b : ℕ). or_else (look_of map size acc a) (look_field map size acc b m rest)) (past_one a))
  look_split (suc s) a =
      rw suc_plus
      (ap (or_else (look_of map size acc a)) (look_split s (next a))
      ∙ ap (λ (b : ℕ). or_else (look_of map size acc a) (look_field map size acc (next a) (suc s) (look_field map size acc b m rest))) (past_next a s))

note_split : (m s : ℕ) (map : List ℕ) (a : ℕ) → note_field map a (suc s + m) ≡ note_field (note_field map a (suc s)) ((a + suc s) % 16777216) m
unfolding note_field
note_split m zero map a =
    rw suc_plus
    (let z : zero + m ≡ m = omega arith in
    ap (note_field (accessed_at map a) (next a)) z ∙ ap (λ (b : ℕ). note_field (accessed_at map a) b m) (past_one a))
note_split m (suc s) map a =
    rw suc_plus
    (note_split m s (accessed_at map a) (next a)
    ∙ ap (λ (b : ℕ). note_field (note_field (accessed_at map a) (next a) (suc s)) b m) (past_next a s))

move_split : (m s : ℕ) (t : Framed) (a b : ℕ) → move_field t a b (suc s + m)
    ≡ move_field (move_field t a b (suc s)) ((a + suc s) % 16777216) ((b + suc s) % 16777216) m
unfolding move_field
move_split m zero t a b =
    rw suc_plus
    (let z : zero + m ≡ m = omega arith in
    ap (move_field (write_byte t a (read_byte t b)) (next a) (next b)) z
    ∙ ap (λ (x : ℕ). move_field (write_byte t a (read_byte t b)) x (next b) m) (past_one a)
    ∙ ap (λ (x : ℕ). move_field (write_byte t a (read_byte t b)) ((a + 1) % 16777216) x m) (past_one b))
move_split m (suc s) t a b =
    rw suc_plus
    (let u = write_byte t a (read_byte t b) in
    move_split m s u (next a) (next b)
    ∙ ap (λ (x : ℕ). move_field (move_field u (next a) (next b) (suc s)) x ((next b + suc s) % 16777216) m) (past_next a s)
    ∙ ap (λ (x : ℕ). move_field (move_field u (next a) (next b) (suc s)) ((a + suc (suc s)) % 16777216) x m) (past_next b s))

-- two bytes that differ have a code that is not 0
pub unlike_code : (x y : ℕ) → eqb x y ≡ false → eqb (compare_bits x y) 0 ≡ false
unfolding compare_bits
unlike_code x y e = go (ltb x y) refl (ltb y x) refl
  where
    go : (b : Bool) → ltb x y ≡ b → (c : Bool) → ltb y x ≡ c → eqb (pick b 1 (pick c 2 0)) 0 ≡ false
    go true f c g = refl
    go false f true g = refl
    go false f false g = absurd (eqb-false x y e (omega (arith, ltb-false x y f, ltb-false y x g)))

compare_split : (t : Framed) (m s a b : ℕ) → compare_field t a b (suc s + m)
    ≡ pick (eqb (compare_field t a b (suc s)) 0) (compare_field t ((a + suc s) % 16777216) ((b + suc s) % 16777216) m) (compare_field t a b (suc s))
unfolding compare_field
compare_split t m zero a b =
    rw suc_plus
    (let z : zero + m ≡ m = omega arith in
    ap (λ (i : ℕ). pick (eqb (read_byte t a) (read_byte t b)) (compare_field t (next a) (next b) i) (compare_bits (read_byte t a) (read_byte t b))) z
    ∙ rw (past_one a, past_one b) (go (eqb (read_byte t a) (read_byte t b)) refl (compare_field t ((a + 1) % 16777216) ((b + 1) % 16777216) m)))
  where
    go : (q : Bool) → eqb (read_byte t a) (read_byte t b) ≡ q → (x : ℕ)
        → pick q x (compare_bits (read_byte t a) (read_byte t b))
        ≡ pick (eqb (pick q 0 (compare_bits (read_byte t a) (read_byte t b))) 0) x (pick q 0 (compare_bits (read_byte t a) (read_byte t b)))
    go true e x = refl
    go false e x = rw (unlike_code (read_byte t a) (read_byte t b) e)
compare_split t m (suc s) a b =
    rw suc_plus
    (ap (λ (x : ℕ). pick (eqb (read_byte t a) (read_byte t b)) x (compare_bits (read_byte t a) (read_byte t b)))
    (compare_split t m s (next a) (next b) ∙ rw (past_next a s, past_next b s))
    ∙ go (eqb (read_byte t a) (read_byte t b)) refl (compare_field t (next a) (next b) (suc s)) (compare_field t ((a + suc (suc s)) % 16777216) ((b + suc (suc s)) % 16777216) m))
  where
    go : (q : Bool) → eqb (read_byte t a) (read_byte t b) ≡ q → (y x : ℕ)
        → pick q (pick (eqb y 0) x y) (compare_bits (read_byte t a) (read_byte t b))
        ≡ pick (eqb (pick q y (compare_bits (read_byte t a) (read_byte t b))) 0) x (pick q y (compare_bits (read_byte t a) (read_byte t b)))
    go true e y x = refl
    go false e y x = rw (unlike_code (read_byte t a) (read_byte t b) e)

-- the same by n, the whole, and s, the first piece
module _ (n s : ℕ) (p : 0 < s) (h : s ≤ n) where
  parts : suc (s - 1) + (n - s) ≡ n
  parts = omega arith

  one_less : suc (s - 1) ≡ s
  one_less = omega arith

  pub look_pieces : (map : List ℕ) (size : ℕ) (acc : Access) (a : ℕ) (rest : Look)
      → look_field map size acc a n rest ≡ look_field map size acc a s (look_field map size acc ((a + s) % 16777216) (n - s) rest)
  look_pieces map size acc a rest =
      ap (λ (i : ℕ). look_field map size acc a i rest) (sym parts)
      ∙ look_split map size acc (n - s) rest (s - 1) a
      ∙ ap (λ (i : ℕ). look_field map size acc a i (look_field map size acc ((a + i) % 16777216) (n - s) rest)) one_less

  pub note_pieces : (map : List ℕ) (a : ℕ) → note_field map a n ≡ note_field (note_field map a s) ((a + s) % 16777216) (n - s)
  note_pieces map a =
      ap (note_field map a) (sym parts)
      ∙ note_split (n - s) (s - 1) map a
      ∙ ap (λ (i : ℕ). note_field (note_field map a i) ((a + i) % 16777216) (n - s)) one_less

  pub move_pieces : (t : Framed) (a b : ℕ)
      → move_field t a b n ≡ move_field (move_field t a b s) ((a + s) % 16777216) ((b + s) % 16777216) (n - s)
  move_pieces t a b =
      ap (move_field t a b) (sym parts)
      ∙ move_split (n - s) (s - 1) t a b
      ∙ ap (λ (i : ℕ). move_field (move_field t a b i) ((a + i) % 16777216) ((b + i) % 16777216) (n - s)) one_less

  pub compare_pieces : (t : Framed) (a b : ℕ) → compare_field t a b n
      ≡ pick (eqb (compare_field t a b s) 0) (compare_field t ((a + s) % 16777216) ((b + s) % 16777216) (n - s)) (compare_field t a b s)
  compare_pieces t a b =
      ap (compare_field t a b) (sym parts)
      ∙ compare_split t (n - s) (s - 1) a b
      ∙ ap (λ (i : ℕ). pick (eqb (compare_field t a b i) 0) (compare_field t ((a + i) % 16777216) ((b + i) % 16777216) (n - s)) (compare_field t a b i)) one_less

  -- by the code c of the first piece
  module _ (t : Framed) (a b c : ℕ) (e : c ≡ compare_field t a b s) where
    pub compare_unlike : (c ≡ 0 → ⊥) → c ≡ compare_field t a b n
    compare_unlike f = sym (compare_pieces t a b ∙ rw (← e, ne_eqb c 0 f))

    pub compare_alike : c ≡ 0 → compare_field t a b n ≡ compare_field t ((a + s) % 16777216) ((b + s) % 16777216) (n - s)
    compare_alike f = compare_pieces t a b ∙ rw (← e, eq-eqb c 0 f)
