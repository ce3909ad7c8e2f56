-- A word is four bytes, a halfword two: read and written.
use Rattle.std.proofs.Common.{◌≡◌, ℕ, ◌+◌, ◌*◌, ◌/◌, ◌%◌, ◌^◌, ◌<◌, ◌≤◌, false, not, eqb, List, get_or, set, sym, ap, ◌∙◌, arith}
use Rattle.code.specs.declared.Width.{Width}
use Rattle.machine.specs.Fields.{bytes_of}
use Rattle.pages.specs.Word.{next}
use Rattle.pages.specs.Framed.{Framed, read_byte}
use Rattle.fields.specs.Direct.{read_field, flat, flat_put}

pub half_is : (s : Framed) (a x y b : ℕ) → x ≡ read_byte s a → b ≡ next a → y ≡ read_byte s b → x * 256 + y ≡ read_field s a 2 0
unfolding read_field
half_is s a x y b ex eb ey = rw (← eb, ← ex, ← ey) (omega arith)

-- by real address
module _ (mem : List ℕ) (r : ℕ) where
  pub flat_byte : get_or mem r 0 ≡ flat mem r 1 0
  unfolding flat
  flat_byte = omega arith

  pub flat_half : get_or mem r 0 * 256 + get_or mem (r + 1) 0 ≡ flat mem r 2 0
  unfolding flat
  flat_half = omega arith

  pub flat_word : get_or mem r 0 * 16777216 + get_or mem (r + 1) 0 * 65536 + get_or mem (r + 2) 0 * 256 + get_or mem (r + 3) 0 ≡ flat mem r 4 0
  unfolding flat
  flat_word =
      let p : r + 1 + 1 ≡ r + 2 = omega arith in
      let q : r + 2 + 1 ≡ r + 3 = omega arith in
      rw (p, q) (omega arith)

  pub put_half_is : (v : ℕ) (m n : List ℕ) → v < 65536 → m ≡ set mem r (v / 256) → n ≡ set m (r + 1) (v % 256) → n ≡ flat_put mem r 2 v
  unfolding flat_put
  put_half_is v m n h em en =
      en
      ∙ ap (λ (x : List ℕ). set x (r + 1) (v % 256)) em
      ∙ ap (λ (x : ℕ). set (set mem r x) (r + 1) (v % 256)) (omega arith)
      ∙ ap (set (set mem r (v / 256 ^ 1 % 256)) (r + 1)) (omega arith)

  pub put_word_is : (v : ℕ) (m n o p : List ℕ) → m ≡ set mem r (v / 16777216 % 256) → n ≡ set m (r + 1) (v / 65536 % 256)
      → o ≡ set n (r + 2) (v / 256 % 256) → p ≡ set o (r + 3) (v % 256) → p ≡ flat_put mem r 4 v
  unfolding flat_put
  put_word_is v m n o p em en eo ep =
      let i : r + 1 + 1 ≡ r + 2 = omega arith in
      let j : r + 2 + 1 ≡ r + 3 = omega arith in
      ep
      ∙ rw (eo, en, em, i, j)
      (ap (λ (x : ℕ). set (set (set (set mem r x) (r + 1) (v / 65536 % 256)) (r + 2) (v / 256 % 256)) (r + 3) (v % 256)) (omega arith)
      ∙ ap (λ (x : ℕ). set (set (set (set mem r (v / 256 ^ 3 % 256)) (r + 1) x) (r + 2) (v / 256 % 256)) (r + 3) (v % 256)) (omega arith)
      ∙ ap (λ (x : ℕ). set (set (set (set mem r (v / 256 ^ 3 % 256)) (r + 1) (v / 256 ^ 2 % 256)) (r + 2) x) (r + 3) (v % 256)) (omega arith)
      ∙ ap (set (set (set (set mem r (v / 256 ^ 3 % 256)) (r + 1) (v / 256 ^ 2 % 256)) (r + 2) (v / 256 ^ 1 % 256)) (r + 3)) (omega arith))

  -- only the low bytes of v are stored
  pub put_low_half : (v : ℕ) → flat_put mem r 2 (v % 65536) ≡ flat_put mem r 2 v
  unfolding flat_put
  put_low_half v =
      ap (λ (x : ℕ). set (set mem r x) (r + 1) (v % 65536 / 256 ^ 0 % 256)) (omega arith)
      ∙ ap (set (set mem r (v / 256 ^ 1 % 256)) (r + 1)) (omega arith)

  pub put_low_byte : (v : ℕ) → set mem r (v % 256) ≡ flat_put mem r 1 v
  unfolding flat_put
  put_low_byte v = ap (set mem r) (omega arith)

-- an operand's width, told by a match
module _ (w x : Width) (e : w ≡ x) where
  pub room_of : (r n : ℕ) → r + bytes_of w ≤ n → r + bytes_of x ≤ n
  room_of r n h = rw e at h

  pub put_of : (mem : List ℕ) (r v : ℕ) (m : List ℕ) → m ≡ flat_put mem r (bytes_of x) v → m ≡ flat_put mem r (bytes_of w) v
  put_of mem r v m h = h ∙ ap (λ (y : Width). flat_put mem r (bytes_of y) v) (sym e)

  pub off_of : (a : ℕ) → not (eqb (a % bytes_of x) 0) ≡ not (eqb (a % bytes_of w) 0)
  off_of a = ap (λ (y : Width). not (eqb (a % bytes_of y) 0)) (sym e)

pub never_off : (a : ℕ) → false ≡ not (eqb (a % 1) 0)
never_off a = let z : a % 1 ≡ 0 = omega arith in rw z
