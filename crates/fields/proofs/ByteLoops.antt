-- The loops over bytes, a turn at a time: what is left from here is the whole.
use Rattle.std.proofs.Common.{◌≡◌, ℕ, zero, suc, ◌+◌, ◌-◌, ◌<◌, ◌≤◌, List, length, get_or, drop, sym, ap, ◌∙◌, add-one, arith, drop_of_length-le, drop-cons, le-ltb, lt-ltb, eq-eqb, ne_eqb}
use Rattle.words.specs.Codes.{compare_bits}
use Rattle.pages.specs.declared.Access.{Access}
use Rattle.pages.specs.declared.Cause.{Cause}
use Rattle.pages.specs.Word.{next}
use Rattle.pages.specs.Look.{Look, At, Refused, look_of}
use Rattle.pages.specs.Framed.{Framed, accessed_at, read_byte, write_byte}
use Rattle.fields.specs.declared.Field.{Field}
use Rattle.fields.specs.Direct.{or_else, look_field, look_fields, note_field, move_field, compare_field}

-- a loop that has done i turns of n
pub none_done : (n : ℕ) → n - 0 ≡ n
none_done n = omega arith

pub one_done : (n i : ℕ) → n - (i + 1) ≡ n - i - 1
one_done n i = omega arith

pub some_left : (n i : ℕ) → i < n → 0 < n - i
some_left n i h = omega arith

pub all_done : (n i : ℕ) → n ≤ i → n - i ≤ 0
all_done n i h = omega arith

pub pred_suc : (k : ℕ) → suc k - 1 ≡ k
pred_suc k = omega arith

-- none left
module _ (left : ℕ) (z : left ≤ 0) where
  is_zero : left ≡ 0
  is_zero = omega arith

  pub look_none : (map : List ℕ) (size : ℕ) (acc : Access) (a : ℕ) (rest : Look) → look_field map size acc a left rest ≡ rest
  unfolding look_field
  look_none map size acc a rest = rw is_zero

  pub note_none : (map : List ℕ) (a : ℕ) → note_field map a left ≡ map
  unfolding note_field
  note_none map a = rw is_zero

  pub move_none : (s : Framed) (a b : ℕ) → move_field s a b left ≡ s
  unfolding move_field
  move_none s a b = rw is_zero

  pub compare_none : (s : Framed) (a b : ℕ) → compare_field s a b left ≡ 0
  unfolding compare_field
  compare_none s a b = rw is_zero

-- a turn
look_turn : (map : List ℕ) (size : ℕ) (acc : Access) (a : ℕ) (rest : Look) (left : ℕ) → 0 < left
    → look_field map size acc a left rest ≡ or_else (look_of map size acc a) (look_field map size acc (next a) (left - 1) rest)
unfolding look_field
look_turn map size acc a rest zero h = absurd (omega arith)
look_turn map size acc a rest (suc k) h = rw pred_suc

pub look_stop : (map : List ℕ) (size : ℕ) (acc : Access) (a : ℕ) (rest found : Look) → found ≡ look_of map size acc a → (left : ℕ) → 0 < left
    → (c : Cause) (p : ℕ) → found ≡ Refused c p → found ≡ look_field map size acc a left rest
look_stop map size acc a rest found e left h c p f =
    f
    ∙ ap (λ (l : Look). or_else l (look_field map size acc (next a) (left - 1) rest)) (sym f ∙ e)
    ∙ sym (look_turn map size acc a rest left h)

pub look_found : (map : List ℕ) (size : ℕ) (acc : Access) (a : ℕ) (rest found : Look) → found ≡ look_of map size acc a → (left : ℕ) → 0 < left
    → (r k : ℕ) → found ≡ At r k → (b : ℕ) → b ≡ next a → look_field map size acc a left rest ≡ look_field map size acc b (left - 1) rest
look_found map size acc a rest found e left h r k f b g =
    look_turn map size acc a rest left h
    ∙ ap (λ (l : Look). or_else l (look_field map size acc (next a) (left - 1) rest)) (sym e ∙ f)
    ∙ ap (λ (x : ℕ). look_field map size acc x (left - 1) rest) (sym g)

pub note_turn : (map : List ℕ) (a left : ℕ) → 0 < left → (map' : List ℕ) → map' ≡ accessed_at map a → (b : ℕ) → b ≡ next a
    → note_field map a left ≡ note_field map' b (left - 1)
unfolding note_field
note_turn map a zero h map' e b g = absurd (omega arith)
note_turn map a (suc k) h map' e b g = rw (e, g, pred_suc)

pub move_turn : (s : Framed) (a b left : ℕ) → 0 < left
    → move_field s a b left ≡ move_field (write_byte s a (read_byte s b)) (next a) (next b) (left - 1)
unfolding move_field
move_turn s a b zero h = absurd (omega arith)
move_turn s a b (suc k) h = rw pred_suc

module _ (s : Framed) (a b x y : ℕ) (ex : x ≡ read_byte s a) (ey : y ≡ read_byte s b) where
  pub compare_low : (left : ℕ) → 0 < left → x < y → 1 ≡ compare_field s a b left
  unfolding compare_field compare_bits
  compare_low zero h l = absurd (omega arith)
  compare_low (suc k) h l = rw (← ex, ← ey, ne_eqb x y (omega arith), lt-ltb x y l)

  pub compare_high : (left : ℕ) → 0 < left → y < x → 2 ≡ compare_field s a b left
  unfolding compare_field compare_bits
  compare_high zero h l = absurd (omega arith)
  compare_high (suc k) h l = rw (← ex, ← ey, ne_eqb x y (omega arith), le-ltb x y (omega arith), lt-ltb y x l)

  pub compare_turn : (left : ℕ) → 0 < left → y ≤ x → x ≤ y → compare_field s a b left ≡ compare_field s (next a) (next b) (left - 1)
  unfolding compare_field
  compare_turn zero h l m = absurd (omega arith)
  compare_turn (suc k) h l m = rw (← ex, ← ey, eq-eqb x y (omega arith), pred_suc)

-- the fields of a list
pub fields_next : (map : List ℕ) (size : ℕ) (fs : List Field) (k : ℕ) (d : Field) (rest : Look) → k < length fs
    → look_fields map size (drop k fs) rest
    ≡ look_field map size (get_or fs k d).access (get_or fs k d).at (get_or fs k d).len (look_fields map size (drop (k + 1) fs) rest)
unfolding look_fields
fields_next map size fs k d rest h = rw (drop-cons fs k d h, add-one k)

pub fields_end : (map : List ℕ) (size : ℕ) (fs : List Field) (k : ℕ) (rest : Look) → length fs ≤ k → look_fields map size (drop k fs) rest ≡ rest
unfolding look_fields
fields_end map size fs k rest h = rw (drop_of_length-le fs h)
