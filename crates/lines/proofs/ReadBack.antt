-- A line read back from its text: its words, the code from the name, the fields from the operands, the bytes from the fields.
use mathlib.Core.Path.{◌≡◌, refl, sym, ap, ◌∙◌}
use mathlib.Core.Bool.{false}
use mathlib.Core.List.{List, [], ◌∷◌, ◌++◌, append_assoc}
use Prim.Native.Nat.{ℕ, zero, suc, ◌+◌, ◌-◌, ◌*◌, ◌/◌, ◌%◌, ◌≤◌, ◌<◌}
use native.Mathlib.Omega.{arith}
use lib.ListN.{length, get_or, drop, drop_of_length-le}
use lib.Seq.{drop-cons}
use Rattle.std.specs.Prelude.{Option, Some, None}
use Rattle.words.specs.Ascii.{ascii}
use Rattle.code.specs.declared.Action.{Action}
use Rattle.code.specs.declared.Action.TheVariants.{Rr, Rx, Rs, Si, Ss}
use Rattle.code.specs.Formats.{length_of, byte_of, left_of, right_of, base_of, displacement_of}
use Rattle.printing.specs.Digits.{digit, digits_of, decimal_of}
use Rattle.printing.specs.Lines.{LF}
use Rattle.lines.specs.Line.{based, indexed, hex_bytes, quoted, rr_text, rx_text, rs_text, si_text, ss_text, operands_of}
use Rattle.lines.proofs.Proper.{Bytes}
use Rattle.lines.proofs.Numerals.{undigit, undigit_digit, value, decimal_value}
use Rattle.lines.proofs.CutTexts.{high, cut, cut_none, cut_word, high_decimal, high_bytes}

-- ---- the words of operands

module _ (m : ℕ) (r : List ℕ) (h : high m ≡ false) where
  decimal_word : (v : ℕ) → cut high (decimal_of v ++ m ∷ r) ≡ decimal_of v ∷ cut high r
  decimal_word v = cut_word high (decimal_of v) m r (high_decimal v) h

  bytes_word : (bs : List ℕ) → cut high (hex_bytes bs ++ m ∷ r) ≡ hex_bytes bs ∷ cut high r
  bytes_word bs = cut_word high (hex_bytes bs) m r (high_bytes bs) h

  no_word : cut high (m ∷ r) ≡ [] ∷ cut high r
  no_word = cut_word high [] m r refl h

quote_word : (r : List ℕ) → cut high (ascii "X'" ++ r) ≡ ascii "X" ∷ cut high r
quote_word r = cut_word high (ascii "X") 39 r refl refl

-- ---- their numbers

module _ (n : ℕ) where
  register_value : value 10 (decimal_of (n % 16)) ≡ n % 16
  register_value = decimal_value (n % 16) (omega arith)

  displacement_value : value 10 (decimal_of (n % 4096)) ≡ n % 4096
  displacement_value = decimal_value (n % 4096) (omega arith)

  length_value : n < 256 → value 10 (decimal_of (n + 1)) ≡ n + 1
  length_value h = decimal_value (n + 1) (omega arith)

  one_less : n + 1 - 1 ≡ n
  one_less = omega arith

-- bytes from hex digits, two each
pairs : List ℕ → List ℕ
pairs [] = []
pairs (c ∷ []) = []
pairs (c ∷ d ∷ cs) = (undigit c * 16 + undigit d) ∷ pairs cs

hex_told_lem : (bs : List ℕ) → Bytes bs → pairs (hex_bytes bs) ≡ bs
unfolding pairs hex_bytes digits_of
hex_told_lem [] h = refl
hex_told_lem (b ∷ bs) h =
    let i : b < 256 = h 0 in
    let e : undigit (digit (b / 16 % 16)) * 16 + undigit (digit (b / 1 % 16)) ≡ b = simp undigit_digit (omega arith) in
    ap (λ (c : ℕ). c ∷ pairs (hex_bytes bs)) e ∙ ap (λ (cs : List ℕ). b ∷ cs) (hex_told_lem bs (λ j. h (suc j)))

byte_told : (b : ℕ) → b < 256 → pairs (hex_bytes (b ∷ [])) ≡ b ∷ []
byte_told b h = hex_told_lem (b ∷ []) small
  where
    small : Bytes (b ∷ [])
    small zero = h
    small (suc i) = omega arith

-- ---- the bytes that the words tell, by the format

-- base and displacement

abbrev address_bytes : ℕ → ℕ → List ℕ
address_bytes b d = (b * 16 + d / 256) ∷ (d % 256) ∷ []

-- `n` and `raw` read the word at a place as a number and as bytes. Between two marks stands an empty word: `D1(B1),X'I2'` has the
-- words D1, B1, none, X and I2.
abbrev bytes_by : Option Action → ℕ → (ℕ → ℕ) → (ℕ → List ℕ) → List ℕ
bytes_by (Some (Rr x)) k n raw = k ∷ (n 0 * 16 + n 1) ∷ []
bytes_by (Some (Rx x)) k n raw = k ∷ (n 0 * 16 + n 2) ∷ address_bytes (n 3) (n 1)
bytes_by (Some (Rs x)) k n raw = k ∷ (n 0 * 16 + n 1) ∷ address_bytes (n 3) (n 2)
bytes_by (Some (Si x)) k n raw = k ∷ raw 4 ++ address_bytes (n 1) (n 0)
bytes_by (Some (Ss x)) k n raw = k ∷ (n 1 - 1) ∷ address_bytes (n 2) (n 0) ++ address_bytes (n 5) (n 4)
bytes_by None k n raw = raw 1

pub bytes_told : Option Action → ℕ → List (List ℕ) → List ℕ
bytes_told f k ws = bytes_by f k (λ i. value 10 (get_or ws i [])) (λ i. pairs (get_or ws i []))

module _ (b c : ℕ) (h : c < 256) where
  fields_told : left_of (b * 256 + c) * 16 + right_of (b * 256 + c) ≡ c
  fields_told = omega arith

  right_told : byte_of (b * 256 + c) ≡ c
  right_told = omega arith

  low_told : displacement_of (b * 256 + c) % 256 ≡ c
  low_told = omega arith

  high_told : base_of (b * 256 + c) * 16 + displacement_of (b * 256 + c) / 256 ≡ b
  high_told = omega arith

  base_value : b < 256 → value 10 (decimal_of (base_of (b * 256 + c))) ≡ base_of (b * 256 + c)
  base_value k = decimal_value (base_of (b * 256 + c)) (omega arith)

-- the bytes from one on, one by one
abbrev one_by_one : ℕ → ℕ → List ℕ → List ℕ
one_by_one i zero bs = []
one_by_one i (suc n) bs = get_or bs i 0 ∷ one_by_one (suc i) n bs

laid : (n i : ℕ) (bs : List ℕ) → length bs ≡ i + n → one_by_one i n bs ≡ drop i bs
laid zero i bs h = let k : length bs ≤ i = omega arith in sym (drop_of_length-le bs k)
laid (suc n) i bs h = rw (drop-cons bs i 0 (omega arith)) (ap (λ (cs : List ℕ). get_or bs i 0 ∷ cs) (laid n (suc i) bs (omega arith)))

ruleset words = (append_assoc, decimal_word, no_word, quote_word, bytes_word, cut_none)

ruleset values = (register_value, displacement_value, length_value, one_less, base_value)

ruleset told = (values, byte_told, fields_told, right_told, low_told, high_told)

module _ (bs : List ℕ) (h : Bytes bs) where
  pub operands_told : (x : Action) → length bs ≡ length_of x → bytes_told (Some x) (get_or bs 0 0) (cut high (operands_of x bs ++ LF)) ≡ bs
  unfolding bytes_told operands_of rr_text rx_text rs_text si_text ss_text based indexed quoted
  operands_told (Rr x) n = simp words (simp (told, h) (laid 2 0 bs n))
  operands_told (Rx x) n = simp words (simp (told, h) (laid 4 0 bs n))
  operands_told (Rs x) n = simp words (simp (told, h) (laid 4 0 bs n))
  operands_told (Si x) n = simp words (simp (told, h) (laid 4 0 bs n))
  operands_told (Ss x) n = simp words (simp (told, h) (laid 6 0 bs n))

pub raw_told : (bs : List ℕ) → Bytes bs → (k : ℕ) → bytes_told None k (cut high (quoted bs ++ LF)) ≡ bs
unfolding bytes_told quoted
raw_told bs h k = simp words (hex_told_lem bs h)
