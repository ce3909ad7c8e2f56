-- The longest line has 33 characters: 6 of the address, the name and the operands, 24 together, two tabs and LF. So an output of 33
-- holds a line of any code.
use mathlib.Core.Path.{◌≡◌, refl}
use mathlib.Core.Bool.{Bool, true}
use mathlib.Core.List.{List, [], ◌∷◌, ◌++◌, map}
use Prim.Native.Nat.{ℕ, ◌+◌, ◌*◌, ◌/◌, ◌%◌, ◌^◌, ◌≤◌, ◌<◌}
use native.Mathlib.Omega.{arith}
use lib.Dec.{leb}
use lib.ListN.{length, get_or, length-append}
use borrow.Author.Tests.{leb-true}
use Rattle.std.specs.Prelude.{Some, None}
use Rattle.words.specs.Ascii.{ascii}
use Rattle.code.specs.declared.Action.{Action}
use Rattle.code.specs.declared.Action.TheVariants.{Rr, Rx, Rs, Si, Ss}
use Rattle.code.specs.Table.{Row, table, named, action_of, name_of}
use Rattle.code.specs.Formats.{length_of, left_of, right_of, base_of, displacement_of}
use Rattle.printing.specs.Digits.{digit, digits_of, trimmed, hex_of, decimal_of}
use Rattle.printing.specs.Lines.{LF}
use Rattle.printing.proofs.Lengths.{digits_long, short}
use Rattle.lines.specs.Line.{Line, based, indexed, hex_bytes, quoted, rr_text, rx_text, rs_text, si_text, ss_text}
use Rattle.lines.specs.Line.{half_at, operands_of, instruction_in, said_of, text_of}
use Rattle.lines.specs.Listing.{size_of, lines_in, listing, texts, fitting}
use Rattle.lines.proofs.Everything.{one_fits, in_pieces, everything}
use Rattle.lines.proofs.Fronts.{first_line}
use Rattle.lines.proofs.Proper.{Bytes, Proper, Each, end_small, first_proper, each_proper}
use Rattle.lines.proofs.TableRows.{every_row, of_row}
use Rattle.lines.proofs.ByKind.{by_kind}

-- ---- the operands' parts

module _ (n : ℕ) where
  register_long : length (decimal_of (n % 16)) ≤ 2
  unfolding decimal_of
  register_long = short 8 1 (n % 16) (omega arith)

  displacement_long : length (decimal_of (n % 4096)) ≤ 4
  unfolding decimal_of
  displacement_long = short 6 3 (n % 4096) (omega arith)

  length_long : length (decimal_of (n % 256 + 1)) ≤ 3
  unfolding decimal_of
  length_long = short 7 2 (n % 256 + 1) (omega arith)

bytes_long : (bs : List ℕ) → length (hex_bytes bs) ≡ 2 * length bs
unfolding hex_bytes
bytes_long [] = refl
bytes_long (b ∷ bs) = simp (length-append, digits_long) (omega (arith, bytes_long bs))

quoted_long : (bs : List ℕ) → length (quoted bs) ≡ 2 * length bs + 3
unfolding quoted
quoted_long bs = simp (length-append, bytes_long) (omega arith)

-- ---- a format's longest operands, and the names that go with it

abbrev most : Action → ℕ
most (Rr x) = 5
most (Rx x) = 14
most (Rs x) = 14
most (Si x) = 14
most (Ss x) = 21

module _ (bs : List ℕ) (h : Bytes bs) where
  registers_long : length (decimal_of (left_of (half_at bs 0))) + length (decimal_of (right_of (half_at bs 0))) ≤ 4
  registers_long = omega (arith, register_long (half_at bs 0 / 16), register_long (half_at bs 0))

  base_long : (i : ℕ) → length (decimal_of (base_of (half_at bs i))) ≤ 2
  unfolding decimal_of
  base_long i = short 8 1 (base_of (half_at bs i)) (omega (arith, h i, h (i + 1)))

  address_long : (i : ℕ) → length (decimal_of (displacement_of (half_at bs i))) + length (decimal_of (base_of (half_at bs i))) ≤ 6
  address_long i = omega (arith, displacement_long (half_at bs i), base_long i)

  operands_long : (x : Action) → length (operands_of x bs) ≤ most x
  unfolding operands_of rr_text rx_text rs_text si_text ss_text based indexed
  operands_long (Rr x) = simp length-append (omega (arith, registers_long))
  operands_long (Rx x) = simp length-append (omega (arith, registers_long, address_long 2))
  operands_long (Rs x) = simp length-append (omega (arith, registers_long, address_long 2))
  operands_long (Si x) = simp (length-append, quoted_long) (omega (arith, address_long 2))
  operands_long (Ss x) = simp length-append (omega (arith, length_long (half_at bs 0), address_long 2, address_long 4))

abbrev fits : Row → Bool
fits r = leb (length (ascii r.name) + most r.action) 24

all_fit : every_row fits table ≡ true
unfolding table
all_fit = refl

name_long : (k : ℕ) (x : Action) → action_of k ≡ Some x → length (name_of k) + most x ≤ 24
unfolding name_of
name_long k x e = leb-true (length (ascii (named table k)) + most x) 24 (of_row fits all_fit k x e)

pub line_long : (l : Line) → Proper l → length (text_of l) ≤ 33
unfolding text_of
line_long l p = by_kind l.bytes (λ f. length (hex_of 6 l.address ++ said_of f l.bytes ++ LF) ≤ 33) raw known
  where
    raw : length (hex_of 6 l.address ++ said_of None l.bytes ++ LF) ≤ 33
    raw = simp (length-append, digits_long, quoted_long) (omega (arith, p.few))

    known : (x : Action) → action_of (get_or l.bytes 0 0) ≡ Some x → length l.bytes ≡ length_of x
        → length (hex_of 6 l.address ++ said_of (Some x) l.bytes ++ LF) ≤ 33
    known x e n =
        simp (length-append, digits_long)
        (omega (arith, name_long (get_or l.bytes 0 0) x e, operands_long l.bytes p.small x))

-- no line of a listing is longer
pub lines_long : (a : ℕ) (code : List ℕ) → Bytes code → Each (λ l. length (text_of l) ≤ 33) (listing a code)
lines_long a code h = go (listing a code) (each_proper a code h)
  where
    go : (ls : List Line) → Each Proper ls → Each (λ l. length (text_of l) ≤ 33) ls
    go [] e = tt
    go (l ∷ ls) e = (line_long l e.0, go ls e.1)

-- and one is as long: MVC 4095(256,15),4095(15)
pub longest : map (λ l. length (text_of l)) (listing 0 (0xD2 ∷ 0xFF ∷ 0xFF ∷ 0xFF ∷ 0xFF ∷ 0xFF ∷ [])) ≡ 33 ∷ []
unfolding listing lines_in size_of text_of instruction_in action_of name_of table operands_of ss_text indexed based decimal_of trimmed digits_of digit
longest = refl

pub room_enough : (room a : ℕ) (code : List ℕ) → 33 ≤ room → Bytes code → 0 < length code → 0 < length (fitting room (listing a code))
room_enough room a code k h n = one_fits room a code n (omega (arith, line_long (first_line a code) (first_proper a code n h)))

-- so a caller with so much room, who goes on until the code is at its end, gets the whole listing
pub gets_everything : (out : List ℕ) → 33 ≤ length out → (a : ℕ) → a < 2 ^ 24 → (code : List ℕ) → Bytes code
    → in_pieces (length code) out a code ≡ texts (listing a code)
gets_everything out r a h code b =
    everything Bytes end_small (length out) (λ a code. room_enough (length out) a code r) out refl a h code b
