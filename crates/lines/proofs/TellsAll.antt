-- A whole listing tells its code: LF stands at the end of a line alone, so the lines can be parted and each read back.
use mathlib.Core.Path.{◌≡◌, refl, sym, ap, ◌∙◌}
use mathlib.Core.Bool.{true}
use mathlib.Core.List.{List, [], ◌∷◌, ◌++◌, append_assoc, map}
use Prim.Native.Nat.{ℕ, ◌^◌, ◌<◌}
use native.Mathlib.Nat.{mod-eq_of_lt}
use lib.ListN.{length, get_or}
use Rattle.std.specs.Prelude.{Some}
use Rattle.words.specs.Ascii.{ascii}
use Rattle.code.specs.declared.Action.{Action}
use Rattle.code.specs.declared.Action.TheVariants.{Rr, Rx, Rs, Si, Ss}
use Rattle.code.specs.Table.{action_of, name_of}
use Rattle.code.specs.Formats.{length_of}
use Rattle.printing.specs.Digits.{hex_of, decimal_of}
use Rattle.printing.specs.Lines.{field, LF}
use Rattle.lines.specs.Line.{Line, based, indexed, hex_bytes, quoted, rr_text, rx_text, rs_text, si_text, ss_text}
use Rattle.lines.specs.Line.{operands_of, instruction_in, said_of, text_of}
use Rattle.lines.specs.Listing.{listing, stretches, texts}
use Rattle.lines.proofs.Steps.{listing_some}
use Rattle.lines.proofs.AllBytes.{all_bytes}
use Rattle.lines.proofs.Proper.{Bytes, Proper, Each, each_proper}
use Rattle.lines.proofs.CutTexts.{all, all_append, cut, cut_none, cut_word, in_line, high_in_line}
use Rattle.lines.proofs.CutTexts.{high_digits, high_decimal, high_bytes}
use Rattle.lines.proofs.TableRows.{high_name}
use Rattle.lines.proofs.ByKind.{by_kind}
use Rattle.lines.proofs.Tells.{line_told, wrapped_line, reads_back}

-- ---- no LF before a line's end

decimal_in_line : (v : ℕ) → all in_line (decimal_of v) ≡ true
decimal_in_line v = high_in_line (decimal_of v) (high_decimal v)

quoted_in_line : (bs : List ℕ) → all in_line (quoted bs) ≡ true
unfolding quoted
quoted_in_line bs = all_append in_line (ascii "X'" ++ hex_bytes bs) (ascii "'") (high_in_line (hex_bytes bs) (high_bytes bs)) refl

ruleset in-line = (all_append, decimal_in_line, quoted_in_line)

operands_in_line : (x : Action) (bs : List ℕ) → all in_line (operands_of x bs) ≡ true
unfolding operands_of rr_text rx_text rs_text si_text ss_text based indexed
operands_in_line (Rr x) bs = search in-line depth 12
operands_in_line (Rx x) bs = search in-line depth 12
operands_in_line (Rs x) bs = search in-line depth 12
operands_in_line (Si x) bs = search in-line depth 12
operands_in_line (Ss x) bs = search in-line depth 20

-- a line's text but for its LF
abbrev before : Line → List ℕ
before l = hex_of 6 l.address ++ said_of (instruction_in l.bytes) l.bytes

line_in_line : (l : Line) → all in_line (before l) ≡ true
line_in_line l =
    all_append in_line (hex_of 6 l.address) (said_of (instruction_in l.bytes) l.bytes)
    (high_in_line (hex_of 6 l.address) (high_digits 16 6 l.address))
    (by_kind l.bytes (λ f. all in_line (said_of f l.bytes) ≡ true) (quoted_in_line l.bytes) known)
  where
    known : (x : Action) → action_of (get_or l.bytes 0 0) ≡ Some x → length l.bytes ≡ length_of x
        → all in_line (said_of (Some x) l.bytes) ≡ true
    known x e n =
        let k = get_or l.bytes 0 0 in
        all_append in_line (name_of k) (field (operands_of x l.bytes)) (high_in_line (name_of k) (high_name k x e))
        (operands_in_line x l.bytes)

-- ---- the lines read back

lines_told : List ℕ → List Line
lines_told text = map (λ (t : List ℕ). line_told (t ++ LF)) (cut in_line text)

all_read_back : (ls : List Line) → Each Proper ls → lines_told (texts ls) ≡ map wrapped_line ls
unfolding lines_told texts text_of
all_read_back [] p = rw cut_none
all_read_back (l ∷ ls) p =
    rw (append_assoc (before l) LF (texts ls), cut_word in_line (before l) 10 (texts ls) (line_in_line l) refl)
    (λ i. reads_back l p.0.small i ∷ all_read_back ls p.1 i)

-- the code that lines stand for, and where it starts
wrapped_stretches : (ls : List Line) → stretches (map wrapped_line ls) ≡ stretches ls
unfolding stretches
wrapped_stretches [] = refl
wrapped_stretches (l ∷ ls) = ap (λ (bs : List ℕ). l.bytes ++ bs) (wrapped_stretches ls)

abbrev start_of : List Line → ℕ
start_of [] = 0
start_of (l ∷ ls) = l.address

module _ (a : ℕ) (code : List ℕ) (h : Bytes code) where
  code_told : stretches (lines_told (texts (listing a code))) ≡ code
  code_told =
      ap stretches (all_read_back (listing a code) (each_proper a code h)) ∙ wrapped_stretches (listing a code) ∙ all_bytes a code

  start_told : a < 2 ^ 24 → 0 < length code → start_of (lines_told (texts (listing a code))) ≡ a
  start_told k n =
      ap start_of (all_read_back (listing a code) (each_proper a code h)) ∙ rw (listing_some a code n) (mod-eq_of_lt k)

module _ (a b : ℕ) (x y : List ℕ) (h : Bytes x) (k : Bytes y) (e : texts (listing a x) ≡ texts (listing b y)) where
  pub tells_code : x ≡ y
  tells_code = sym (code_told a x h) ∙ ap (λ (t : List ℕ). stretches (lines_told t)) e ∙ code_told b y k

  pub tells_start : 0 < length x → a < 2 ^ 24 → b < 2 ^ 24 → a ≡ b
  tells_start n i j =
      let m : 0 < length y = rw (← tells_code) n in
      sym (start_told a x h i n) ∙ ap (λ (t : List ℕ). start_of (lines_told t)) e ∙ start_told b y k j m
