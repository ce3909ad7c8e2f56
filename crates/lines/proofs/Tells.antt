-- A line tells its address and its bytes: its text reads back as the line, so no two lines have one text.
use mathlib.Core.Path.{◌≡◌, refl, sym, ap, ◌∙◌}
use mathlib.Core.Bool.{true}
use mathlib.Core.List.{List, [], ◌∷◌, ◌++◌, append_assoc}
use Prim.Native.Nat.{ℕ, ◌^◌, ◌<◌}
use native.Mathlib.Nat.{mod-eq_of_lt}
use lib.ListN.{length, get_or, drop}
use Rattle.std.specs.Prelude.{Some, None}
use Rattle.words.specs.Ascii.{ascii}
use Rattle.code.specs.declared.Action.{Action}
use Rattle.code.specs.Table.{action_of, name_of}
use Rattle.code.specs.Formats.{length_of}
use Rattle.printing.specs.Digits.{hex_of}
use Rattle.printing.specs.Lines.{field, LF}
use Rattle.lines.specs.Line.{Line, line, operands_of, quoted, said_of, text_of}
use Rattle.lines.specs.Listing.{wrapped}
use Rattle.lines.proofs.ByKind.{by_kind}
use Rattle.lines.proofs.Proper.{Bytes}
use Rattle.lines.proofs.Numerals.{value, digits_value}
use Rattle.lines.proofs.CutTexts.{all, high, cut, cut_word, high_digits}
use Rattle.lines.proofs.TableRows.{code_named, code_told, high_name, raw_name}
use Rattle.lines.proofs.ReadBack.{bytes_told, operands_told, raw_told}

-- the line that a text tells
pub line_told : List ℕ → Line
line_told text =
    let ws = cut high text in
    let k = code_named (get_or ws 1 []) in
    line (value 16 (get_or ws 0 [])) (bytes_told (action_of k) k (drop 2 ws))

module _ (a : ℕ) (name operands : List ℕ) (k : all high name ≡ true) where
  words_told : cut high (hex_of 6 a ++ (field name ++ field operands) ++ LF) ≡ hex_of 6 a ∷ name ∷ cut high (operands ++ LF)
  words_told =
      simp append_assoc
      (cut_word high (hex_of 6 a) 9 (name ++ (field operands ++ LF)) (high_digits 16 6 a) refl
      ∙ ap (λ (ws : List (List ℕ)). hex_of 6 a ∷ ws) (cut_word high name 9 (operands ++ LF) k refl))

  parts_told : line_told (hex_of 6 a ++ (field name ++ field operands) ++ LF)
      ≡ line (wrapped a) (bytes_told (action_of (code_named name)) (code_named name) (cut high (operands ++ LF)))
  unfolding line_told
  parts_told = rw (words_told, digits_value 16 6 a)

-- six digits tell an address that is below 2^24, as those of a listing are
abbrev pub wrapped_line : Line → Line
wrapped_line l = line (wrapped l.address) l.bytes

module _ (l : Line) (b : Bytes l.bytes) where
  raw_line : line_told (hex_of 6 l.address ++ said_of None l.bytes ++ LF) ≡ wrapped_line l
  raw_line =
      parts_told l.address (ascii "DC") (quoted l.bytes) refl
      ∙ rw (raw_name, raw_told l.bytes b (code_named (ascii "DC")))

  known_line : (x : Action) → action_of (get_or l.bytes 0 0) ≡ Some x → length l.bytes ≡ length_of x
      → line_told (hex_of 6 l.address ++ said_of (Some x) l.bytes ++ LF) ≡ wrapped_line l
  known_line x e n =
      let k = get_or l.bytes 0 0 in
      parts_told l.address (name_of k) (operands_of x l.bytes) (high_name k x e)
      ∙ rw (code_told k x e, e, operands_told l.bytes b x n)

  pub reads_back : line_told (text_of l) ≡ wrapped_line l
  unfolding text_of
  reads_back = by_kind l.bytes (λ f. line_told (hex_of 6 l.address ++ said_of f l.bytes ++ LF) ≡ wrapped_line l) raw_line known_line

module _ (x y : Line) (b : Bytes x.bytes) (c : Bytes y.bytes) (e : text_of x ≡ text_of y) where
  same_wrapped : wrapped_line x ≡ wrapped_line y
  same_wrapped = sym (reads_back x b) ∙ ap line_told e ∙ reads_back y c

  pub tells_bytes : x.bytes ≡ y.bytes
  tells_bytes = ap (λ (l : Line). l.bytes) same_wrapped

  pub tells : x.address < 2 ^ 24 → y.address < 2 ^ 24 → x ≡ y
  tells h k =
      let a : x.address ≡ y.address = sym (mod-eq_of_lt h) ∙ ap (λ (l : Line). l.address) same_wrapped ∙ mod-eq_of_lt k in
      λ i. line (a i) (tells_bytes i)
