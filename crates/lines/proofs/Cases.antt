-- Worked cases: the whole listing of document 01, code at its edges, and answers where the output is as long as a line, shorter, longer.
use mathlib.Core.Path.{◌≡◌, refl}
use mathlib.Core.List.{List, [], ◌∷◌, ◌++◌, map}
use Prim.Native.Nat.{ℕ}
use Prim.Native.String.{String}
use lib.ListN.{replicate}
use Rattle.words.specs.Ascii.{ascii}
use Rattle.code.specs.Table as code
use Rattle.printing.specs.Digits.{decimal_of, digits_of, digit, trimmed}
use Rattle.lines.specs.Line.{based, indexed, hex_bytes, quoted, rr_text, rx_text, rs_text, si_text, ss_text, operands_of}
use Rattle.lines.specs.Line.{instruction_in, text_of}
use Rattle.lines.specs.Listing.{size_of, lines_in, listing, stretches, texts, fitting, Answer, put_out, listed_from, listed}

-- what the definitions give, and what they should
record Case : Type 0 where
  given : List ℕ
  said : List ℕ

-- the text of a whole listing
abbrev whole : ℕ → List ℕ → List ℕ → Case
whole start bytes text = record { given = texts (listing start bytes); said = text }

-- an answer: its numbers, then the output
abbrev seen : Answer → List ℕ
seen r = r.number ∷ r.lines ∷ r.next ∷ r.written ∷ r.out

-- LR 1,2 and BCR 15,14, a listing of 14 and 17 bytes, for an output of so many bytes that are all 7
abbrev two : List ℕ
two = 0x18 ∷ 0x12 ∷ 0x07 ∷ 0xfe ∷ []

abbrev answer : ℕ → ℕ → ℕ → ℕ → ℕ → ℕ → String → ℕ → Case
answer start room number lines next written text rest =
    record {
      given = seen (listed two start (replicate room 7));
      said = number ∷ lines ∷ next ∷ written ∷ (ascii text ++ replicate rest 7);
    }

table : List Case
table =
    whole 0x00a000
    (0x41 ∷ 0x10 ∷ 0x00 ∷ 0x05
    ∷ 0xd2 ∷ 0xff ∷ 0x10 ∷ 0x00 ∷ 0xff ∷ 0xff
    ∷ 0x89 ∷ 0x19 ∷ 0x00 ∷ 0x20
    ∷ 0x95 ∷ 0xc1 ∷ 0x20 ∷ 0x07
    ∷ 0x07 ∷ 0xfe
    ∷ 0xff ∷ 0xff
    ∷ 0x47 ∷ 0x10 ∷ 0x47 ∷ [])
    (ascii "00A000\tLA\t1,5(0,0)\n"
    ++ ascii "00A004\tMVC\t0(256,1),4095(15)\n"
    ++ ascii "00A00A\tSLL\t1,9,32(0)\n"
    ++ ascii "00A00E\tCLI\t7(2),X'C1'\n"
    ++ ascii "00A012\tBCR\t15,14\n"
    ++ ascii "00A014\tDC\tX'FFFF'\n"
    ++ ascii "00A016\tDC\tX'4710'\n"
    ++ ascii "00A018\tDC\tX'47'\n")
    ∷ whole 0x00a000 [] []
    ∷ whole 0x00a000 (0x18 ∷ []) (ascii "00A000\tDC\tX'18'\n")
    -- addresses that wrap, between two instructions and within one
    ∷ whole 0xfffffe two (ascii "FFFFFE\tLR\t1,2\n000000\tBCR\t15,14\n")
    ∷ whole 0xfffffe (0x58 ∷ 0xff ∷ 0x0f ∷ 0xff ∷ 0x18 ∷ []) (ascii "FFFFFE\tL\t15,4095(15,0)\n000002\tDC\tX'18'\n")
    -- an output as long as a line, one byte shorter, and longer than one line and than two
    ∷ answer 0x00a000 14 0 1 2 14 "00A000\tLR\t1,2\n" 0
    ∷ answer 0x00a000 13 0 0 0 0 "" 13
    ∷ answer 0x00a000 30 0 1 2 14 "00A000\tLR\t1,2\n" 16
    ∷ answer 0x00a000 33 0 2 4 31 "00A000\tLR\t1,2\n00A002\tBCR\t15,14\n" 2
    -- the last start, and the first out of range
    ∷ answer 0xffffff 33 0 2 4 31 "FFFFFF\tLR\t1,2\n000001\tBCR\t15,14\n" 2
    ∷ answer 0x1000000 33 6 0 0 0 "" 33
    ∷ []

all_right : map (λ (k : Case). k.given) table ≡ map (λ (k : Case). k.said) table
unfolding table based indexed hex_bytes quoted rr_text rx_text rs_text si_text ss_text operands_of instruction_in text_of size_of lines_in listing
    stretches texts fitting put_out listed_from listed code.table code.action_of code.name_of decimal_of digits_of digit trimmed
all_right = refl
