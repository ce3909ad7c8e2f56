-- Slips in listing code (document 02, E1), each a whole way to answer: in walking the code, in a line's text, and in what is put out.
use Rattle.std.specs.Prelude.{Option, Some, None, ℕ, zero, suc, ◌+◌, ◌-◌, ◌/◌, ◌^◌, Bool, List, [], ◌∷◌, ◌++◌, eqb, leb, ltb, length, get_or, take, drop, replicate}
use Prim.Native.String.{String}
use Rattle.words.specs.Pick.{pick, both}
use Rattle.code.specs.declared.Action.{Action}
use Rattle.code.specs.declared.Action.TheVariants.{Rr, Rx, Rs, Si, Ss}
use Rattle.code.specs.declared.RxFields.{RxFields}
use Rattle.code.specs.declared.RsFields.{RsFields}
use Rattle.code.specs.declared.SsFields.{SsFields}
use Rattle.code.specs.Table as code
use Rattle.code.specs.Formats.{length_of, rx_of, rs_of, ss_of}
use Rattle.printing.specs.Digits.{digit, digits_of, hex_of, trimmed, decimal_of}
use Rattle.printing.specs.Lines.{LF, field}
use Rattle.lines.specs.Line as line
use Rattle.lines.specs.Listing.{size_of, wrapped, lines_in, listing, stretches, texts, fitting, Answer, put_out, listed_from, listed}
use Rattle.slips.specs.Row.{Row, row}

-- the definitions that this table computes
unfoldable pub computes : Unit {0}
unfolding digit digits_of trimmed decimal_of code.table code.action_of code.name_of line.based line.indexed line.hex_bytes line.quoted
    line.rr_text line.rx_text line.rs_text line.si_text line.ss_text line.operands_of line.instruction_in line.text_of size_of lines_in listing stretches texts
    fitting put_out listed_from listed
computes = tt

-- a call: what is lent, and the start
pub record Asked : Type 0 where
  pub code : List ℕ
  pub start : ℕ
  pub out : List ℕ

abbrev pub right : Asked → Answer
right q = listed q.code q.start q.out

-- a walk: how many lines it wrote, how many bytes it passed, and the text
pub record Walked : Type 0 where
  pub lines : ℕ
  pub passed : ℕ
  pub text : List ℕ

abbrev pub none : Walked
none = record { lines = 0; passed = 0; text = [] }

abbrev pub more : ℕ → List ℕ → Walked → Walked
more k text w = record { lines = w.lines + 1; passed = k + w.passed; text = text ++ w.text }

-- Rules of a walk: how many bytes a line stands for, how many the walk goes on by, the address behind, a line's text, whether a line is
-- begun (by the bytes left, the text's length and the room), and what is written after one that is not (by the bytes it stands for).
pub record Rules : Type 0 where
  pub shown : List ℕ → ℕ
  pub on : List ℕ → ℕ
  pub next : ℕ → ℕ
  pub text : line.Line → List ℕ
  pub begun : ℕ → ℕ → ℕ → Bool
  pub after : ℕ → Walked → Walked

abbrev pub walk : Rules → ℕ → ℕ → ℕ → List ℕ → Walked
walk by zero room a code = none
walk by (suc n) room a [] = none
walk by (suc n) room a (b ∷ bs) =
    let code = b ∷ bs in
    let k = by.on code in
    let text = by.text (line.line a (take (by.shown code) code)) in
    let begun = by.begun (length code) (length text) room in
    let behind = walk by n (pick begun (room - length text) room) (by.next (a + k)) (drop k code) in
    pick begun (more k text behind) (by.after k behind)

abbrev pub answered : Walked → List ℕ → Answer
answered w out =
    record {
      number = 0;
      lines = w.lines;
      next = w.passed;
      written = length w.text;
      out = w.text ++ drop (length w.text) out;
    }

abbrev pub refused : List ℕ → Answer
refused out = record { number = 6; lines = 0; next = 0; written = 0; out = out }

abbrev pub listed_by : Rules → Asked → Answer
listed_by by q =
    let walked = answered (walk by (length q.code) (length q.out) q.start q.code) q.out in
    pick (ltb q.start (2 ^ 24)) walked (refused q.out)

-- a line that does not fit ends the listing
abbrev pub fits : ℕ → ℕ → ℕ → Bool
fits left size room = leb size room

abbrev pub ends : ℕ → Walked → Walked
ends k w = none

-- rules that are right but for the walk; but for the text; but for which lines are begun
abbrev walked : (List ℕ → ℕ) → (List ℕ → ℕ) → (line.Line → List ℕ) → Asked → Answer
walked shown on text =
    listed_by (record { shown = shown; on = on; next = wrapped; text = text; begun = fits; after = ends })

abbrev pub worded : (ℕ → ℕ) → (line.Line → List ℕ) → Asked → Answer
worded next text =
    listed_by (record { shown = size_of; on = size_of; next = next; text = text; begun = fits; after = ends })

abbrev begun_by : (ℕ → ℕ → ℕ → Bool) → (ℕ → Walked → Walked) → Asked → Answer
begun_by begun after =
    listed_by (record { shown = size_of; on = size_of; next = wrapped; text = line.text_of; begun = begun; after = after })

-- the walk goes on one byte after an unknown operation
abbrev one_on : Option Action → List ℕ → ℕ
one_on (Some x) code = size_of code
one_on None code = 1

-- six bytes passed over as four
abbrev four_on : List ℕ → ℕ
four_on code = pick (eqb (size_of code) 6) 4 (size_of code)

-- an unknown operation as long as its first two bits would have it
abbrev by_bits : Option Action → List ℕ → ℕ
by_bits (Some x) code = size_of code
by_bits None code = pick (ltb (get_or code 0 0) 64) 2 (pick (ltb (get_or code 0 0) 192) 4 6)

-- a cut-off instruction takes all that is left
abbrev all_left : Option Action → List ℕ → ℕ
all_left (Some x) code = pick (leb (length_of x) (length code)) (length_of x) (length code)
all_left None code = size_of code

-- and is read as an instruction, its missing bytes as 0
abbrev as_whole : line.Line → List ℕ
as_whole l = hex_of 6 l.address ++ line.said_of (code.action_of (get_or l.bytes 0 0)) l.bytes ++ LF

-- by the operation of the code's first byte; a line and the walk by the same rule
abbrev by_first : (Option Action → List ℕ → ℕ) → List ℕ → ℕ
by_first size bs = size (code.action_of (get_or bs 0 0)) bs

abbrev alike : (Option Action → List ℕ → ℕ) → (line.Line → List ℕ) → Asked → Answer
alike size text = walked (by_first size) (by_first size) text

-- an address past the last, in as many digits as it needs
abbrev seven_digits : line.Line → List ℕ
seven_digits l =
    hex_of (pick (ltb l.address (2 ^ 24)) 6 7) l.address ++ line.said_of (line.instruction_in l.bytes) l.bytes ++ LF

-- the operands of RX, RS and SS by these rules; a rule of RS is told the operation
abbrev pub operands : (RxFields → List ℕ) → (ℕ → RsFields → List ℕ) → (SsFields → List ℕ) → Action → List ℕ → List ℕ
operands rx rs ss (Rr x) bs = line.operands_of (Rr x) bs
operands rx rs ss (Rx x) bs = rx (rx_of (line.half_at bs 0) (line.half_at bs 2))
operands rx rs ss (Rs x) bs = rs (get_or bs 0 0) (rs_of (line.half_at bs 0) (line.half_at bs 2))
operands rx rs ss (Si x) bs = line.operands_of (Si x) bs
operands rx rs ss (Ss x) bs = ss (ss_of (line.half_at bs 0) (line.half_at bs 2) (line.half_at bs 4))

abbrev pub said_by : (Action → List ℕ → List ℕ) → Option Action → List ℕ → List ℕ
said_by said (Some x) bs = field (code.name_of (get_or bs 0 0)) ++ field (said x bs)
said_by said None bs = line.said_of None bs

abbrev pub text_by : (Action → List ℕ → List ℕ) → line.Line → List ℕ
text_by said l = hex_of 6 l.address ++ said_by said (line.instruction_in l.bytes) l.bytes ++ LF

abbrev pub rs_all : ℕ → RsFields → List ℕ
rs_all op f = line.rs_text f

-- the R3 of a shift (88 and 89), which the machine ignores, is not there: two instructions have one line
abbrev without_r3 : ℕ → RsFields → List ℕ
without_r3 op f = pick (eqb (op / 2) 0x44) (decimal_of f.r1 ++ line.comma ++ line.based f.d2 f.b2) (line.rs_text f)

-- the length byte as it stands
abbrev length_byte : SsFields → List ℕ
length_byte f = line.indexed f.d1 f.l f.b1 ++ line.comma ++ line.based f.d2 f.b2

-- base and index the wrong way round
abbrev base_first : RxFields → List ℕ
base_first f = decimal_of f.r1 ++ line.comma ++ line.indexed f.d2 f.b2 f.x2

-- no index where it is 0
abbrev no_index : RxFields → List ℕ
no_index f = pick (eqb f.x2 0) (decimal_of f.r1 ++ line.comma ++ line.based f.d2 f.b2) (line.rx_text f)

-- the last byte is not looked at alone
abbrev two_left : ℕ → ℕ → ℕ → Bool
two_left left size room = both (leb 2 left) (leb size room)

-- a line that fills the output to its end is not written
abbrev room_left : ℕ → ℕ → ℕ → Bool
room_left left size room = ltb size room

-- a later line that fits is written
abbrev later : ℕ → Walked → Walked
later k w = record { lines = w.lines; passed = k + w.passed; text = w.text }

-- the right answer with another `next`, or another output
abbrev but_next : (Answer → ℕ) → Asked → Answer
but_next next q =
    let r = right q in
    record { number = r.number; lines = r.lines; next = next r; written = r.written; out = r.out }

abbrev but_out : (Answer → Asked → List ℕ) → Asked → Answer
but_out out q =
    let r = right q in
    record { number = r.number; lines = r.lines; next = r.next; written = r.written; out = out r q }

-- the line that does not fit is begun: the output is filled with its first bytes
abbrev filled : Answer → Asked → List ℕ
filled r q = take (length q.out) (texts (listing q.start q.code) ++ drop r.written r.out)

-- what lies behind the lines is cleared
abbrev cleared : Answer → Asked → List ℕ
cleared r q = take r.written r.out ++ replicate (length q.out - r.written) 0

-- a start out of range is wrapped
abbrev any_start : Asked → Answer
any_start q = listed_from q.code 0 q.start q.out

abbrev pub seen : Answer → List ℕ
seen r = r.number ∷ r.lines ∷ r.next ∷ r.written ∷ r.out

-- a row: some code, a start, and an output of so many bytes that are all 7
abbrev listings : String → (Asked → Answer) → List ℕ → ℕ → ℕ → ℕ → ℕ → Row
listings slip slipped code start room one other =
    let q : Asked = record { code = code; start = start; out = replicate room 7 } in
    row slip (seen (right q)) (seen (slipped q)) one other

-- FFFF, which is no operation, and LR 1,2
abbrev unknown_first : List ℕ
unknown_first = 0xff ∷ 0xff ∷ 0x18 ∷ 0x12 ∷ []

-- MVC 0(256,1),4095(15)
abbrev moving : List ℕ
moving = 0xd2 ∷ 0xff ∷ 0x10 ∷ 0x00 ∷ 0xff ∷ 0xff ∷ []

-- LA 1,5(0,2)
abbrev loading : List ℕ
loading = 0x41 ∷ 0x10 ∷ 0x20 ∷ 0x05 ∷ []

-- SLL 1,9,32(0)
abbrev shifting : List ℕ
shifting = 0x89 ∷ 0x19 ∷ 0x00 ∷ 0x20 ∷ []

-- a cut-off BC, and a lone byte
abbrev cut_off : List ℕ
cut_off = 0x47 ∷ 0x10 ∷ 0x47 ∷ []

-- LR 1,2 twice: lines of 14 bytes
abbrev twice : List ℕ
twice = 0x18 ∷ 0x12 ∷ 0x18 ∷ 0x12 ∷ []

abbrev pub slips : List Row
slips =
    -- the walk
    listings "one byte on after an unknown operation" (walked size_of (by_first one_on) line.text_of) unknown_first 0xa000 60 2 3
    ∷ listings "an unknown operation as long as its first two bits say" (alike by_bits line.text_of) unknown_first 0xa000 60 2 1
    ∷ listings "a 6-byte operation passed over as one of 4" (walked size_of four_on line.text_of) moving 0xa000 60 1 2
    ∷ listings "a cut-off instruction raw in all its bytes" (alike all_left line.text_of) cut_off 0xa000 60 2 1
    ∷ listings "a cut-off instruction listed as if it were whole" (alike all_left as_whole) (take 2 cut_off) 0xa000 60 18 19
    ∷ listings "a lone last byte left out" (begun_by two_left ends) cut_off 0xa000 60 2 1
    ∷ listings "an address that does not wrap" (worded (λ a. a) seven_digits) twice 0xfffffe 60 28 29
    ∷ listings "a start out of range wrapped" any_start twice 0x1000000 60 6 0
    -- a line's operands
    ∷ listings "the ignored R3 of a shift not printed" (worded wrapped (text_by (operands line.rx_text without_r3 line.ss_text))) shifting
    0xa000 60 21 19
    ∷ listings "the length byte for the number of bytes" (worded wrapped (text_by (operands line.rx_text rs_all length_byte))) moving
    0xa000 60 54 53
    ∷ listings "the base before the index" (worded wrapped (text_by (operands base_first rs_all line.ss_text))) loading 0xa000 60 48 50
    ∷ listings "no index where it is 0" (worded wrapped (text_by (operands no_index rs_all line.ss_text))) loading 0xa000 60 19 17
    -- what is put out
    ∷ listings "a line begun that does not fit" (but_out filled) twice 0xa000 20 7 48
    ∷ listings "a line that just fits not written" (begun_by room_left ends) twice 0xa000 14 1 0
    ∷ listings "a later line written that is shorter" (begun_by fits later) (moving ++ twice) 0xa000 20 0 1
    ∷ listings "the rest of the output cleared" (but_out cleared) twice 0xa000 20 7 0
    ∷ listings "the lines' number for the next byte" (but_next (λ r. r.lines)) twice 0xa000 60 4 2
    ∷ []
