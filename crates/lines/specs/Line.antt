-- A line of a listing: address, operation name and operands, parted by tabs, and LF. How operands look goes by the format, a rule
-- each; every field is there, so that a line tells its bytes.
use Rattle.std.specs.Prelude.{Option, Some, None, List, [], ◌∷◌, ◌++◌, ℕ, ◌+◌, ◌*◌, eqb, length, get_or}
use Rattle.words.specs.Pick.{pick}
use Rattle.words.specs.Ascii.{ascii}
use Rattle.code.specs.declared.Action.{Action}
use Rattle.code.specs.declared.Action.TheVariants.{Rr, Rx, Rs, Si, Ss}
use Rattle.code.specs.declared.RrFields.{RrFields}
use Rattle.code.specs.declared.RxFields.{RxFields}
use Rattle.code.specs.declared.RsFields.{RsFields}
use Rattle.code.specs.declared.SiFields.{SiFields}
use Rattle.code.specs.declared.SsFields.{SsFields}
use Rattle.code.specs.Table.{action_of, name_of}
use Rattle.code.specs.Formats.{length_of, rr_of, rx_of, rs_of, si_of, ss_of}
use Rattle.printing.specs.Digits.{hex_of, decimal_of}
use Rattle.printing.specs.Lines.{field, LF}

-- an address, and the stretch of code bytes that the line stands for
pub record Line : Type 0 where
  pub address : ℕ
  pub bytes : List ℕ

abbrev pub line : ℕ → List ℕ → Line
line address bytes = record { address = address; bytes = bytes }

-- D(B), and D(X,B), where X may also be a length
unfoldable pub based : ℕ → ℕ → List ℕ
based d b = decimal_of d ++ ascii "(" ++ decimal_of b ++ ascii ")"

unfoldable pub indexed : ℕ → ℕ → ℕ → List ℕ
indexed d x b = decimal_of d ++ ascii "(" ++ decimal_of x ++ ascii "," ++ decimal_of b ++ ascii ")"

-- bytes in hex, two digits each, and so quoted: X'..'
unfoldable pub hex_bytes : List ℕ → List ℕ
hex_bytes [] = []
hex_bytes (b ∷ bs) = hex_of 2 b ++ hex_bytes bs

unfoldable pub quoted : List ℕ → List ℕ
quoted bs = ascii "X'" ++ hex_bytes bs ++ ascii "'"

abbrev pub comma : List ℕ
comma = ascii ","

-- R1,R2
unfoldable pub rr_text : RrFields → List ℕ
rr_text f = decimal_of f.r1 ++ comma ++ decimal_of f.r2

-- R1,D2(X2,B2)
unfoldable pub rx_text : RxFields → List ℕ
rx_text f = decimal_of f.r1 ++ comma ++ indexed f.d2 f.x2 f.b2

-- R1,R3,D2(B2)
unfoldable pub rs_text : RsFields → List ℕ
rs_text f = decimal_of f.r1 ++ comma ++ decimal_of f.r3 ++ comma ++ based f.d2 f.b2

-- D1(B1),X'I2'
unfoldable pub si_text : SiFields → List ℕ
si_text f = based f.d1 f.b1 ++ comma ++ quoted (f.i2 ∷ [])

-- D1(L,B1),D2(B2); L is the number of bytes, the length byte and one
unfoldable pub ss_text : SsFields → List ℕ
ss_text f = indexed f.d1 (f.l + 1) f.b1 ++ comma ++ based f.d2 f.b2

-- the halfword at a place of a stretch
abbrev pub half_at : List ℕ → ℕ → ℕ
half_at bs i = get_or bs i 0 * 256 + get_or bs (i + 1) 0

unfoldable pub operands_of : Action → List ℕ → List ℕ
operands_of (Rr x) bs = rr_text (rr_of (half_at bs 0))
operands_of (Rx x) bs = rx_text (rx_of (half_at bs 0) (half_at bs 2))
operands_of (Rs x) bs = rs_text (rs_of (half_at bs 0) (half_at bs 2))
operands_of (Si x) bs = si_text (si_of (half_at bs 0) (half_at bs 2))
operands_of (Ss x) bs = ss_text (ss_of (half_at bs 0) (half_at bs 2) (half_at bs 4))

-- a stretch is an instruction if it has as many bytes as the format of its first byte's operation asks
abbrev pub of_length : Option Action → ℕ → Option Action
of_length (Some x) n = pick (eqb n (length_of x)) (Some x) None
of_length None n = None

unfoldable pub instruction_in : List ℕ → Option Action
instruction_in bs = of_length (action_of (get_or bs 0 0)) (length bs)

-- name and operands: of an instruction its own, of any other stretch DC and the raw bytes
abbrev pub said_of : Option Action → List ℕ → List ℕ
said_of (Some x) bs = field (name_of (get_or bs 0 0)) ++ field (operands_of x bs)
said_of None bs = field (ascii "DC") ++ field (quoted bs)

unfoldable pub text_of : Line → List ℕ
text_of l = hex_of 6 l.address ++ said_of (instruction_in l.bytes) l.bytes ++ LF
