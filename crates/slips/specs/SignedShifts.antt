-- Slips in SLA, SRA, SLDA and SRDA.
use Rattle.std.specs.Prelude.{ℕ, ◌/◌, ◌%◌, ◌^◌, Bool, not, List, [], ◌∷◌, eqb, ltb, ℤ, pos, ◌*ℤ◌}
use Prim.Native.String.{String}
use Rattle.std.specs.Int.Signed.{quot_z}
use Rattle.words.specs.declared.Direction.{Direction}
use Rattle.words.specs.declared.Direction.TheVariants.{Left, Right}
use Rattle.words.specs.declared.Res.{Res}
use Rattle.words.specs.Pick.{pick}
use Rattle.words.specs.Whole.{word_top, double_top, signed, kept, overflows}
use Rattle.words.specs.Codes.{sign_code}
use Rattle.words.specs.SignedShifts.{leftward, rightward, shifted_of}
use Rattle.code.specs.declared.RsFields.{RsFields}
use Rattle.machine.specs.Prog.{Prog, done}
use Rattle.machine.specs.Cpu.{Cpu, with_reg, with_code, onward}
use Rattle.machine.specs.Pairs.{with_pair}
use Rattle.machine.specs.Rs.{shifted_word, shifted_pair}
use Rattle.slips.specs.Row.{Row, row}
use Rattle.slips.specs.Seen.{lone, operation, as_rs}
use Rattle.slips.specs.Wide.{two_signs}

-- a word, shifted to the left n places
abbrev moved : ℕ → ℕ → ℤ
moved a n = signed word_top a *ℤ pos (2 ^ n)

-- SLA that gives this word, and 3 where this test says so
abbrev sla_by : (ℕ → ℕ → ℕ) → (ℕ → ℕ → Bool) → ℕ → ℕ → Res ℕ
sla_by value over a n =
    record { value = value a n; code = pick (over a n) 3 (sign_code (moved a (n % 64))); over = over a n }

-- the low 32 bits, whatever the sign was
abbrev low_bits : ℕ → ℕ → Res ℕ
low_bits = sla_by (λ a n. kept word_top (moved a (n % 64))) (λ a n. overflows word_top (moved a (n % 64)))

-- the right word, but overflow is another
abbrev overflow_by : (ℕ → ℕ → Bool) → ℕ → ℕ → Res ℕ
overflow_by = sla_by (λ a n. (shifted_of Left word_top a n).value)

-- the first bit that is lost against the sign, and no other
abbrev first_bit : ℕ → ℕ → Bool
first_bit a n = not (eqb (a / 1073741824 % 2) (a / 2147483648))

-- the 31 bits that the word had, and no zero that was shifted in
abbrev own_bits : ℕ → ℕ → Bool
own_bits a n = overflows word_top (moved a (pick (ltb (n % 64) 31) (n % 64) 31))

-- an amount of five bits
abbrev five_bits : ℕ → ℕ → Res ℕ
five_bits a n = shifted_of Left word_top a (n % 32)

-- SRA with zeros on the left, and SRA that cuts toward zero
abbrev zeros_in : ℕ → ℕ → Res ℕ
zeros_in a n = rightward word_top (pos (a / 2 ^ (n % 64)))

abbrev toward_zero : ℕ → ℕ → Res ℕ
toward_zero a n = rightward word_top (quot_z (signed word_top a) (pos (2 ^ (n % 64))))

-- a double shift whose code goes by one of the two words
abbrev code_by : (ℕ → ℕ) → Direction → ℕ → ℕ → Res ℕ
code_by half to a n =
    let r = shifted_of to double_top a n in
    record { value = r.value; code = sign_code (signed word_top (half r.value)); over = r.over }

abbrev left_half : ℕ → ℕ
left_half v = v / 4294967296

abbrev right_half : ℕ → ℕ
right_half v = v % 4294967296

-- SLDA with a sign in the right word
abbrev right_sign : ℕ → ℕ → Res ℕ
right_sign a n = leftward double_top a (two_signs a *ℤ pos (2 ^ (n % 64)))

-- SRA that leaves the code
abbrev uncoded : RsFields → Cpu → Prog Cpu
uncoded f c = done (with_reg (onward c 4) f.r1 (shifted_word Right f c).value)

-- SRDA from any register on
abbrev any_register : RsFields → Cpu → Prog Cpu
any_register f c =
    let r = shifted_pair Right f c in
    done (with_code (with_pair (onward c 4) f.r1 r.value) r.code)

-- value and code of a shift of a by n
abbrev shifts : String → Direction → ℕ → (ℕ → ℕ → Res ℕ) → ℕ → ℕ → ℕ → ℕ → Row
shifts slip to top slipped a n one other = row slip (told (shifted_of to top a n)) (told (slipped a n)) one other
  where
    told : Res ℕ → List ℕ
    told s = s.value ∷ s.code ∷ []

abbrev pub slips : List Row
slips =
    -- arithmetic::shifts::word
    shifts "SLA that loses the sign on overflow" Left word_top low_bits 0x40000000 1 0 0x80000000
    ∷ shifts "SLA that overflows by the first lost bit only" Left word_top (overflow_by first_bit) 0x20000000 2 3 2
    ∷ shifts "SLA of FFFFFFFF by 32 taken to fit" Left word_top (overflow_by own_bits) 0xffffffff 32 3 1
    ∷ shifts "SLA amounts of five bits" Left word_top five_bits 1 32 0 1
    ∷ shifts "SRA as a logical shift" Right word_top zeros_in 0x80000000 1 0xc0000000 0x40000000
    ∷ shifts "SRA cutting toward zero" Right word_top toward_zero 0xffffffff 1 0xffffffff 0
    -- arithmetic::shifts::double
    ∷ shifts "SLDA's code from the left half only" Left double_top (code_by left_half Left) 0x40000000 1 2 0
    ∷ shifts "SRDA's code from the right half only" Right double_top (code_by right_half Right) 0x100000000 1 2 1
    ∷ shifts "a sign in the right word of SLDA" Left double_top right_sign 0x80000000 1 0x100000000 0x7fffffff00000000
    -- engine::step: SRA 1,1 and SRDA 3,1
    ∷ operation "SRA leaving the code" 0x8a (as_rs uncoded) (lone (0x8a ∷ 0x10 ∷ 0 ∷ 1 ∷ []) (0 ∷ 4 ∷ [])) 2 0
    ∷ operation "SRDA with an odd R1 not refused" 0x8e (as_rs any_register) (lone (0x8e ∷ 0x30 ∷ 0 ∷ 1 ∷ []) (0 ∷ 0 ∷ 0 ∷ 4 ∷ [])) 2 0
    ∷ []
