-- What the rows with an operand in storage make of it, by real address: registers or memory, and the code.
use Rattle.std.specs.Prelude.{ℕ, suc, ◌+◌, ◌-◌, ◌%◌, List, get_or, set}
use Rattle.words.specs.declared.Logic.{Logic}
use Rattle.words.specs.declared.Res.{Res}
use Rattle.words.specs.Codes.{compare_bits, mask_code, zero_code}
use Rattle.words.specs.Combine.{logic_of}
use Rattle.code.specs.declared.Operand.{Operand}
use Rattle.code.specs.declared.Width.{Width}
use Rattle.code.specs.Formats.{left_of, right_of, byte_of}
use Rattle.machine.specs.Fields.{bytes_of}
use Rattle.machine.specs.Rx.{width_of, taken}
use Rattle.fields.specs.Direct.{flat, flat_put}
use Rattle.rs_ss.specs.Multiple.{filled_at, spilled_at}

abbrev pub taken_at : Operand → (h1 code : ℕ) → (mem regs : List ℕ) → ℕ → Res ℕ
taken_at op h1 code mem regs i = taken op (get_or regs (left_of h1) 0) (flat mem i (bytes_of (width_of op)) 0) code

abbrev pub loads : Operand → (h1 code : ℕ) → (mem regs : List ℕ) → ℕ → List ℕ × ℕ
loads op h1 code mem regs i =
    (set regs (left_of h1) (taken_at op h1 code mem regs i).value, (taken_at op h1 code mem regs i).code)

abbrev pub stores : Width → (h1 code : ℕ) → (regs mem : List ℕ) → ℕ → List ℕ × ℕ
stores width h1 code regs mem i = (flat_put mem i (bytes_of width) (get_or regs (left_of h1) 0), code)

abbrev pub compares_byte : ℕ → List ℕ → ℕ → List ℕ × ℕ
compares_byte h1 mem i = (mem, compare_bits (get_or mem i 0) (byte_of h1))

abbrev pub tests_byte : ℕ → List ℕ → ℕ → List ℕ × ℕ
tests_byte h1 mem i = (mem, mask_code (get_or mem i 0) (byte_of h1))

abbrev pub changes_byte : Logic → ℕ → List ℕ → ℕ → List ℕ × ℕ
changes_byte l h1 mem i =
    (set mem i (logic_of l (get_or mem i 0) (byte_of h1)), zero_code (logic_of l (get_or mem i 0) (byte_of h1)))

abbrev pub puts_byte : (h1 code : ℕ) → List ℕ → ℕ → List ℕ × ℕ
puts_byte h1 code mem i = (set mem i (byte_of h1), code)

-- from R1 to R3 there are so many registers
abbrev pub many_of : ℕ → ℕ
many_of h1 = suc ((right_of h1 + 16 - left_of h1) % 16)

abbrev pub fills : (h1 code : ℕ) → (mem regs : List ℕ) → ℕ → List ℕ × ℕ
fills h1 code mem regs i = (filled_at mem (many_of h1) (left_of h1) i regs, code)

abbrev pub spills : (h1 code : ℕ) → (regs mem : List ℕ) → ℕ → List ℕ × ℕ
spills h1 code regs mem i = (spilled_at regs (many_of h1) (left_of h1) i mem, code)
