-- The formats (001, L517-599; the boxes that survive: RR L3170, RX L4828, RS L5443, SI L4833, SS L4838), from the left: the operation
-- code of 8 bits, then registers, masks, indexes and bases of 4 bits, lengths and immediates of 8, displacements of 12. `h1`, `h2`,
-- `h3` are the instruction's halfwords in order.
use Rattle.std.specs.Prelude.{ℕ, ◌/◌, ◌%◌}
use Rattle.code.specs.declared.RrFields.{RrFields}
use Rattle.code.specs.declared.RxFields.{RxFields}
use Rattle.code.specs.declared.RsFields.{RsFields}
use Rattle.code.specs.declared.SiFields.{SiFields}
use Rattle.code.specs.declared.SsFields.{SsFields}
use Rattle.code.specs.declared.Action.{Action}
use Rattle.code.specs.declared.Action.TheVariants.{Rr, Rx, Rs, Si, Ss}

-- how many bytes an instruction has, by its format
abbrev pub length_of : Action → ℕ
length_of (Rr x) = 2
length_of (Rx x) = 4
length_of (Rs x) = 4
length_of (Si x) = 4
length_of (Ss x) = 6

-- the operation code, and the fields of the first halfword's right byte
abbrev pub op_of : ℕ → ℕ
op_of h1 = h1 / 256

abbrev pub byte_of : ℕ → ℕ
byte_of h1 = h1 % 256

abbrev pub left_of : ℕ → ℕ
left_of h1 = h1 / 16 % 16

abbrev pub right_of : ℕ → ℕ
right_of h1 = h1 % 16

-- base and displacement of an address halfword
abbrev pub base_of : ℕ → ℕ
base_of h = h / 4096

abbrev pub displacement_of : ℕ → ℕ
displacement_of h = h % 4096

-- RR: op R1 R2
abbrev pub rr_of : ℕ → RrFields
rr_of h1 = record { r1 = left_of h1; r2 = right_of h1 }

-- RX: op R1 X2 B2 D2
abbrev pub rx_of : ℕ → ℕ → RxFields
rx_of h1 h2 = record { r1 = left_of h1; x2 = right_of h1; b2 = base_of h2; d2 = displacement_of h2 }

-- RS: op R1 R3 B2 D2
abbrev pub rs_of : ℕ → ℕ → RsFields
rs_of h1 h2 = record { r1 = left_of h1; r3 = right_of h1; b2 = base_of h2; d2 = displacement_of h2 }

-- SI: op I2 B1 D1
abbrev pub si_of : ℕ → ℕ → SiFields
si_of h1 h2 = record { i2 = byte_of h1; b1 = base_of h2; d1 = displacement_of h2 }

-- SS: op L B1 D1 B2 D2
abbrev pub ss_of : ℕ → ℕ → ℕ → SsFields
ss_of h1 h2 h3 =
    record { l = byte_of h1; b1 = base_of h2; d1 = displacement_of h2; b2 = base_of h3; d2 = displacement_of h3 }
