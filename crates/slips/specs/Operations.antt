-- Slips in loads, stores, shifts and operations with a halfword, one operation each. All are of `engine::step`.
use Rattle.std.specs.Prelude.{ℕ, ◌+◌, ◌-◌, ◌*◌, ◌/◌, ◌%◌, List, [], ◌∷◌, ltb}
use Prim.Native.String.{String}
use Rattle.words.specs.declared.Alu.{Alu}
use Rattle.words.specs.declared.Alu.TheVariants.{Add, Subtract, Compare, LowProduct}
use Rattle.words.specs.Pick.{pick}
use Rattle.words.specs.Codes.{zero_code}
use Rattle.words.specs.Combine.{combine_of, shifted_left}
use Rattle.pages.specs.declared.Access.TheVariants.{Load, Store}
use Rattle.pages.specs.Word.{next}
use Rattle.code.specs.declared.RxFields.{RxFields}
use Rattle.code.specs.declared.RsFields.{RsFields}
use Rattle.machine.specs.Prog.{Prog, done, put}
use Rattle.machine.specs.Fields.{looks, aligned, loading, storing}
use Rattle.machine.specs.Cpu.{Cpu, reg, with_reg, with_code, with_res, onward, part}
use Rattle.machine.specs.Rx.{rx_address}
use Rattle.machine.specs.Rs.{rs_address, how_many, fills}
use Rattle.slips.specs.Row.{Row}
use Rattle.slips.specs.Seen.{lone, operation, as_rx, as_rs}

-- a store whose address sum keeps more than 24 bits
abbrev long_address : RxFields → Cpu → Prog Cpu
long_address f c = storing 4 (part c f.x2 + part c f.b2 + f.d2) (reg c f.r1) (done (onward c 4))

-- LA that keeps 32 bits
abbrev top_byte : RxFields → Cpu → Prog Cpu
top_byte f c = done (with_reg (onward c 4) f.r1 ((part c f.x2 + part c f.b2 + f.d2) % 4294967296))

-- LA whose index 0 is register 0
abbrev index_zero : RxFields → Cpu → Prog Cpu
index_zero f c = done (with_reg (onward c 4) f.r1 ((reg c f.x2 + part c f.b2 + f.d2) % 16777216))

-- STH of the register's upper half
abbrev upper_half : RxFields → Cpu → Prog Cpu
upper_half f c = storing 2 (rx_address f c) (reg c f.r1 / 65536) (done (onward c 4))

-- STH with the low byte first
abbrev low_byte_first : RxFields → Cpu → Prog Cpu
low_byte_first f c =
    aligned 2 (rx_address f c)
    (looks Store (rx_address f c) 2
    (put (rx_address f c) (reg c f.r1 % 256) (put (next (rx_address f c)) (reg c f.r1 / 256 % 256) (done (onward c 4)))))

-- LM that ends at register 15
abbrev up_to15 : RsFields → Cpu → Prog Cpu
up_to15 f c =
    let n = pick (ltb f.r3 f.r1) (16 - f.r1) (how_many f) in
    aligned 4 (rs_address f c) (looks Load (rs_address f c) (n * 4) (fills n f.r1 (rs_address f c) (onward c 4)))

-- SLL that sets the code
abbrev coded : RsFields → Cpu → Prog Cpu
coded f c =
    let v = shifted_left (reg c f.r1) (rs_address f c) in
    done (with_code (with_reg (onward c 4) f.r1 v) (zero_code v))

-- a halfword operand widened with zeros
abbrev unspread : Alu → RxFields → Cpu → Prog Cpu
unspread op f c =
    loading 2 (rx_address f c) (λ v. done (with_res (onward c 4) f.r1 (combine_of op (reg c f.r1) v c.code)))

-- this operation on 5 in register 1 and the halfword FFFF, so widened: R1 is 1, and the address 8(2)
abbrev halfwords : String → ℕ → Alu → ℕ → ℕ → Row
halfwords slip op alu one other =
    operation slip op (as_rx (unspread alu))
    (lone (op ∷ 0x10 ∷ 0x20 ∷ 8 ∷ 0 ∷ 0 ∷ 0 ∷ 0 ∷ 0xff ∷ 0xff ∷ []) (0 ∷ 5 ∷ 0xa000 ∷ [])) one other

abbrev pub slips : List Row
slips =
    -- ST 1,0(2,3): 00A00C and FFFFFC
    operation "address sums that do not wrap at 24 bits" 0x50 (as_rx long_address)
    (lone (0x50 ∷ 0x12 ∷ 0x30 ∷ 0 ∷ []) (0 ∷ 9 ∷ 0xa00c ∷ 0xfffffc ∷ [])) 0 1
    -- LA 1,1(2): FF000000
    ∷ operation "LA that keeps a top byte" 0x41 (as_rx top_byte) (lone (0x41 ∷ 0x12 ∷ 0 ∷ 1 ∷ []) (0 ∷ 0 ∷ 0xff000000 ∷ [])) 1 0xff000001
    -- LA 1,5
    ∷ operation "index 0 read as register 0" 0x41 (as_rx index_zero) (lone (0x41 ∷ 0x10 ∷ 0 ∷ 5 ∷ []) (7 ∷ [])) 5 12
    -- STH 1,8(2)
    ∷ operation "STH of the upper half" 0x40 (as_rx upper_half) (lone (0x40 ∷ 0x12 ∷ 0 ∷ 8 ∷ []) (0 ∷ 0x12345678 ∷ 0xa000 ∷ [])) 0x56 0x12
    ∷ operation "low byte stored first" 0x40 (as_rx low_byte_first) (lone (0x40 ∷ 0x12 ∷ 0 ∷ 8 ∷ []) (0 ∷ 0x12345678 ∷ 0xa000 ∷ [])) 0x56 0x78
    -- LM 15,0,8(2)
    ∷ operation "LM that stops at 15 and does not wrap" 0x98 (as_rs up_to15)
    (lone (0x98 ∷ 0xf0 ∷ 0x20 ∷ 8 ∷ 0 ∷ 0 ∷ 0 ∷ 0 ∷ 1 ∷ 2 ∷ 3 ∷ 4 ∷ 5 ∷ 6 ∷ 7 ∷ 8 ∷ []) (0 ∷ 0 ∷ 0xa000 ∷ [])) 0x05060708 0
    -- SLL 1,1
    ∷ operation "a condition code after SLL" 0x89 (as_rs coded) (lone (0x89 ∷ 0x10 ∷ 0 ∷ 1 ∷ []) (0 ∷ 3 ∷ [])) 0 1
    ∷ halfwords "AH without the halfword's sign" 0x4a Add 4 65540
    ∷ halfwords "SH without the halfword's sign" 0x4b Subtract 2 1
    ∷ halfwords "CH without the halfword's sign" 0x49 Compare 2 1
    ∷ halfwords "MH without the halfword's sign" 0x4c LowProduct 0xfffffffb 327675
    ∷ []
