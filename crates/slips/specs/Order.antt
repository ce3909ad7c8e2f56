-- Slips in the order of tests, in the fetch, and in the instruction code. All but the last are of `engine::step`.
use Rattle.std.specs.Prelude.{Option, ℕ, ◌-◌, ◌%◌, List, [], ◌∷◌, ◌++◌, eqb, ltb, replicate}
use Rattle.words.specs.declared.Alu.TheVariants.{Load}
use Rattle.words.specs.Pick.{pick}
use Rattle.pages.specs.declared.Access.TheVariants as access
use Rattle.code.specs.declared.Action.{Action}
use Rattle.code.specs.declared.Operand.TheVariants.{WordWith}
use Rattle.code.specs.declared.RxAction.TheVariants.{Taking, LoadAddress}
use Rattle.code.specs.declared.SsAction.TheVariants.{MoveField}
use Rattle.code.specs.declared.RxFields.{RxFields}
use Rattle.code.specs.declared.SsFields.{SsFields}
use Rattle.code.specs.Table.{action_of}
use Rattle.code.specs.Formats.{op_of, right_of, base_of, displacement_of, rx_of, ss_of}
use Rattle.machine.specs.Prog.{Prog, done, fail}
use Rattle.machine.specs.Fields.{looks, gets, aligned, halfword}
use Rattle.machine.specs.Cpu.{Cpu, with_reg, onward, ahead}
use Rattle.machine.specs.Rx.{rx_address, rx}
use Rattle.machine.specs.Ss.{ss}
use Rattle.machine.specs.Step.{known}
use Rattle.machine.specs.Machine.{Given}
use Rattle.slips.specs.Row.{Row, row}
use Rattle.slips.specs.Seen.{lent, lone, step_by, as_rx, steps, operation}

-- the first halfword looked up before the odd test
abbrev odd_second : Cpu → Prog Cpu
odd_second c =
    halfword c.pc (λ h1. pick (eqb (c.pc % 2) 1) (fail 2 c.pc) (known (action_of (op_of h1)) h1 c))

-- the remaining bytes, as many as the top two bits say, looked up before the operation is tested
abbrev remaining : ℕ → ℕ
remaining op = pick (ltb op 64) 0 (pick (ltb op 192) 2 4)

abbrev operation_last : Cpu → Prog Cpu
operation_last c =
    pick (eqb (c.pc % 2) 1)
    (fail 2 c.pc)
    (halfword c.pc
    (λ h1. looks access.Fetch (ahead c 2) (remaining (op_of h1)) (known (action_of (op_of h1)) h1 c)))

-- L whose boundary is tested before its second halfword is looked up
abbrev boundary_early : ℕ → Cpu → Prog Cpu
boundary_early h1 c =
    gets (ahead c 2) 2 0
    (λ h2. aligned 4 (rx_address (rx_of h1 h2) c) (looks access.Fetch (ahead c 2) 2 (rx (Taking (WordWith Load)) (rx_of h1 h2) c)))

-- L whose boundary is tested after its operand is looked up
abbrev boundary_late : RxFields → Cpu → Prog Cpu
boundary_late f c =
    looks access.Load (rx_address f c) 4
    (aligned 4 (rx_address f c) (gets (rx_address f c) 4 0 (λ v. done (with_reg (onward c 4) f.r1 v))))

-- LA whose second halfword is not looked up
abbrev second_unseen : ℕ → Cpu → Prog Cpu
second_unseen h1 c = gets (ahead c 2) 2 0 (λ h2. rx LoadAddress (rx_of h1 h2) c)

-- MVC whose third halfword is not looked up
abbrev third_unseen : ℕ → Cpu → Prog Cpu
third_unseen h1 c = halfword (ahead c 2) (λ h2. gets (ahead c 4) 2 0 (λ h3. ss MoveField (ss_of h1 h2 h3) c))

-- a step that finds operations in another way
abbrev step_finding : (ℕ → Option Action) → Cpu → Prog Cpu
step_finding find c =
    pick (eqb (c.pc % 2) 1) (fail 2 c.pc) (halfword c.pc (λ h1. known (find (op_of h1)) h1 c))

-- SLL and SRL swapped
abbrev swapped : ℕ → Option Action
swapped k = action_of (pick (eqb k 0x88) 0x89 (pick (eqb k 0x89) 0x88 k))

-- a length of four bits
abbrev short_length : ℕ → ℕ → ℕ → SsFields
short_length h1 h2 h3 =
    record { l = right_of h1; b1 = base_of h2; d1 = displacement_of h2; b2 = base_of h3; d2 = displacement_of h3 }

abbrev told : SsFields → List ℕ
told f = f.l ∷ f.b1 ∷ f.d1 ∷ f.b2 ∷ f.d2 ∷ []

-- page 11 absent: these bytes end page 10, and the counter is at the first of them
abbrev ending : List ℕ → ℕ → List ℕ → Given
ending bytes n regs = lent [] (replicate (16 - n) 0 ++ bytes) 0 regs (0xb000 - n)

abbrev pub slips : List Row
slips =
    -- at 00B001, with page 11 absent
    steps "looked up before the odd test" (step_by odd_second) (lent [] [] 0 [] 0xb001) 2 3
    -- operation 44, of four bytes and not in the set
    ∷ steps "operation tested after the remaining halfwords" (step_by operation_last) (ending (0x44 ∷ 0 ∷ []) 2 []) 5 3
    -- L 1,0(2) of which page 10 has half; register 2 is odd
    ∷ operation "boundary tested before the fetch is whole" 0x58 boundary_early (ending (0x58 ∷ 0x12 ∷ []) 2 (0 ∷ 0 ∷ 1 ∷ [])) 3 2
    -- L 1,1(2), with page 11 absent
    ∷ operation "boundary tested after the look-up" 0x58 (as_rx boundary_late) (lone (0x58 ∷ 0x12 ∷ 0 ∷ 1 ∷ []) (0 ∷ 0 ∷ 0xb000 ∷ [])) 2 3
    -- LA at 00AFFE; MVC at 00AFFC
    ∷ operation "second halfword not looked up" 0x41 second_unseen (ending (0x41 ∷ 0x10 ∷ []) 2 []) 3 0
    ∷ operation "third halfword not looked up" 0xd2 third_unseen (ending (0xd2 ∷ 0 ∷ 0x20 ∷ 0 ∷ []) 4 (0 ∷ 0 ∷ 0xa000 ∷ [])) 0xb000 0
    -- SLL 1,1
    ∷ steps "SLL and SRL swapped" (step_by (step_finding swapped)) (lone (0x89 ∷ 0x10 ∷ 0 ∷ 1 ∷ []) (0 ∷ 6 ∷ [])) 12 3
    -- decode::split_ss
    ∷ row "the SS length byte of four bits" (told (ss_of 0xd2ff 0x2000 0x3000)) (told (short_length 0xd2ff 0x2000 0x3000)) 255 15
    ∷ []
