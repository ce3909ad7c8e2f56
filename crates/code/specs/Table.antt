-- Every operation that the machine knows: the base set in document 01's order, then what requests of document 02 added, in theirs, with
-- the operation code and the name of the manual's Appendix A (the line beside each row). What an action does is in the crate machine, by
-- format: Rr, Rx, Rs, Si, Ss.
use Rattle.std.specs.Prelude.{Option, Some, None, ℕ, List, [], ◌∷◌, eqb}
use Prim.Native.String.{String}
use Rattle.words.specs.Pick.{pick}
use Rattle.words.specs.Said.{Said, says}
use Rattle.words.specs.Ascii.{ascii}
use Rattle.words.specs.declared.Alu.TheVariants.{Load, Test, Complement, Positive, Negative, Add, Subtract, Compare, AddLogical, SubtractLogical, CompareLogical, Bits, LowProduct}
use Rattle.words.specs.declared.Logic.TheVariants.{And, Or, Xor}
use Rattle.words.specs.declared.PairOp.TheVariants.{Multiply, Divide}
use Rattle.words.specs.declared.Direction.TheVariants.{Left, Right}
use Rattle.code.specs.declared.Operand.TheVariants.{WordWith, HalfWith, ByteInserted}
use Rattle.code.specs.declared.Width.TheVariants.{Word, Half, Byte}
use Rattle.code.specs.declared.Branch.TheVariants.{OnCondition, AndLink, OnCount}
use Rattle.code.specs.declared.RrAction.TheVariants.{Registers, RegisterBranch, PairAndRegister}
use Rattle.code.specs.declared.RxAction.TheVariants.{Taking, Storing, LoadAddress, AddressBranch, PairAndWord}
use Rattle.code.specs.declared.RsAction.TheVariants.{LoadMultiple, StoreMultiple, ShiftLeft, ShiftRight, BranchHigh, BranchLowEqual, ShiftSigned, ShiftDouble}
use Rattle.code.specs.declared.SiAction.TheVariants.{CompareByte, TestMask, BitsByte, MoveByte}
use Rattle.code.specs.declared.SsAction.TheVariants.{MoveField, CompareField}
use Rattle.code.specs.declared.Action.{Action}
use Rattle.code.specs.declared.Action.TheVariants.{Rr, Rx, Rs, Si, Ss}

pub record Row : Type 0 where
  pub code : ℕ
  pub name : String
  pub action : Action

abbrev pub row : ℕ → String → Action → Row
row k n x = record { code = k; name = n; action = x }

unfoldable pub table : List Row
table =
    -- Load and store
    row 0x18 "LR" (Rr (Registers Load))  -- L6490
    ∷ row 0x58 "L" (Rx (Taking (WordWith Load)))  -- L6489
    ∷ row 0x48 "LH" (Rx (Taking (HalfWith Load)))  -- L6484
    ∷ row 0x12 "LTR" (Rr (Registers Test))  -- L6488
    ∷ row 0x13 "LCR" (Rr (Registers Complement))  -- L6473
    ∷ row 0x10 "LPR" (Rr (Registers Positive))  -- L6487
    ∷ row 0x11 "LNR" (Rr (Registers Negative))  -- L6486
    ∷ row 0x98 "LM" (Rs LoadMultiple)  -- L6485
    ∷ row 0x50 "ST" (Rx (Storing Word))  -- L6501
    ∷ row 0x40 "STH" (Rx (Storing Half))  -- L6499
    ∷ row 0x90 "STM" (Rs StoreMultiple)  -- L6500
    ∷ row 0x41 "LA" (Rx LoadAddress)  -- L6552
    ∷ row 0x43 "IC" (Rx (Taking ByteInserted))  -- L6551
    ∷ row 0x42 "STC" (Rx (Storing Byte))  -- L6579
    -- Arithmetic
    ∷ row 0x1a "AR" (Rr (Registers Add))  -- L6465
    ∷ row 0x5a "A" (Rx (Taking (WordWith Add)))  -- L6464
    ∷ row 0x1b "SR" (Rr (Registers Subtract))  -- L6506
    ∷ row 0x5b "S" (Rx (Taking (WordWith Subtract)))  -- L6505
    ∷ row 0x19 "CR" (Rr (Registers Compare))  -- L6468
    ∷ row 0x59 "C" (Rx (Taking (WordWith Compare)))  -- L6467
    ∷ row 0x1e "ALR" (Rr (Registers AddLogical))  -- L6463
    ∷ row 0x5e "AL" (Rx (Taking (WordWith AddLogical)))  -- L6462
    ∷ row 0x1f "SLR" (Rr (Registers SubtractLogical))  -- L6504
    ∷ row 0x5f "SL" (Rx (Taking (WordWith SubtractLogical)))  -- L6503
    -- Logical
    ∷ row 0x15 "CLR" (Rr (Registers CompareLogical))  -- L6544
    ∷ row 0x55 "CL" (Rx (Taking (WordWith CompareLogical)))  -- L6541
    ∷ row 0x95 "CLI" (Si CompareByte)  -- L6543
    ∷ row 0xd5 "CLC" (Ss CompareField)  -- L6542
    ∷ row 0x14 "NR" (Rr (Registers (Bits And)))  -- L6539
    ∷ row 0x54 "N" (Rx (Taking (WordWith (Bits And))))  -- L6536
    ∷ row 0x94 "NI" (Si (BitsByte And))  -- L6538
    ∷ row 0x16 "OR" (Rr (Registers (Bits Or)))  -- L6574
    ∷ row 0x56 "O" (Rx (Taking (WordWith (Bits Or))))  -- L6571
    ∷ row 0x96 "OI" (Si (BitsByte Or))  -- L6573
    ∷ row 0x17 "XR" (Rr (Registers (Bits Xor)))  -- L6550
    ∷ row 0x57 "X" (Rx (Taking (WordWith (Bits Xor))))  -- L6547
    ∷ row 0x97 "XI" (Si (BitsByte Xor))  -- L6549
    ∷ row 0x91 "TM" (Si TestMask)  -- L6581
    ∷ row 0x92 "MVI" (Si MoveByte)  -- L6568
    ∷ row 0xd2 "MVC" (Ss MoveField)  -- L6567
    ∷ row 0x89 "SLL" (Rs ShiftLeft)  -- L6575
    ∷ row 0x88 "SRL" (Rs ShiftRight)  -- L6576
    -- Branch
    ∷ row 0x07 "BCR" (Rr (RegisterBranch OnCondition))  -- L6593
    ∷ row 0x47 "BC" (Rx (AddressBranch OnCondition))  -- L6592
    ∷ row 0x05 "BALR" (Rr (RegisterBranch AndLink))  -- L6591
    ∷ row 0x45 "BAL" (Rx (AddressBranch AndLink))  -- L6590
    ∷ row 0x06 "BCTR" (Rr (RegisterBranch OnCount))  -- L6595
    ∷ row 0x46 "BCT" (Rx (AddressBranch OnCount))  -- L6594
    ∷ row 0x86 "BXH" (Rs BranchHigh)  -- L6596
    ∷ row 0x87 "BXLE" (Rs BranchLowEqual)  -- L6610
    -- E2: multiply, divide and the signed shifts
    ∷ row 0x1c "MR" (Rr (PairAndRegister Multiply))  -- L6493
    ∷ row 0x5c "M" (Rx (PairAndWord Multiply))  -- L6492
    ∷ row 0x4c "MH" (Rx (Taking (HalfWith LowProduct)))  -- L6491
    ∷ row 0x1d "DR" (Rr (PairAndRegister Divide))  -- L6472
    ∷ row 0x5d "D" (Rx (PairAndWord Divide))  -- L6471
    ∷ row 0x4a "AH" (Rx (Taking (HalfWith Add)))  -- L6461
    ∷ row 0x4b "SH" (Rx (Taking (HalfWith Subtract)))  -- L6502
    ∷ row 0x49 "CH" (Rx (Taking (HalfWith Compare)))  -- L6466
    ∷ row 0x8b "SLA" (Rs (ShiftSigned Left))  -- L6497
    ∷ row 0x8a "SRA" (Rs (ShiftSigned Right))  -- L6498
    ∷ row 0x8f "SLDA" (Rs (ShiftDouble Left))  -- L6494
    ∷ row 0x8e "SRDA" (Rs (ShiftDouble Right))  -- L6495
    ∷ []

-- the action of the first row with this code
abbrev pub find : List Row → ℕ → Option Action
find [] k = None
find (r ∷ rs) k = pick (eqb k r.code) (Some r.action) (find rs k)

unfoldable pub action_of : ℕ → Option Action
action_of k = find table k

-- the name of the first row with this code; none where no row has it
abbrev pub named : List Row → ℕ → String
named [] k = ""
named (r ∷ rs) k = pick (eqb k r.code) r.name (named rs k)

unfoldable pub name_of : ℕ → List ℕ
name_of k = ascii (named table k)

-- the enum's cases in document 01's terms: the action, or number 5
abbrev pub found_says : Option Action → Said (List Action)
found_says (Some x) = says 0 (x ∷ [])
found_says None = says 5 []
