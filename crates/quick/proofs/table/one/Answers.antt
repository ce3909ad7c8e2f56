-- For each row its kind's law, with its code and the table's action.
use mathlib.Core.Path.{refl}
use Rattle.words.specs.declared.Alu.TheVariants as alu
use Rattle.words.specs.declared.Logic.TheVariants as logic
use Rattle.words.specs.declared.Direction.TheVariants.{Left, Right}
use Rattle.words.specs.declared.PairOp.TheVariants.{Multiply, Divide}
use Rattle.code.specs.declared.Action.TheVariants.{Rr, Rx, Rs}
use Rattle.code.specs.declared.Branch.TheVariants.{OnCondition, AndLink, OnCount}
use Rattle.code.specs.declared.Operand.TheVariants.{WordWith, HalfWith, ByteInserted}
use Rattle.code.specs.declared.Width.TheVariants.{Word, Half, Byte}
use Rattle.code.specs.declared.RrAction.TheVariants.{Registers, PairAndRegister}
use Rattle.code.specs.declared.RxAction.TheVariants.{LoadAddress}
use Rattle.code.specs.declared.RsAction.TheVariants.{ShiftLeft, ShiftRight, BranchHigh, BranchLowEqual, ShiftSigned, ShiftDouble}
use Rattle.code.specs.Table.{action_of, table}
use Rattle.quick.specs.Turns.{now_of}
use Rattle.quick.proofs.Answered.{field_lies}
use Rattle.quick.proofs.Rows.{turned_not, free_arm, rr_branch_arm, rx_branch_arm, load_arm, store_arm, pair_arm, compare_arm, test_arm, bits_arm, put_arm, fill_arm, spill_arm, move_arm, compares_arm}
use Rattle.quick.proofs.table.one.Goals as goal

pub word-requires : goal.word-requires
word-requires c = field_lies _ _ _ _ _ _ (c.rx.ensures (now_of c.args.p))

pub word-requires-in-90 : goal.word-requires-in-90
word-requires-in-90 c = field_lies _ _ _ _ _ _ (c.rx-in-90.ensures (now_of c.args.p))

pub word-requires-in-91 : goal.word-requires-in-91
word-requires-in-91 c = field_lies _ _ _ _ _ _ (c.rx-in-91.ensures (now_of c.args.p))

pub word-requires-in-89 : goal.word-requires-in-89
word-requires-in-89 c = field_lies _ _ _ _ _ _ (c.rx-in-89.ensures (now_of c.args.p))

pub word-requires-in-94 : goal.word-requires-in-94
word-requires-in-94 c = field_lies _ _ _ _ _ _ (c.rx-in-94.ensures (now_of c.args.p))

pub word-requires-in-95 : goal.word-requires-in-95
word-requires-in-95 c = field_lies _ _ _ _ _ _ (c.rx-in-95.ensures (now_of c.args.p))

pub word-requires-in-85 : goal.word-requires-in-85
word-requires-in-85 c = field_lies _ _ _ _ _ _ (c.rx-in-85.ensures (now_of c.args.p))

pub word-requires-in-84 : goal.word-requires-in-84
word-requires-in-84 c = field_lies _ _ _ _ _ _ (c.rx-in-84.ensures (now_of c.args.p))

pub word-requires-in-86 : goal.word-requires-in-86
word-requires-in-86 c = field_lies _ _ _ _ _ _ (c.rx-in-86.ensures (now_of c.args.p))

pub word-requires-in-87 : goal.word-requires-in-87
word-requires-in-87 c = field_lies _ _ _ _ _ _ (c.rx-in-87.ensures (now_of c.args.p))

pub half-requires : goal.half-requires
half-requires c = field_lies _ _ _ _ _ _ (c.rx-in-72.ensures (now_of c.args.p))

pub half-requires-in-74 : goal.half-requires-in-74
half-requires-in-74 c = field_lies _ _ _ _ _ _ (c.rx-in-74.ensures (now_of c.args.p))

pub half-requires-in-75 : goal.half-requires-in-75
half-requires-in-75 c = field_lies _ _ _ _ _ _ (c.rx-in-75.ensures (now_of c.args.p))

pub half-requires-in-73 : goal.half-requires-in-73
half-requires-in-73 c = field_lies _ _ _ _ _ _ (c.rx-in-73.ensures (now_of c.args.p))

pub half-requires-in-76 : goal.half-requires-in-76
half-requires-in-76 c = field_lies _ _ _ _ _ _ (c.rx-in-76.ensures (now_of c.args.p))

pub insert-requires : goal.insert-requires
insert-requires c = field_lies _ _ _ _ _ _ (c.rx-in-67.ensures (now_of c.args.p))

pub store-requires : goal.store-requires
store-requires c = field_lies _ _ _ _ _ _ (c.rx-in-80.ensures (now_of c.args.p))

pub store-requires-in-64 : goal.store-requires-in-64
store-requires-in-64 c = field_lies _ _ _ _ _ _ (c.rx-in-64.ensures (now_of c.args.p))

pub store-requires-in-66 : goal.store-requires-in-66
store-requires-in-66 c = field_lies _ _ _ _ _ _ (c.rx-in-66.ensures (now_of c.args.p))

pub multiply-requires : goal.multiply-requires
multiply-requires c = field_lies _ _ _ _ _ _ (c.rx-in-92.ensures (now_of c.args.p))

pub divide-requires : goal.divide-requires
divide-requires c = field_lies _ _ _ _ _ _ (c.rx-in-93.ensures (now_of c.args.p))

pub load_many-requires : goal.load_many-requires
load_many-requires c = field_lies _ _ _ _ _ _ (c.rs.ensures (now_of c.args.p))

pub store_many-requires : goal.store_many-requires
store_many-requires c = field_lies _ _ _ _ _ _ (c.rs-in-144.ensures (now_of c.args.p))

pub compare-requires : goal.compare-requires
compare-requires c = field_lies _ _ _ _ _ _ (c.rs-in-149.ensures (now_of c.args.p))

pub test-requires : goal.test-requires
test-requires c = field_lies _ _ _ _ _ _ (c.rs-in-145.ensures (now_of c.args.p))

pub bits-requires : goal.bits-requires
bits-requires c = field_lies _ _ _ _ _ _ (c.rs-in-148.ensures (now_of c.args.p))

pub bits-requires-in-150 : goal.bits-requires-in-150
bits-requires-in-150 c = field_lies _ _ _ _ _ _ (c.rs-in-150.ensures (now_of c.args.p))

pub bits-requires-in-151 : goal.bits-requires-in-151
bits-requires-in-151 c = field_lies _ _ _ _ _ _ (c.rs-in-151.ensures (now_of c.args.p))

pub put-requires : goal.put-requires
put-requires c = field_lies _ _ _ _ _ _ (c.rs-in-146.ensures (now_of c.args.p))

pub returns-in-24 : goal.returns-in-24
unfolding action_of table
returns-in-24 c = free_arm _ c.args.p c.args.regs.now c.args.mem.now c.args.map.now 24 c.in-24.is (Rr (Registers alu.Load)) refl _ c.between.ensures

pub returns-in-18 : goal.returns-in-18
unfolding action_of table
returns-in-18 c = free_arm _ c.args.p c.args.regs.now c.args.mem.now c.args.map.now 18 c.in-18.is (Rr (Registers alu.Test)) refl _ c.between-in-18.ensures

pub returns-in-19 : goal.returns-in-19
unfolding action_of table
returns-in-19 c = free_arm _ c.args.p c.args.regs.now c.args.mem.now c.args.map.now 19 c.in-19.is (Rr (Registers alu.Complement)) refl _ c.between-in-19.ensures

pub returns-in-16 : goal.returns-in-16
unfolding action_of table
returns-in-16 c = free_arm _ c.args.p c.args.regs.now c.args.mem.now c.args.map.now 16 c.in-16.is (Rr (Registers alu.Positive)) refl _ c.between-in-16.ensures

pub returns-in-17 : goal.returns-in-17
unfolding action_of table
returns-in-17 c = free_arm _ c.args.p c.args.regs.now c.args.mem.now c.args.map.now 17 c.in-17.is (Rr (Registers alu.Negative)) refl _ c.between-in-17.ensures

pub returns-in-26 : goal.returns-in-26
unfolding action_of table
returns-in-26 c = free_arm _ c.args.p c.args.regs.now c.args.mem.now c.args.map.now 26 c.in-26.is (Rr (Registers alu.Add)) refl _ c.between-in-26.ensures

pub returns-in-27 : goal.returns-in-27
unfolding action_of table
returns-in-27 c = free_arm _ c.args.p c.args.regs.now c.args.mem.now c.args.map.now 27 c.in-27.is (Rr (Registers alu.Subtract)) refl _ c.between-in-27.ensures

pub returns-in-25 : goal.returns-in-25
unfolding action_of table
returns-in-25 c = free_arm _ c.args.p c.args.regs.now c.args.mem.now c.args.map.now 25 c.in-25.is (Rr (Registers alu.Compare)) refl _ c.between-in-25.ensures

pub returns-in-30 : goal.returns-in-30
unfolding action_of table
returns-in-30 c = free_arm _ c.args.p c.args.regs.now c.args.mem.now c.args.map.now 30 c.in-30.is (Rr (Registers alu.AddLogical)) refl _ c.between-in-30.ensures

pub returns-in-31 : goal.returns-in-31
unfolding action_of table
returns-in-31 c = free_arm _ c.args.p c.args.regs.now c.args.mem.now c.args.map.now 31 c.in-31.is (Rr (Registers alu.SubtractLogical)) refl _ c.between-in-31.ensures

pub returns-in-21 : goal.returns-in-21
unfolding action_of table
returns-in-21 c = free_arm _ c.args.p c.args.regs.now c.args.mem.now c.args.map.now 21 c.in-21.is (Rr (Registers alu.CompareLogical)) refl _ c.between-in-21.ensures

pub returns-in-20 : goal.returns-in-20
unfolding action_of table
returns-in-20 c = free_arm _ c.args.p c.args.regs.now c.args.mem.now c.args.map.now 20 c.in-20.is (Rr (Registers (alu.Bits logic.And))) refl _ c.between-in-20.ensures

pub returns-in-22 : goal.returns-in-22
unfolding action_of table
returns-in-22 c = free_arm _ c.args.p c.args.regs.now c.args.mem.now c.args.map.now 22 c.in-22.is (Rr (Registers (alu.Bits logic.Or))) refl _ c.between-in-22.ensures

pub returns-in-23 : goal.returns-in-23
unfolding action_of table
returns-in-23 c = free_arm _ c.args.p c.args.regs.now c.args.mem.now c.args.map.now 23 c.in-23.is (Rr (Registers (alu.Bits logic.Xor))) refl _ c.between-in-23.ensures

pub returns-in-28 : goal.returns-in-28
unfolding action_of table
returns-in-28 c = free_arm _ c.args.p c.args.regs.now c.args.mem.now c.args.map.now 28 c.in-28.is (Rr (PairAndRegister Multiply)) refl _ c.pair_between.ensures

pub returns-in-29 : goal.returns-in-29
unfolding action_of table
returns-in-29 c = free_arm _ c.args.p c.args.regs.now c.args.mem.now c.args.map.now 29 c.in-29.is (Rr (PairAndRegister Divide)) refl _ c.pair_between-in-29.ensures

pub returns-in-7 : goal.returns-in-7
unfolding action_of table
returns-in-7 c = rr_branch_arm _ c.args.p c.args.regs.now c.args.mem.now c.args.map.now 7 c.in-7.is OnCondition refl _ _ _ c.target.ensures refl c.condition.ensures

pub returns-in-5 : goal.returns-in-5
unfolding action_of table
returns-in-5 c = rr_branch_arm _ c.args.p c.args.regs.now c.args.mem.now c.args.map.now 5 c.in-5.is AndLink refl _ _ _ c.target-in-5.ensures refl c.link.ensures

pub returns-in-6 : goal.returns-in-6
unfolding action_of table
returns-in-6 c = rr_branch_arm _ c.args.p c.args.regs.now c.args.mem.now c.args.map.now 6 c.in-6.is OnCount refl _ _ _ c.target-in-6.ensures refl c.count.ensures

pub returns-in-88 : goal.returns-in-88
unfolding action_of table
returns-in-88 c = load_arm _ c.args.p c.args.regs.now c.args.mem.now c.args.map.now 88 c.in-88.is _ (WordWith alu.Load) refl c.rx.ensures _ c.word.ensures

pub returns-in-90 : goal.returns-in-90
unfolding action_of table
returns-in-90 c = load_arm _ c.args.p c.args.regs.now c.args.mem.now c.args.map.now 90 c.in-90.is _ (WordWith alu.Add) refl c.rx-in-90.ensures _ c.word-in-90.ensures

pub returns-in-91 : goal.returns-in-91
unfolding action_of table
returns-in-91 c = load_arm _ c.args.p c.args.regs.now c.args.mem.now c.args.map.now 91 c.in-91.is _ (WordWith alu.Subtract) refl c.rx-in-91.ensures _ c.word-in-91.ensures

pub returns-in-89 : goal.returns-in-89
unfolding action_of table
returns-in-89 c = load_arm _ c.args.p c.args.regs.now c.args.mem.now c.args.map.now 89 c.in-89.is _ (WordWith alu.Compare) refl c.rx-in-89.ensures _ c.word-in-89.ensures

pub returns-in-94 : goal.returns-in-94
unfolding action_of table
returns-in-94 c = load_arm _ c.args.p c.args.regs.now c.args.mem.now c.args.map.now 94 c.in-94.is _ (WordWith alu.AddLogical) refl c.rx-in-94.ensures _ c.word-in-94.ensures

pub returns-in-95 : goal.returns-in-95
unfolding action_of table
returns-in-95 c = load_arm _ c.args.p c.args.regs.now c.args.mem.now c.args.map.now 95 c.in-95.is _ (WordWith alu.SubtractLogical) refl c.rx-in-95.ensures _ c.word-in-95.ensures

pub returns-in-85 : goal.returns-in-85
unfolding action_of table
returns-in-85 c = load_arm _ c.args.p c.args.regs.now c.args.mem.now c.args.map.now 85 c.in-85.is _ (WordWith alu.CompareLogical) refl c.rx-in-85.ensures _ c.word-in-85.ensures

pub returns-in-84 : goal.returns-in-84
unfolding action_of table
returns-in-84 c = load_arm _ c.args.p c.args.regs.now c.args.mem.now c.args.map.now 84 c.in-84.is _ (WordWith (alu.Bits logic.And)) refl c.rx-in-84.ensures _ c.word-in-84.ensures

pub returns-in-86 : goal.returns-in-86
unfolding action_of table
returns-in-86 c = load_arm _ c.args.p c.args.regs.now c.args.mem.now c.args.map.now 86 c.in-86.is _ (WordWith (alu.Bits logic.Or)) refl c.rx-in-86.ensures _ c.word-in-86.ensures

pub returns-in-87 : goal.returns-in-87
unfolding action_of table
returns-in-87 c = load_arm _ c.args.p c.args.regs.now c.args.mem.now c.args.map.now 87 c.in-87.is _ (WordWith (alu.Bits logic.Xor)) refl c.rx-in-87.ensures _ c.word-in-87.ensures

pub returns-in-72 : goal.returns-in-72
unfolding action_of table
returns-in-72 c = load_arm _ c.args.p c.args.regs.now c.args.mem.now c.args.map.now 72 c.in-72.is _ (HalfWith alu.Load) refl c.rx-in-72.ensures _ c.half.ensures

pub returns-in-74 : goal.returns-in-74
unfolding action_of table
returns-in-74 c = load_arm _ c.args.p c.args.regs.now c.args.mem.now c.args.map.now 74 c.in-74.is _ (HalfWith alu.Add) refl c.rx-in-74.ensures _ c.half-in-74.ensures

pub returns-in-75 : goal.returns-in-75
unfolding action_of table
returns-in-75 c = load_arm _ c.args.p c.args.regs.now c.args.mem.now c.args.map.now 75 c.in-75.is _ (HalfWith alu.Subtract) refl c.rx-in-75.ensures _ c.half-in-75.ensures

pub returns-in-73 : goal.returns-in-73
unfolding action_of table
returns-in-73 c = load_arm _ c.args.p c.args.regs.now c.args.mem.now c.args.map.now 73 c.in-73.is _ (HalfWith alu.Compare) refl c.rx-in-73.ensures _ c.half-in-73.ensures

pub returns-in-76 : goal.returns-in-76
unfolding action_of table
returns-in-76 c = load_arm _ c.args.p c.args.regs.now c.args.mem.now c.args.map.now 76 c.in-76.is _ (HalfWith alu.LowProduct) refl c.rx-in-76.ensures _ c.half-in-76.ensures

pub returns-in-67 : goal.returns-in-67
unfolding action_of table
returns-in-67 c = load_arm _ c.args.p c.args.regs.now c.args.mem.now c.args.map.now 67 c.in-67.is _ ByteInserted refl c.rx-in-67.ensures _ c.insert.ensures

pub returns-in-80 : goal.returns-in-80
unfolding action_of table
returns-in-80 c = store_arm _ c.args.p c.args.regs.now c.args.mem.now c.args.map.now 80 c.in-80.is _ Word refl c.rx-in-80.ensures _ c.store.ensures

pub returns-in-64 : goal.returns-in-64
unfolding action_of table
returns-in-64 c = store_arm _ c.args.p c.args.regs.now c.args.mem.now c.args.map.now 64 c.in-64.is _ Half refl c.rx-in-64.ensures _ c.store-in-64.ensures

pub returns-in-66 : goal.returns-in-66
unfolding action_of table
returns-in-66 c = store_arm _ c.args.p c.args.regs.now c.args.mem.now c.args.map.now 66 c.in-66.is _ Byte refl c.rx-in-66.ensures _ c.store-in-66.ensures

pub returns-in-92 : goal.returns-in-92
unfolding action_of table
returns-in-92 c = pair_arm c.args.p c.args.regs.now c.args.mem.now c.args.map.now _ 92 c.in-92.is _ Multiply refl c.rx-in-92.ensures _ c.multiply.ensures

pub returns-in-93 : goal.returns-in-93
unfolding action_of table
returns-in-93 c = pair_arm c.args.p c.args.regs.now c.args.mem.now c.args.map.now _ 93 c.in-93.is _ Divide refl c.rx-in-93.ensures _ c.divide.ensures

pub returns-in-65 : goal.returns-in-65
unfolding action_of table
returns-in-65 c = free_arm _ c.args.p c.args.regs.now c.args.mem.now c.args.map.now 65 c.in-65.is (Rx LoadAddress) refl _ c.load_address.ensures

pub returns-in-71 : goal.returns-in-71
unfolding action_of table
returns-in-71 c = rx_branch_arm _ c.args.p c.args.regs.now c.args.mem.now c.args.map.now 71 c.in-71.is OnCondition refl _ _ c.address.ensures c.condition-in-71.ensures

pub returns-in-69 : goal.returns-in-69
unfolding action_of table
returns-in-69 c = rx_branch_arm _ c.args.p c.args.regs.now c.args.mem.now c.args.map.now 69 c.in-69.is AndLink refl _ _ c.address-in-69.ensures c.link-in-69.ensures

pub returns-in-70 : goal.returns-in-70
unfolding action_of table
returns-in-70 c = rx_branch_arm _ c.args.p c.args.regs.now c.args.mem.now c.args.map.now 70 c.in-70.is OnCount refl _ _ c.address-in-70.ensures c.count-in-70.ensures

pub returns-in-134 : goal.returns-in-134
unfolding action_of table
returns-in-134 c = free_arm _ c.args.p c.args.regs.now c.args.mem.now c.args.map.now 134 c.in-134.is (Rs BranchHigh) refl _ c.index.ensures

pub returns-in-135 : goal.returns-in-135
unfolding action_of table
returns-in-135 c = free_arm _ c.args.p c.args.regs.now c.args.mem.now c.args.map.now 135 c.in-135.is (Rs BranchLowEqual) refl _ c.index-in-135.ensures

pub returns-in-137 : goal.returns-in-137
unfolding action_of table
returns-in-137 c = free_arm _ c.args.p c.args.regs.now c.args.mem.now c.args.map.now 137 c.in-137.is (Rs ShiftLeft) refl _ c.shift_logical.ensures

pub returns-in-136 : goal.returns-in-136
unfolding action_of table
returns-in-136 c = free_arm _ c.args.p c.args.regs.now c.args.mem.now c.args.map.now 136 c.in-136.is (Rs ShiftRight) refl _ c.shift_logical-in-136.ensures

pub returns-in-139 : goal.returns-in-139
unfolding action_of table
returns-in-139 c = free_arm _ c.args.p c.args.regs.now c.args.mem.now c.args.map.now 139 c.in-139.is (Rs (ShiftSigned Left)) refl _ c.shift_signed.ensures

pub returns-in-138 : goal.returns-in-138
unfolding action_of table
returns-in-138 c = free_arm _ c.args.p c.args.regs.now c.args.mem.now c.args.map.now 138 c.in-138.is (Rs (ShiftSigned Right)) refl _ c.shift_signed-in-138.ensures

pub returns-in-143 : goal.returns-in-143
unfolding action_of table
returns-in-143 c = free_arm _ c.args.p c.args.regs.now c.args.mem.now c.args.map.now 143 c.in-143.is (Rs (ShiftDouble Left)) refl _ c.shift_double.ensures

pub returns-in-142 : goal.returns-in-142
unfolding action_of table
returns-in-142 c = free_arm _ c.args.p c.args.regs.now c.args.mem.now c.args.map.now 142 c.in-142.is (Rs (ShiftDouble Right)) refl _ c.shift_double-in-142.ensures

pub returns-in-152 : goal.returns-in-152
unfolding action_of table
returns-in-152 c = fill_arm _ c.args.p c.args.regs.now c.args.mem.now c.args.map.now 152 c.in-152.is _ refl c.rs.ensures _ c.load_many.ensures

pub returns-in-144 : goal.returns-in-144
unfolding action_of table
returns-in-144 c = spill_arm _ c.args.p c.args.regs.now c.args.mem.now c.args.map.now 144 c.in-144.is _ refl c.rs-in-144.ensures _ c.store_many.ensures

pub returns-in-149 : goal.returns-in-149
unfolding action_of table
returns-in-149 c = compare_arm _ c.args.p c.args.regs.now c.args.mem.now c.args.map.now 149 c.in-149.is _ refl c.rs-in-149.ensures c.compare.ensures

pub returns-in-145 : goal.returns-in-145
unfolding action_of table
returns-in-145 c = test_arm _ c.args.p c.args.regs.now c.args.mem.now c.args.map.now 145 c.in-145.is _ refl c.rs-in-145.ensures c.test.ensures

pub returns-in-148 : goal.returns-in-148
unfolding action_of table
returns-in-148 c = bits_arm _ c.args.p c.args.regs.now c.args.mem.now c.args.map.now 148 c.in-148.is _ logic.And refl c.rs-in-148.ensures _ c.bits.ensures

pub returns-in-150 : goal.returns-in-150
unfolding action_of table
returns-in-150 c = bits_arm _ c.args.p c.args.regs.now c.args.mem.now c.args.map.now 150 c.in-150.is _ logic.Or refl c.rs-in-150.ensures _ c.bits-in-150.ensures

pub returns-in-151 : goal.returns-in-151
unfolding action_of table
returns-in-151 c = bits_arm _ c.args.p c.args.regs.now c.args.mem.now c.args.map.now 151 c.in-151.is _ logic.Xor refl c.rs-in-151.ensures _ c.bits-in-151.ensures

pub returns-in-146 : goal.returns-in-146
unfolding action_of table
returns-in-146 c = put_arm _ c.args.p c.args.regs.now c.args.mem.now c.args.map.now 146 c.in-146.is _ refl c.rs-in-146.ensures _ c.put.ensures

pub returns-in-210 : goal.returns-in-210
unfolding action_of table
returns-in-210 c = move_arm c.args.p c.args.regs.now c.args.mem.now c.args.map.now _ 210 c.in-210.is refl _ _ c.moves.ensures

pub returns-in-213 : goal.returns-in-213
unfolding action_of table
returns-in-213 c = compares_arm c.args.p c.args.regs.now c.args.mem.now c.args.map.now _ 213 c.in-213.is refl _ c.compares.ensures

pub returns-in_default : goal.returns-in_default
unfolding action_of table
returns-in_default c = turned_not _ _ _ _ _ _ c.undone.ensures
