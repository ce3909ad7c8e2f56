use Prim.Native.Nat.{◌*◌}
use mathlib.Core.Path.{refl}
use Rattle.quick.specs.Work.{many_of, spills}
use Rattle.quick.proofs.Answered.{did_not, did_on, lies_room}
use Rattle.quick.proofs.Loaded.{many_is, spills_is}
use Rattle.quick.proofs.storage.store_many.Goals as goal

pub returns-in_default : goal.returns-in_default
returns-in_default c = did_not c.args.p _ c.undone.ensures _ _ _ _ _

pub returns-then-s-n : goal.returns-then-s-n
returns-then-s-n c = did_not c.args.p _ c.undone-then-s-n.ensures _ _ _ _ _

pub spill_at-requires : goal.spill_at-requires
spill_at-requires c = lies_room _ _ _ _ _ c.requires c.in-Some.is c.if-s-n.false

pub returns : goal.returns
returns c = did_on c.args.p c.args.found (many_of c.args.p.text * 4) 4 (spills c.args.p.text c.args.p.code c.args.regs.now c.args.mem.now) c.args.mem.now _ _ c.in-Some.s.at c.in-Some.s.reach c.in-Some.is (many_is c.args.p.text _ c.split_rs-f.ensures _ c.how_many-n.ensures.0 _ c.if-s-n.false) (spills_is c.args.p.text _ c.split_rs-f.ensures _ c.how_many-n.ensures.0 c.args.regs.now c.args.mem.now c.in-Some.s.at _ c.spill_at.ensures) refl
