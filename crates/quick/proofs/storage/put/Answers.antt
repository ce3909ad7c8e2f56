use mathlib.Core.Path.{refl}
use Rattle.quick.specs.Work.{puts_byte}
use Rattle.quick.proofs.Answered.{did_not, did_on, lies_byte}
use Rattle.quick.proofs.storage.put.Goals as goal

pub returns-in_default : goal.returns-in_default
returns-in_default c = did_not c.args.p _ c.undone.ensures _ _ _ _ _

pub returns-then-s-lt1 : goal.returns-then-s-lt1
returns-then-s-lt1 c = did_not c.args.p _ c.undone-then-s-lt1.ensures _ _ _ _ _

pub put_byte-requires : goal.put_byte-requires
put_byte-requires c = lies_byte _ _ _ _ c.requires c.in-Some.is c.if-s-lt1.false

pub returns : goal.returns
returns c = did_on c.args.p c.args.found 1 4 (puts_byte c.args.p.text c.args.p.code c.args.mem.now) c.args.mem.now _ _ c.in-Some.s.at c.in-Some.s.reach c.in-Some.is c.if-s-lt1.false c.put_byte.ensures refl
