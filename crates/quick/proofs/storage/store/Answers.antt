use mathlib.Core.Path.{refl, ◌∙◌, ap}
use Prim.Native.Nat.{ℕ}
use Rattle.quick.specs.Work.{stores}
use Rattle.quick.proofs.Answered.{did_not, did_on, lies_room}
use Rattle.machine.specs.Fields.{bytes_of}
use Rattle.fields.specs.Direct.{flat_put}
use Rattle.quick.proofs.storage.store.Goals as goal

pub returns-in_default : goal.returns-in_default
returns-in_default c = did_not c.args.p _ c.undone.ensures _ _ _ _ _

pub returns-then-s-bytes_of : goal.returns-then-s-bytes_of
returns-then-s-bytes_of c = did_not c.args.p _ c.undone-then-s-bytes_of.ensures _ _ _ _ _

pub put_field-requires : goal.put_field-requires
put_field-requires c = lies_room _ _ _ _ _ c.requires c.in-Some.is (rw (← c.bytes_of.ensures.0) c.if-s-bytes_of.false)

pub returns : goal.returns
returns c = did_on c.args.p c.args.found (bytes_of c.args.width) 4 (stores c.args.width c.args.p.text c.args.p.code c.args.regs.now c.args.mem.now) c.args.mem.now _ _ c.in-Some.s.at c.in-Some.s.reach c.in-Some.is (rw (← c.bytes_of.ensures.0) c.if-s-bytes_of.false) (c.put_field.ensures ∙ ap (λ (x : ℕ). flat_put c.args.mem.now c.in-Some.s.at (bytes_of c.args.width) x) c.reg-v.ensures) refl
