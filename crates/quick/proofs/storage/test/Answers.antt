use mathlib.Core.Path.{refl, ◌∙◌, ap}
use Prim.Native.Nat.{ℕ, ◌%◌}
use Rattle.words.specs.Codes.{mask_code}
use Rattle.quick.specs.Work.{tests_byte}
use Rattle.quick.proofs.Answered.{did_not, did_on, lies_byte}
use Rattle.quick.proofs.storage.test.Goals as goal

pub returns-in_default : goal.returns-in_default
returns-in_default c = did_not c.args.p _ c.undone.ensures _ _ _ _ _

pub returns-then-s-lt1 : goal.returns-then-s-lt1
returns-then-s-lt1 c = did_not c.args.p _ c.undone-then-s-lt1.ensures _ _ _ _ _

pub byte_of-b-requires : goal.byte_of-b-requires
byte_of-b-requires c = lies_byte _ _ _ _ c.requires c.in-Some.is c.if-s-lt1.false

pub returns : goal.returns
returns c = did_on c.args.p c.args.found 1 4 (tests_byte c.args.p.text c.args.mem.now) _ _ _ c.in-Some.s.at c.in-Some.s.reach c.in-Some.is c.if-s-lt1.false refl (c.mask_code.ensures ∙ ap (λ (x : ℕ). mask_code x (c.args.p.text % 256)) c.byte_of-b.ensures)
