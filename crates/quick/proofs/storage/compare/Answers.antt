use mathlib.Core.Path.{refl, ◌∙◌, ap}
use Prim.Native.Nat.{ℕ, ◌%◌}
use Rattle.words.specs.Codes.{compare_bits}
use Rattle.quick.specs.Work.{compares_byte}
use Rattle.quick.proofs.Answered.{did_not, did_on, lies_byte}
use Rattle.quick.proofs.storage.compare.Goals as goal

pub returns-in_default : goal.returns-in_default
returns-in_default c = did_not c.args.p _ c.undone.ensures _ _ _ _ _

pub returns-then-s-lt1 : goal.returns-then-s-lt1
returns-then-s-lt1 c = did_not c.args.p _ c.undone-then-s-lt1.ensures _ _ _ _ _

pub byte_of-b-requires : goal.byte_of-b-requires
byte_of-b-requires c = lies_byte _ _ _ _ c.requires c.in-Some.is c.if-s-lt1.false

pub returns : goal.returns
returns c = did_on c.args.p c.args.found 1 4 (compares_byte c.args.p.text c.args.mem.now) _ _ _ c.in-Some.s.at c.in-Some.s.reach c.in-Some.is c.if-s-lt1.false refl (c.compare_bits.ensures ∙ (λ j. compare_bits ((c.from.ensures ∙ c.byte_of-b.ensures) j) (c.from-2.ensures j)))
