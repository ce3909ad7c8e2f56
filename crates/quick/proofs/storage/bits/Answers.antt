use mathlib.Core.Path.{◌∙◌, ap}
use Prim.Native.Nat.{ℕ, ◌%◌}
use lib.ListN.{set}
use Rattle.words.specs.Codes.{zero_code}
use Rattle.words.specs.Combine.{logic_of}
use Rattle.quick.specs.Work.{changes_byte}
use Rattle.quick.proofs.Answered.{did_not, did_on, lies_byte}
use Rattle.quick.proofs.storage.bits.Goals as goal

pub returns-in_default : goal.returns-in_default
returns-in_default c = did_not c.args.p _ c.undone.ensures _ _ _ _ _

pub returns-then-s-lt1 : goal.returns-then-s-lt1
returns-then-s-lt1 c = did_not c.args.p _ c.undone-then-s-lt1.ensures _ _ _ _ _

pub byte_of-b-requires : goal.byte_of-b-requires
byte_of-b-requires c = lies_byte _ _ _ _ c.requires c.in-Some.is c.if-s-lt1.false

pub put_byte-requires : goal.put_byte-requires
put_byte-requires c = lies_byte _ _ _ _ c.requires c.in-Some.is c.if-s-lt1.false

pub returns : goal.returns
returns c = did_on c.args.p c.args.found 1 4 (changes_byte c.args.op c.args.p.text c.args.mem.now) c.args.mem.now _ _ c.in-Some.s.at c.in-Some.s.reach c.in-Some.is c.if-s-lt1.false (c.put_byte.ensures ∙ ap (λ (x : ℕ). set c.args.mem.now c.in-Some.s.at x) (c.logic-v.ensures ∙ ap (λ (x : ℕ). logic_of c.args.op x (c.args.p.text % 256)) c.byte_of-b.ensures)) (c.zero_code.ensures ∙ ap zero_code (c.from.ensures ∙ c.logic-v.ensures ∙ ap (λ (x : ℕ). logic_of c.args.op x (c.args.p.text % 256)) c.byte_of-b.ensures))
