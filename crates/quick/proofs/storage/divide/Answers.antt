use mathlib.Core.Path.{refl}
use native.Mathlib.Omega.{arith}
use Rattle.words.specs.declared.PairOp.TheVariants.{Divide}
use Rattle.quick.proofs.Onward.{place_fits}
use Rattle.quick.proofs.Answered.{out_stopped}
use Rattle.quick.proofs.Loaded.{pair_not, pair_room, pair_on}
use Rattle.quick.proofs.storage.divide.Goals as goal

pub returns-in_default : goal.returns-in_default
returns-in_default c = pair_not c.args.p _ c.undone.ensures _ _ _ _ _ _ refl

pub word_of-b-requires : goal.word_of-b-requires
word_of-b-requires c = pair_room c.args.p c.args.found _ _ _ c.paired.ensures c.in-Some.is _ c.requires

pub returns-in_default-out : goal.returns-in_default-out
returns-in_default-out c = pair_not c.args.p _ c.undone-in_default-out.ensures _ _ _ _ _ _ (out_stopped _ _ _ _ _ c.work-out.ensures c.in_default-out.is)

pub overflow_add-result : goal.overflow_add-result
overflow_add-result c = record { fits = omega (arith, place_fits c.args.p) }

pub returns : goal.returns
returns c = pair_on c.args.p c.args.found _ _ _ c.paired.ensures c.in-Some.is Divide c.args.mem.now c.args.regs.now _ _ c.word_of-b.ensures _ _ c.in-Ok.is _ c.state.ensures c.work-out.ensures
