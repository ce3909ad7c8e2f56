use native.Mathlib.Omega.{arith}
use native.Mathlib.Numerals.{add-one}
use Prim.Native.Nat.{◌+◌, ◌%◌}
use mathlib.Core.Path.{refl}
use lib.ListN.{length}
use Rattle.pages.specs.declared.Access.TheVariants.{Load}
use Rattle.fields.specs.Both.{look_both}
use Rattle.quick.specs.Turns.{now_of}
use Rattle.quick.proofs.Onward.{place_fits}
use Rattle.quick.proofs.Moving.{marked_room, compared_not, barred_look, compared_over, compared_flat, compared_at}
use Rattle.quick.proofs.moves.compares.Goals as goal

pub returns-in_default : goal.returns-in_default
returns-in_default c = compared_not c.args.p _ c.undone.ensures _ _ _ _ _ _ refl

pub returns-in_default-look_marked : goal.returns-in_default-look_marked
returns-in_default-look_marked c = compared_not c.args.p _ c.undone-in_default-look_marked.ensures _ _ _ _ _ _ refl

pub compare_flat-k-requires : goal.compare_flat-k-requires
compare_flat-k-requires c = (marked_room _ _ _ _ _ _ _ c.in-Some.ensures c.if-n-one.true, marked_room _ _ _ _ _ _ _ c.in-Some-look_marked.ensures c.if-n-other.true)

pub overflow_add-result : goal.overflow_add-result
overflow_add-result c = record { fits = omega (arith, place_fits c.args.p) }

pub returns-then-n-other : goal.returns-then-n-other
returns-then-n-other c = compared_at _ c.args.p c.address-first.result _ c.address-second.result _ _ c.args.mem.now c.args.map.now _ (c.address-first.ensures (now_of c.args.p)) (c.address-second.ensures (now_of c.args.p)) (compared_flat c.args.p c.address-first.result c.address-second.result (c.args.p.text % 256 + 1) (c.args.p.text % 256) (add-one _) c.args.mem.now c.args.map.now _ _ _ _ c.if-n-one.true c.if-n-other.true c.in-Some-look_marked.ensures c.in-Some.ensures _ c.compare_flat-k.ensures)

pub compare_over-requires : goal.compare_over-requires
compare_over-requires c = (omega arith, c.in-Some.ensures.there, c.in-Some-look_marked.ensures.there)

pub returns-in-Err : goal.returns-in-Err
returns-in-Err c = compared_not c.args.p _ c.undone-in-Err.ensures _ _ _ _ _ _ (barred_look (look_both c.args.map.now (length c.args.mem.now) Load c.address-first.result c.address-second.result (c.args.p.text % 256 + 1)) _ c.args.mem.now c.args.map.now _ c.address-first.result c.address-second.result (c.args.p.text % 256 + 1) _ c.compare_over.ensures.0 c.in-Err.is c.compare_over.ensures.1)

pub overflow_add-result-in-Ok : goal.overflow_add-result-in-Ok
overflow_add-result-in-Ok c = record { fits = omega (arith, place_fits c.args.p) }

pub returns-in-Ok : goal.returns-in-Ok
returns-in-Ok c = compared_at _ c.args.p c.address-first.result _ c.address-second.result _ _ c.args.mem.now c.args.map.now _ (c.address-first.ensures (now_of c.args.p)) (c.address-second.ensures (now_of c.args.p)) (compared_over c.args.p c.address-first.result c.address-second.result (c.args.p.text % 256 + 1) (c.args.p.text % 256) (add-one _) c.args.mem.now c.args.map.now _ _ _ refl c.compare_over.ensures.0 c.in-Ok.is _ c.compare_over.ensures.1)
