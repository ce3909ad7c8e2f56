use native.Mathlib.Omega.{arith}
use native.Mathlib.Numerals.{add-one}
use Prim.Native.Nat.{◌+◌, ◌%◌}
use mathlib.Core.Path.{refl}
use Rattle.quick.specs.Turns.{now_of}
use Rattle.quick.proofs.Onward.{place_fits}
use Rattle.quick.proofs.Moving.{marked_room, moved_not, refused_mem, moved_over, moved_flat, moved_at}
use Rattle.quick.proofs.moves.moves.Goals as goal

pub returns-in_default : goal.returns-in_default
returns-in_default c = moved_not c.args.p _ c.undone.ensures _ _ _ _ _ _ _ refl refl

pub returns-in_default-look_marked : goal.returns-in_default-look_marked
returns-in_default-look_marked c = moved_not c.args.p _ c.undone-in_default-look_marked.ensures _ _ _ _ _ _ _ refl refl

pub move_flat-requires : goal.move_flat-requires
move_flat-requires c = (omega arith, marked_room _ _ _ _ _ _ _ c.in-Some.ensures c.if-n-there.true, marked_room _ _ _ _ _ _ _ c.in-Some-look_marked.ensures c.if-n-here.true)

pub overflow_add-result : goal.overflow_add-result
overflow_add-result c = record { fits = omega (arith, place_fits c.args.p) }

pub returns-then-n-here : goal.returns-then-n-here
returns-then-n-here c = moved_at _ c.args.p c.address-to.result _ c.address-from.result _ _ c.args.mem.now c.args.map.now _ _ (c.address-to.ensures (now_of c.args.p)) (c.address-from.ensures (now_of c.args.p)) (moved_flat c.args.p c.address-to.result c.address-from.result (c.args.p.text % 256 + 1) (c.args.p.text % 256) (add-one _) c.args.mem.now c.args.map.now _ _ _ _ c.if-n-there.true c.if-n-here.true c.in-Some-look_marked.ensures c.in-Some.ensures _ c.move_flat.ensures)

pub move_over-requires : goal.move_over-requires
move_over-requires c = (omega arith, c.in-Some.ensures.there, c.in-Some-look_marked.ensures.there)

pub returns-in-Err : goal.returns-in-Err
returns-in-Err c = moved_not c.args.p _ c.undone-in-Err.ensures _ _ _ _ _ _ _ (refused_mem _ _ _ _ _ _ _ _ _ c.move_over.ensures.1 c.in-Err.is).0 (refused_mem _ _ _ _ _ _ _ _ _ c.move_over.ensures.1 c.in-Err.is).1

pub overflow_add-result-in-Ok : goal.overflow_add-result-in-Ok
overflow_add-result-in-Ok c = record { fits = omega (arith, place_fits c.args.p) }

pub returns-in-Ok : goal.returns-in-Ok
returns-in-Ok c = moved_at _ c.args.p c.address-to.result _ c.address-from.result _ _ c.args.mem.now c.args.map.now _ _ (c.address-to.ensures (now_of c.args.p)) (c.address-from.ensures (now_of c.args.p)) (moved_over c.args.p c.address-to.result c.address-from.result (c.args.p.text % 256 + 1) (c.args.p.text % 256) (add-one _) c.args.mem.now c.args.map.now _ _ _ c.move_over.ensures.0 c.in-Ok.is _ _ c.move_over.ensures.1)
