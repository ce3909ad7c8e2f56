use native.Mathlib.Omega.{arith}
use Rattle.std.proofs.lemmas.Result.{err_from_is_err_and}
use Rattle.pages.proofs.LookLaws.{found_small}
use Rattle.engine.proofs.ReachedText.{first_inside, second_inside, third_inside, text_reached, text_refused}
use Rattle.engine.proofs.formats.text.Goals as goal

pub returns-in_err-found : goal.returns-in_err-found
returns-in_err-found c = let p = err_from_is_err_and c.from_residual.result c.from_residual.ensures.1 in rw p.1 (text_refused c.args.mem.now _ _ _ c.look_up.ensures _ c.in_err-found.was _ p.2)

pub half_of-h1-requires : goal.half_of-h1-requires
half_of-h1-requires c = first_inside c.args.mem.now _ _ _ _ _ c.look_up.ensures c.in_ok-found.was c.if-found-ge6.true

pub overflow_add-found : goal.overflow_add-found
overflow_add-found c = omega (arith, found_small _ _ _ _ _ _ _ c.look_up.ensures c.in_ok-found.was)

pub half_of-h2-requires : goal.half_of-h2-requires
half_of-h2-requires c = second_inside c.args.mem.now _ _ _ _ _ c.look_up.ensures c.in_ok-found.was c.if-found-ge6.true

pub half_of-h3-requires : goal.half_of-h3-requires
half_of-h3-requires c = third_inside c.args.mem.now _ _ _ _ _ c.look_up.ensures c.in_ok-found.was c.if-found-ge6.true

pub returns-then-found-ge6 : goal.returns-then-found-ge6
returns-then-found-ge6 c = text_reached c.args.mem.now _ _ _ _ _ c.look_up.ensures c.in_ok-found.was c.if-found-ge6.true _ _ _ _ c.half_of-h1.ensures c.half_of-h2.ensures c.half_of-h3.ensures c.mark.ensures

pub overflow_add-found-then-found-ge6 : goal.overflow_add-found-then-found-ge6
overflow_add-found-then-found-ge6 c = omega (arith, found_small _ _ _ _ _ _ _ c.look_up.ensures c.in_ok-found.was)
