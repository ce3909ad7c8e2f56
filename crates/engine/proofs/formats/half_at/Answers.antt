use mathlib.Core.Path.{◌∙◌}
use Rattle.pages.proofs.LookLaws.{handed_on}
use Rattle.engine.proofs.Halfwords.{half_lacked, half_not, half_had, half_inside, half_reached}
use Rattle.engine.proofs.formats.half_at.Goals as goal
use Rattle.engine.proofs.formats.half_at.Goals.{then-wanted+in_ok-found+else-found-ge2, else-wanted}

pub returns-in_err-found : goal.returns-in_err-found
returns-in_err-found c = rw (handed_on _ _ c.from_residual.ensures.1) (half_not c.args.mem.now _ _ c.if-wanted.true _ _ _ c.look_half.ensures.0 c.look_half.ensures.1 _ c.in_err-found.was)

pub half_of-requires : goal.half_of-requires
half_of-requires c = half_inside c.args.mem.now _ _ c.if-wanted.true _ _ _ c.look_half.ensures.0 c.look_half.ensures.1 _ _ c.in_ok-found.was c.if-found-ge2.true

pub returns-then-found-ge2 : goal.returns-then-found-ge2
returns-then-found-ge2 c = half_reached c.args.mem.now _ _ c.if-wanted.true _ _ _ c.look_half.ensures.0 c.look_half.ensures.1 _ _ c.in_ok-found.was c.if-found-ge2.true _ c.half_of.ensures

pub returns : goal.returns
returns c =
    elim c.if-wanted.branch [
      | then-wanted+in_ok-found+else-found-ge2 w ↦ half_had c.args.mem.now _ _ w.if-wanted.true _ _ _ w.look_half.ensures.0 (w.map-is ∙ w.look_half.ensures.1) _ _ w.in_ok-found.was _ c.read_half.ensures
      | else-wanted w ↦ rw w.map-is (half_lacked _ _ _ _ _ w.if-wanted.false (rw w.map-is at c.read_half.ensures))
    ]
