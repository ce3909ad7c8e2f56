use Rattle.machine.specs.Cpu.{address}
use Rattle.quick.proofs.places.address.Goals as goal

pub returns : goal.returns
unfolding address
returns c = λ d. rw (c.from.ensures, c.from-2.ensures, c.from-3.ensures, c.part-index.ensures d, c.part-base.ensures d, c.half_of-h.ensures)
