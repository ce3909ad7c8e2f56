use Rattle.pages.specs.Framed.{Framed}
use Rattle.machine.specs.Ss.{ss}
use Rattle.actions.specs.Answered.{doing}
use Rattle.rs_ss.proofs.Ways.{same_ways}
use Rattle.rs_ss.proofs.plain.both.Goals as goal

pub returns : goal.returns
returns c = same_ways (λ (s : Framed). doing (ss c.args.x c.args.f) c.args.regs.now c.args.c s) _ _ _ _ _ _ _ _ _ _ _ _ c.requires.0 c.requires.1 c.execute-quick.ensures c.execute-plain.ensures
