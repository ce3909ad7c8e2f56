use Rattle.std.proofs.Common.{rules}
use Rattle.words.specs.Combine.{logic_of}
use Rattle.arithmetic.proofs.bits.logic.Goals as goal

pub returns-in-And : goal.returns-in-And
unfolding logic_of
returns-in-And g c = let law = g.met.T.Bits.and_law c.args.a c.args.b in search rules

pub returns-in-Or : goal.returns-in-Or
unfolding logic_of
returns-in-Or g c = let law = g.met.T.Bits.or_law c.args.a c.args.b in search rules

pub returns-in-Xor : goal.returns-in-Xor
unfolding logic_of
returns-in-Xor g c = let law = g.met.T.Bits.xor_law c.args.a c.args.b in search rules
