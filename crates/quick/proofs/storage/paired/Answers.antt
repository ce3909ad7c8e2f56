use Rattle.quick.proofs.Loaded.{even_digit}
use Rattle.quick.proofs.storage.paired.Goals as goal

pub returns-in-Some : goal.returns-in-Some
returns-in-Some c = (c.in-Some.is, (c.if-s-ge4.true, even_digit _ c.if-p-eq0.true))
