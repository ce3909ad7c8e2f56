use native.Mathlib.Omega.{arith}
use native.Mathlib.Nat.{add-zero}
use Rattle.pages.specs.Word.{base, frame}
use Rattle.pages.proofs.LookLaws.{upper, not_upper}
use Rattle.lookup.proofs.base_of.Goals as goal

pub returns-then-w-eq3 : goal.returns-then-w-eq3
unfolding base frame
returns-then-w-eq3 c = (rw (c.from-f.ensures, upper _ c.if-w-eq3.true), omega arith)

pub returns : goal.returns
unfolding base frame
returns c = (simp (c.from-f.ensures, not_upper _ c.if-w-eq3.false, add-zero), omega arith)
