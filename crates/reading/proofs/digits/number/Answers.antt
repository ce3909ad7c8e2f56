use mathlib.Core.Path.{◌≡◌}
use Prim.Native.Nat.{◌<◌}
use lib.ListN.{length}
use Rattle.std.proofs.Common.{rules, arith, Some}
use Rattle.reading.proofs.Numbers.{number_none, number_turn, number_within, number_done}
use Rattle.reading.proofs.digits.number.Goals as goal

pub returns-in_err-n : goal.returns-in_err-n
returns-in_err-n c = search (rules, number_none)

pub loop-b-preserved : goal.loop-b-preserved
loop-b-preserved c =
    let h : c.loop-b.b-index < length c.args.s.now = omega arith in
    let k : c.longer.result ≡ Some c.in_ok-n.n = search rules in
    (number_turn _ _ _ _ _ c.loop-b.invariant.0 h _ c.longer.ensures _ k, number_within _ _ _ _ _ c.loop-b.invariant.0 h _ c.longer.ensures _ k)

pub returns : goal.returns
returns c = search (rules, number_done)
