use mathlib.Core.Path.{◌∙◌}
use Rattle.std.proofs.Common.{rules}
use Rattle.reading.proofs.Stores.{behind_fits, two_hex, store_turn, store_done}
use Rattle.reading.proofs.store.put_bytes.Goals as goal

pub pair-requires : goal.pair-requires
pair-requires c =
    let t = two_hex c.loop-rest.rest.now c.in-len2-up.len_at_least c.loop-rest.invariant.1 in
    (t.0, t.1)

pub loop-rest-preserved : goal.loop-rest-preserved
loop-rest-preserved c = (
  store_turn _ _ c.loop-rest.rest.now _ c.loop-rest.invariant.0 c.in-len2-up.len_at_least _ c.pair.ensures _ c.put.ensures,
  (two_hex c.loop-rest.rest.now c.in-len2-up.len_at_least c.loop-rest.invariant.1).2,
  behind_fits c.loop-rest.rest.now _ _ c.in-len2-up.len_at_least c.loop-rest.invariant.2,
  c.put.auto.list ∙ c.loop-rest.invariant.3,
)

pub returns : goal.returns
returns c = search (rules, store_done)
