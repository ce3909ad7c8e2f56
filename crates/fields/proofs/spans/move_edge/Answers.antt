use Rattle.std.proofs.Common.{◌-◌, length, sym, refl, ap, true≢false, arith}
use Rattle.pages.specs.Tests.{is_store}
use Rattle.fields.proofs.Edges.{no_store, edge_room, edged_stored, edged_read}
use Rattle.fields.proofs.spans.move_edge.Goals as goal

pub returns-in_default : goal.returns-in_default
returns-in_default c = (λ e. absurd (true≢false (sym e)), λ e. refl)

pub returns-then-next-n : goal.returns-then-next-n
returns-then-next-n c = (λ e. absurd (true≢false (sym e)), λ e. refl)

pub move_flat-requires-in-Store : goal.move_flat-requires-in-Store
move_flat-requires-in-Store c = (
  omega (arith, c.requires.1),
  omega (
    arith,
    edge_room c.args.map.now (length c.args.mem.now) c.args.access c.past_of.result
        _ _ (c.args.n - c.args.k) c.in-Some.ensures c.if-next-n.false,
    c.move_flat.auto.mem,
  ),
  omega (arith, c.requires.5 (ap is_store c.in-Store.is), c.requires.1, c.move_flat.auto.mem),
)

pub move_flat-requires-in-Load : goal.move_flat-requires-in-Load
move_flat-requires-in-Load c = (
  omega (arith, c.requires.1),
  omega (arith, c.requires.6 (no_store _ c.in-Load.is), c.requires.1, c.move_flat.auto.mem),
  omega (
    arith,
    edge_room c.args.map.now (length c.args.mem.now) c.args.access c.past_of.result
        _ _ (c.args.n - c.args.k) c.in-Some.ensures c.if-next-n.false,
    c.move_flat.auto.mem,
  ),
)

pub returns-in-Store : goal.returns-in-Store
returns-in-Store c = (
  λ e. edged_stored
      c.args.access c.args.map.now c.args.a c.args.x c.args.y c.args.k c.args.n
      c.args.mem.now _ _ c.past_of.result _ _ c.in-Some.ensures c.past_of.ensures
      c.if-next-n.false c.move_flat.ensures
      c.in-Store.is c.move_flat-in-Store.ensures,
  λ e. absurd (true≢false e),
)

pub returns-in-Load : goal.returns-in-Load
returns-in-Load c = (
  λ e. edged_read
      c.args.access c.args.map.now c.args.a c.args.x c.args.y c.args.k c.args.n
      c.args.mem.now _ _ c.past_of.result _ _ c.in-Some.ensures c.past_of.ensures
      c.if-next-n.false c.move_flat.ensures
      (no_store _ c.in-Load.is) c.move_flat-in-Load.ensures,
  λ e. absurd (true≢false e),
)
