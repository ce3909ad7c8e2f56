use native.Mathlib.Omega.{arith}
use mathlib.Core.Path.{refl, sym, ◌∙◌}
use mathlib.Core.Bool.{true}
use Rattle.engine.proofs.Windows.{not_before, not_past, window_small}
use Rattle.engine.proofs.Spins.{six_there, two_there, here, on_stands, on_left, on_spins, away_left, undone_left, begins, went_still, went_on, went_stuck}
use Rattle.engine.proofs.spinning.spin.Goals as goal

pub returns-then-regs-ne16 : goal.returns-then-regs-ne16
returns-then-regs-ne16 c = went_still _ _ _ _ _ _ c.still.ensures

pub returns-then-map-ne512 : goal.returns-then-map-ne512
returns-then-map-ne512 c = went_still _ _ _ _ _ _ c.still-then-map-ne512.ensures

pub overflow_add-last : goal.overflow_add-last
overflow_add-last c = omega (arith, window_small _ c.args.mem.now _ c.requires.0 _ true (sym c.requires.1) refl)

pub overflow_sub-at : goal.overflow_sub-at
overflow_sub-at c = not_before _ c.args.mem.now _ c.requires.0 _ true (sym c.requires.1) refl

pub overflow_add-at : goal.overflow_add-at
overflow_add-at c = omega (arith, not_past _ c.args.mem.now _ c.requires.0 _ true (sym c.requires.1) refl, window_small _ c.args.mem.now _ c.requires.0 _ true (sym c.requires.1) refl)

pub loop-left-init : goal.loop-left-init
loop-left-init c = begins _ _ c.args.mem.now _ c.requires.0 c.requires.1 c.requires.2 _ _

pub half_of-requires : goal.half_of-requires
half_of-requires c = two_there _ c.loop-left.mem _ _ c.loop-left.invariant.lies

pub invariant_of-p : goal.invariant_of-p
invariant_of-p c = record { placed = here _ c.loop-left.mem _ _ c.loop-left.invariant.lies }

pub one-turn-requires : goal.one-turn-requires
one-turn-requires c = (record { sixteen = c.loop-left.invariant.regs_long ∙ c.if-regs-ne16.false; pages = c.loop-left.invariant.map_long ∙ c.if-map-ne512.false }, six_there _ c.loop-left.mem _ _ c.loop-left.invariant.lies)

pub overflow_sub-result : goal.overflow_sub-result
overflow_sub-result c = (on_stands _ _ _ _ _ _ _ _ _ _ _ _ _ _ c.loop-left.invariant c.loop-left-test.true _ c.half_of.ensures _ _ _ _ _ c.one-turn.ensures _ _ c.in-On.is).behind

pub overflow_cast-result : goal.overflow_cast-result
overflow_cast-result c = omega (arith, (on_stands _ _ _ _ _ _ _ _ _ _ _ _ _ _ c.loop-left.invariant c.loop-left-test.true _ c.half_of.ensures _ _ _ _ _ c.one-turn.ensures _ _ c.in-On.is).word)

pub overflow_add-result : goal.overflow_add-result
overflow_add-result c = omega (arith, (on_stands _ _ _ _ _ _ _ _ _ _ _ _ _ _ c.loop-left.invariant c.loop-left-test.true _ c.half_of.ensures _ _ _ _ _ c.one-turn.ensures _ _ c.in-On.is).word)

pub returns-then-last-next : goal.returns-then-last-next
returns-then-last-next c = went_on _ _ c.args.mem.now _ c.requires.0 c.requires.1 _ _ _ _ _ _ (on_left _ _ _ _ _ _ _ _ _ _ _ _ _ _ c.loop-left.invariant c.loop-left-test.true _ c.half_of.ensures _ _ _ _ _ c.one-turn.ensures _ _ c.in-On.is) (omega (arith, c.loop-left.invariant.most)) refl (λ p. omega (arith, c.loop-left.invariant.most, c.loop-left-test.true))

pub loop-left-preserved : goal.loop-left-preserved
loop-left-preserved c = on_spins _ _ _ _ _ _ _ _ _ _ _ _ _ _ c.loop-left.invariant c.loop-left-test.true _ c.half_of.ensures _ _ _ _ _ c.one-turn.ensures _ _ c.in-On.is c.if-last-next.false c.one-turn.auto.regs c.one-turn.auto.mem c.one-turn.auto.map

pub returns-in-Away : goal.returns-in-Away
returns-in-Away c = went_on _ _ c.args.mem.now _ c.requires.0 c.requires.1 _ _ _ _ _ _ (away_left _ _ _ _ _ _ _ _ _ _ _ _ _ _ c.loop-left.invariant c.loop-left-test.true _ c.half_of.ensures _ _ _ _ _ c.one-turn.ensures _ _ c.in-Away.is) (omega (arith, c.loop-left.invariant.most)) refl (λ p. omega (arith, c.loop-left.invariant.most, c.loop-left-test.true))

pub returns-in-Undone : goal.returns-in-Undone
returns-in-Undone c = went_stuck _ _ c.args.mem.now _ c.requires.0 c.requires.1 _ _ _ _ _ _ (undone_left _ _ _ _ _ _ _ _ _ _ _ _ _ _ c.loop-left.invariant c.loop-left-test.true _ c.half_of.ensures _ _ _ _ _ c.one-turn.ensures _ _ c.in-Undone.is) c.loop-left.invariant.most refl c.loop-left-test.true

pub overflow_sub-result-2 : goal.overflow_sub-result-2
overflow_sub-result-2 c = c.loop-left.invariant.lies.stands.behind

pub overflow_cast-result-2 : goal.overflow_cast-result-2
overflow_cast-result-2 c = omega (arith, c.loop-left.invariant.lies.stands.word)

pub overflow_add-result-2 : goal.overflow_add-result-2
overflow_add-result-2 c = omega (arith, c.loop-left.invariant.lies.stands.word)

pub returns : goal.returns
returns c = went_on _ _ c.args.mem.now _ c.requires.0 c.requires.1 _ _ _ _ _ _ c.loop-left.invariant.so_far c.loop-left.invariant.most refl (λ p. omega (arith, p, c.loop-left-test.false))
