use mathlib.Core.Path.{◌≡◌, refl}
use Prim.Native.Nat.{◌<◌}
use lib.ListN.{length}
use Rattle.std.proofs.Common.{arith, Some, None, Err}
use Rattle.std.proofs.lemmas.Grind.{common_steps}
use Rattle.std.proofs.lemmas.Bool.Decides.{nat_tests}
use Rattle.reading.specs.Within.{stage_number}
use Rattle.reading.proofs.Cuts.{behind_fits, behind_is}
use Rattle.reading.proofs.ReadLines.{same_on, read_good, read_missing, read_unended, read_off_lem, read_shorter, read_turn}
use Rattle.reading.proofs.sheet.Onto.read_lines.Goals as goal

pub returns-then-text-rest-clause-reads : goal.returns-then-text-rest-clause-reads
returns-then-text-rest-clause-reads c =
    let h : 0 < length c.loop-rest.rest.now = grind (arith, nat_tests) in
    read_unended _ c.loop-rest.rest.now c.loop-rest.line c.loop-rest.p c.loop-rest.self c.loop-rest.invariant.0
    _ c.front-text.ensures h c.if-text-rest.true

pub returns-in_err-p-clause-reads : goal.returns-in_err-p-clause-reads
returns-in_err-p-clause-reads c =
    let k : c.take_text.result ≡ None = grind (arith, common_steps) in
    let e : c.from_residual.result ≡ Err (record { line = c.loop-rest.line }) = grind (arith, common_steps) in
    rw e (read_off_lem _ c.loop-rest.rest.now c.loop-rest.line c.loop-rest.p c.loop-rest.self c.loop-rest.invariant.0
    _ c.front-text.ensures c.if-text-rest.false _ refl _ c.take_text.new.self c.take_text.ensures.steps k)

pub slice_bounds-rest-start : goal.slice_bounds-rest-start
slice_bounds-rest-start c = behind_fits 10 _ _ c.front-text.ensures c.if-text-rest.false

pub slice_bounds-rest-count : goal.slice_bounds-rest-count
slice_bounds-rest-count c = behind_fits 10 _ _ c.front-text.ensures c.if-text-rest.false

pub loop-rest-smaller : goal.loop-rest-smaller
loop-rest-smaller c = read_shorter _ c.loop-rest.rest.now c.loop-rest.line c.loop-rest.p c.loop-rest.self c.loop-rest.invariant.0
    _ c.front-text.ensures c.if-text-rest.false _ (behind_is 10 _ _ c.front-text.ensures c.if-text-rest.false)

pub loop-rest-preserved : goal.loop-rest-preserved
loop-rest-preserved c =
    let k : c.take_text.result ≡ Some c.in_ok-p.p = grind (arith, common_steps) in
    let b = behind_is 10 _ _ c.front-text.ensures c.if-text-rest.false in
    let s =
    read_shorter _ c.loop-rest.rest.now c.loop-rest.line c.loop-rest.p c.loop-rest.self c.loop-rest.invariant.0
    _ c.front-text.ensures c.if-text-rest.false _ b in (
      read_turn _ c.loop-rest.rest.now c.loop-rest.line c.loop-rest.p c.loop-rest.self c.loop-rest.invariant.0
          _ c.front-text.ensures c.if-text-rest.false _ b _ c.take_text.new.self c.take_text.ensures.steps _ k,
      omega (arith, s),
      same_on _ _ _ c.loop-rest.invariant.2 c.take_text.ensures.same,
    )

pub returns-then-eq-clause-reads : goal.returns-then-eq-clause-reads
returns-then-eq-clause-reads c =
    let h : length c.loop-rest.rest.now ≡ 0 = grind (arith, nat_tests) in
    let k : stage_number c.loop-rest.p.stage ≡ 4 = grind (arith, common_steps) in
    read_good _ c.loop-rest.rest.now c.loop-rest.line c.loop-rest.p c.loop-rest.self c.loop-rest.invariant.0 h k

pub returns-else-eq-clause-reads : goal.returns-else-eq-clause-reads
returns-else-eq-clause-reads c =
    let h : length c.loop-rest.rest.now ≡ 0 = grind (arith, nat_tests) in
    read_missing _ c.loop-rest.rest.now c.loop-rest.line c.loop-rest.p c.loop-rest.self c.loop-rest.invariant.0 h (λ k. grind (arith, common_steps))
