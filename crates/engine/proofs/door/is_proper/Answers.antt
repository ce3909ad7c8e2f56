use borrow.Author.Tests.{eq-eqb, ne_eqb, le-leb, lt-leb, lt-ltb, le-ltb}
use Rattle.machine.specs.Machine.{proper}
use Rattle.engine.proofs.door.is_proper.Goals as goal

pub returns-then-regs-ne16 : goal.returns-then-regs-ne16
unfolding proper
returns-then-regs-ne16 c = simp (ne_eqb _ _ c.if-regs-ne16.true)

pub returns-then-map-ne512 : goal.returns-then-map-ne512
unfolding proper
returns-then-map-ne512 c = simp (eq-eqb _ _ c.if-regs-ne16.false, ne_eqb _ _ c.if-map-ne512.true)

pub returns-then-size-ne0 : goal.returns-then-size-ne0
unfolding proper
returns-then-size-ne0 c = simp (eq-eqb _ _ c.if-regs-ne16.false, eq-eqb _ _ c.if-map-ne512.false, ne_eqb _ _ c.if-size-ne0.true)

pub returns-then-size-lt4096 : goal.returns-then-size-lt4096
unfolding proper
returns-then-size-lt4096 c = simp (eq-eqb _ _ c.if-regs-ne16.false, eq-eqb _ _ c.if-map-ne512.false, eq-eqb _ _ c.if-size-ne0.false, lt-leb _ _ c.if-size-lt4096.true)

pub returns-then-size-gt262144 : goal.returns-then-size-gt262144
unfolding proper
returns-then-size-gt262144 c = simp (eq-eqb _ _ c.if-regs-ne16.false, eq-eqb _ _ c.if-map-ne512.false, eq-eqb _ _ c.if-size-ne0.false, le-leb _ _ c.if-size-lt4096.false, lt-leb _ _ c.if-size-gt262144.true)

pub returns-then-c-ge16777216 : goal.returns-then-c-ge16777216
unfolding proper
returns-then-c-ge16777216 c = simp (eq-eqb _ _ c.if-regs-ne16.false, eq-eqb _ _ c.if-map-ne512.false, eq-eqb _ _ c.if-size-ne0.false, le-leb _ _ c.if-size-lt4096.false, le-leb _ _ c.if-size-gt262144.false, le-ltb _ _ c.if-c-ge16777216.true)

pub returns-then-c-ge4 : goal.returns-then-c-ge4
unfolding proper
returns-then-c-ge4 c = simp (eq-eqb _ _ c.if-regs-ne16.false, eq-eqb _ _ c.if-map-ne512.false, eq-eqb _ _ c.if-size-ne0.false, le-leb _ _ c.if-size-lt4096.false, le-leb _ _ c.if-size-gt262144.false, lt-ltb _ _ c.if-c-ge16777216.false, le-ltb _ _ c.if-c-ge4.true)

pub returns : goal.returns
unfolding proper
returns c = simp (eq-eqb _ _ c.if-regs-ne16.false, eq-eqb _ _ c.if-map-ne512.false, eq-eqb _ _ c.if-size-ne0.false, le-leb _ _ c.if-size-lt4096.false, le-leb _ _ c.if-size-gt262144.false, lt-ltb _ _ c.if-c-ge16777216.false, lt-ltb _ _ c.if-c-ge4.false)
