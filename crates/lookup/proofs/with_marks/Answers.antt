use Rattle.lookup.proofs.HasMarks.{marks_store, marks_load}
use Rattle.lookup.proofs.with_marks.Goals as goal

pub returns-then-is_store : goal.returns-then-is_store
returns-then-is_store c = marks_store _ _ _ c.is_store.ensures c.if-is_store.true

pub returns : goal.returns
returns c = marks_load _ _ _ c.is_store.ensures c.if-is_store.false
