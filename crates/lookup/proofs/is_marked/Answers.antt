use Rattle.pages.specs.Word.{bit_g}
use Rattle.lookup.proofs.HasMarks.{no_mark, store_mark, load_mark}
use Rattle.lookup.proofs.is_marked.Goals as goal

pub returns-then-w-eq0 : goal.returns-then-w-eq0
unfolding bit_g
returns-then-w-eq0 c = no_mark _ _ c.if-w-eq0.true

pub returns-else-not-is_store : goal.returns-else-not-is_store
unfolding bit_g
returns-else-not-is_store c = store_mark _ _ c.if-w-eq0.false _ c.is_store.ensures c.if-not-is_store.false

pub returns-then-not-is_store : goal.returns-then-not-is_store
unfolding bit_g
returns-then-not-is_store c = rw c.if-not-is_store.true (load_mark _ _ c.if-w-eq0.false _ c.is_store.ensures c.if-not-is_store.true)
