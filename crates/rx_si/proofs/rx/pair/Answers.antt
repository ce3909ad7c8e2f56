use Rattle.std.proofs.lemmas.Result.{err_from_is_err_and}
use Rattle.rx_si.proofs.PairOperand.{pair_odd, pair_off, pair_unfound, word_room, pair_done, pair_refused}
use Rattle.rx_si.proofs.rx.pair.Goals as goal

pub returns-then-f-ne0 : goal.returns-then-f-ne0
returns-then-f-ne0 c = search pair_odd

pub returns-then-at-ne0 : goal.returns-then-at-ne0
returns-then-at-ne0 c = search pair_off

pub returns-in_err-found : goal.returns-in_err-found
returns-in_err-found c = let p = err_from_is_err_and c.from_residual.result c.from_residual.ensures.1 in rw p.1 (pair_unfound _ _ _ _ _ _ c.if-f-ne0.false _ c.operand_address-at.ensures c.if-at-ne0.false _ c.look_operand.ensures _ _ p.2 c.in_err-found.was)

pub word_of-requires : goal.word_of-requires
word_of-requires c = word_room c.args.mem.now _ _ _ _ _ c.if-at-ne0.false c.look_operand.ensures c.in_ok-found.was

pub returns-in_err-now : goal.returns-in_err-now
returns-in_err-now c = let p = err_from_is_err_and c.from_residual-in_err-now.result c.from_residual-in_err-now.ensures.1 in rw (p.1, p.2) (pair_refused _ _ _ _ _ _ c.if-f-ne0.false _ c.operand_address-at.ensures c.if-at-ne0.false _ c.look_operand.ensures _ _ c.in_ok-found.was _ c.word_of.ensures _ _ c.work.ensures _ c.in_err-now.was)

pub returns : goal.returns
returns c = pair_done _ _ _ _ _ _ c.if-f-ne0.false _ c.operand_address-at.ensures c.if-at-ne0.false _ c.look_operand.ensures _ _ c.in_ok-found.was _ c.word_of.ensures _ _ c.work.ensures _ _ c.in_ok-now.was c.mark.ensures
