use Rattle.actions.proofs.Executed.{no_storage}
use Rattle.rx_si.proofs.rx.execute.Goals as goal

pub returns-in-Taking : goal.returns-in-Taking
returns-in-Taking c = rw c.in-Taking.is c.load.ensures

pub returns-in-Storing : goal.returns-in-Storing
returns-in-Storing c = rw c.in-Storing.is c.store.ensures

pub returns-in-LoadAddress : goal.returns-in-LoadAddress
returns-in-LoadAddress c = rw c.in-LoadAddress.is (no_storage _ _ _ _ _ _ c.load_address.ensures)

pub returns-in-AddressBranch : goal.returns-in-AddressBranch
returns-in-AddressBranch c = rw c.in-AddressBranch.is (no_storage _ _ _ _ _ _ c.branch-regs.ensures)

pub returns-in-PairAndWord : goal.returns-in-PairAndWord
returns-in-PairAndWord c = rw c.in-PairAndWord.is c.pair.ensures
