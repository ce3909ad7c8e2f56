use Rattle.rx_si.proofs.si.execute.Goals as goal

pub returns-in-CompareByte : goal.returns-in-CompareByte
returns-in-CompareByte c = rw c.in-CompareByte.is c.examine.ensures

pub returns-in-TestMask : goal.returns-in-TestMask
returns-in-TestMask c = rw c.in-TestMask.is c.examine-in-TestMask.ensures

pub returns-in-BitsByte : goal.returns-in-BitsByte
returns-in-BitsByte c = rw c.in-BitsByte.is c.bits.ensures

pub returns-in-MoveByte : goal.returns-in-MoveByte
returns-in-MoveByte c = rw c.in-MoveByte.is c.store.ensures
