use Rattle.listing.proofs.Joined.{rr_operands, rx_operands, rs_operands, si_operands, ss_operands}
use Rattle.listing.proofs.operands.put_operands.Goals as goal

pub returns-in-Rr : goal.returns-in-Rr
returns-in-Rr c = search rr_operands

pub returns-in-Rx : goal.returns-in-Rx
returns-in-Rx c = search rx_operands

pub returns-in-Rs : goal.returns-in-Rs
returns-in-Rs c = search rs_operands

pub returns-in-Si : goal.returns-in-Si
returns-in-Si c = search si_operands

pub returns-in-Ss : goal.returns-in-Ss
returns-in-Ss c = search ss_operands
