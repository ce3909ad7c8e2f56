-- What the proofs of the RX format share.
mod PairOperand
