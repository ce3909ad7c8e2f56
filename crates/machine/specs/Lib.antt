-- The machine: programs over storage, the state, what each action does, a step, a run, and the two public questions.
-- To be read in this order; with the definitions of words, pages and code it is all that has to be believed.
pub mod Prog
pub mod Run
pub mod Store
pub mod Fields
pub mod Cpu
pub mod Pairs
pub mod Branches
pub mod Rr
pub mod Rx
pub mod Rs
pub mod Si
pub mod Ss
pub mod Step
pub mod Machine
