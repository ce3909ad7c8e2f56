-- Demands 1 and 3: what a step and a run leave behind; the plain machine, what demand 3 supposes, and what it claims. To be read in this
-- order, after the machine.
pub mod FetchedFrom
pub mod DemandOne
pub mod Plain
pub mod Premise
pub mod DemandThree
