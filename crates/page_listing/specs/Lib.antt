-- The listing of a page of a machine.
pub mod Page
