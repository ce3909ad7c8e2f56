-- What the engine's own types say in the definitions' terms.
pub mod Entry
