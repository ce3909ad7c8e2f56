-- Working definitions: what the field programs come to over the framed store. Nobody has to believe them: proofs/Bridge ties each to
-- its program.
pub mod Direct
pub mod Both
pub mod Spans
pub mod Apart
