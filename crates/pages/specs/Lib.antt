-- Pages: the page word, the look-up of a byte and how far it reaches, marks, and the framed store.
pub mod Word
pub mod Tests
pub mod Look
pub mod Reach
pub mod Framed
