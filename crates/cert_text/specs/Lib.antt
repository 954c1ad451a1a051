-- Lines of pieces: fixed words, names and numbers.
pub mod Pieces
-- The lines of certificates, and which texts have them.
pub mod Certificate
-- The text that is written of lines.
pub mod WrittenLines
