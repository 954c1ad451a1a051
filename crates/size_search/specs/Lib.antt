-- What becomes of a program on a target, by a search of its integer program.
pub mod Choice
-- The same of units within bounds, as it is found.
pub mod Chosen
