-- Typed programs, and programs that break one rule.
pub mod Typing
-- What parsers take, and when they end.
pub mod Packets
-- Pieces, units and instances.
pub mod Units
-- Vectors and registers.
pub mod Containers
