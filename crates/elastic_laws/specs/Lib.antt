-- When no loop stands in a loop, and what every typed program has.
pub mod Typing
-- What the laws of values say.
pub mod Meaning
-- What a taken vector has, and when a parser ends.
pub mod Packets
-- What the laws of units say: of pieces, instances, footprints and order.
pub mod Units
-- What the laws of registers say.
pub mod Containers
-- Small programs and whole ones, for laws that are computed.
pub mod Examples
