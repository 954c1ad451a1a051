-- What the laws of packets say.
pub mod TakenLocations
pub mod ParserEnds
