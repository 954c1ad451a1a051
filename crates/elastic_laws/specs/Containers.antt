-- What the laws of registers say.
pub mod RegisterFacts
