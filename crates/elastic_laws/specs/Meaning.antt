-- What the laws of values say.
pub mod ShiftFacts
