-- What the sizes of a program are worth.
pub mod Counted
pub mod SizeSums
