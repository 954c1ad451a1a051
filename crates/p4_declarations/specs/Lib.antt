pub mod GoesOn
pub mod Sums
pub mod Flat
pub mod Made
