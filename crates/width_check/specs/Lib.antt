pub mod Kinds
pub mod Broken
pub mod Sound
pub mod WholeRules
pub mod Walked
