pub mod Transitions
pub mod Shown
pub mod Searching
