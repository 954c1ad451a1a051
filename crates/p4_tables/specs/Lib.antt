pub mod Tables
pub mod GoesOn
pub mod Reading
pub mod Seen
