pub mod Found
pub mod Lines
pub mod Trail
pub mod Columns
pub mod States
