pub mod Words
pub mod Grammar
pub mod Reading
pub mod Brackets
pub mod Bounds
pub mod Readers
