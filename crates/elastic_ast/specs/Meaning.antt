-- What expressions and statements do at a memory.
pub mod Memory
pub mod Values
pub mod Matches
pub mod Written
pub mod StatementMeaning
