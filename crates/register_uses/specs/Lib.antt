pub mod Summaries
pub mod Uses
pub mod LocalTables
pub mod Walks
pub mod HasUses
