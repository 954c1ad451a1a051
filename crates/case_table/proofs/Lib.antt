pub mod RowLemmas
pub mod Found
