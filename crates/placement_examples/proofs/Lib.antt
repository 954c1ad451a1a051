pub mod FittingTest
pub mod ArrayLaws
pub mod OrderLaws
pub mod RowLaws
