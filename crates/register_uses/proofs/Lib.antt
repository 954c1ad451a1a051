pub mod ListLaws
pub mod SummaryLaws
pub mod UseLaws
pub mod NamedLaws
pub mod LookUpLaws
pub mod WalkLaws
