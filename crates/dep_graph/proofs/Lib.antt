pub mod WithoutUnits
pub mod IndexLaws
