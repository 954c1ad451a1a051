pub mod GraphLaws
pub mod EdgeLaws
pub mod SearchLaws
pub mod StepLaws
pub mod NameLaws
