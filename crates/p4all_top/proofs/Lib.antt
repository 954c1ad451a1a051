pub mod AnswerLaws
pub mod BoundLaws
pub mod EndLaws
pub mod FoundLaws
pub mod LineLaws
pub mod ProgramEnds
pub mod RunLaws
pub mod SourceLaws
