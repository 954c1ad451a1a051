pub mod Underscores
pub mod NameRules
pub mod ScopeLaws
pub mod PartLaws
pub mod SizeLaws
pub mod ProgramLaws
