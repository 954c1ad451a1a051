pub mod Steps
pub mod PowerLaws
pub mod StatementLaws
