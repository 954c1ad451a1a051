pub mod CheckLaws
pub mod BrokenLaws
pub mod KindLaws
pub mod WalkLaws
pub mod WholeLaws
pub mod FoundLaws
