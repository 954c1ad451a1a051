pub mod DeclaredNames
pub mod Scoped
pub mod Agreeing
pub mod Placed
pub mod ProgramParts
