-- Vectors and registers.
pub mod WriteLaws
pub mod LookUpLaws
