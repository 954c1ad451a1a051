pub mod Distinct
pub mod Named
pub mod LocalParts
pub mod TopNames
pub mod FirstNamed
