pub mod Emitting
pub mod FieldSpelling
pub mod FirstWords
pub mod GainSpelling
pub mod SameDecls
pub mod Signs
pub mod SumSpelling
pub mod FlatWithin
