pub mod EntrySpelling
mod PropertySpelling
pub mod SetSpelling
mod TableSpelling
pub mod TablesWithin
