pub mod Statements
pub mod ExpressionsIn
pub mod Reading
pub mod WordsAhead
pub mod ReadingStatements
pub mod Begun
