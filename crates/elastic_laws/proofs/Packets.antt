-- What parsers take, and when they end.
pub mod TakenLaws
pub mod ParserEndLaws
