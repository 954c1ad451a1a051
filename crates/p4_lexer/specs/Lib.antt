pub mod Numbers
pub mod Pieces
pub mod Gaps
pub mod Tokens
pub mod BadPlaces
pub mod OneTokenList
pub mod Finding
pub mod TextLimit
