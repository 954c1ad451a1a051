pub mod PlaceRules
pub mod SetRules
