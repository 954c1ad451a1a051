pub mod Keys
pub mod RefusedTexts
