pub mod TargetKeys
pub mod InRange
pub mod TargetText
pub mod OneTarget
