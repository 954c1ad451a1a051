-- Rules, demands and the first that is broken.
pub mod First
pub mod TypedLaws
pub mod SameNames
