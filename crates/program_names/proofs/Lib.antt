pub mod Items
pub mod NewNames
pub mod Places
pub mod LocalLaws
pub mod TopLaws
pub mod FirstLaws
