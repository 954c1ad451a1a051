pub mod GatheredLaws
pub mod FootprintLaws
pub mod CappedLaws
pub mod CutLaws
pub mod CalledLaws
pub mod FlatLaws
pub mod UnitLaws
