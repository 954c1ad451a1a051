-- What the laws of units say.
-- The instances of a program do what its body does.
pub mod CutInstances
pub mod CutMeaning
pub mod PieceCounts
-- What an instance reads and writes, and which instances may be exchanged or stay at smaller sizes.
pub mod Footprints
pub mod Exchange
pub mod LiveInstances
