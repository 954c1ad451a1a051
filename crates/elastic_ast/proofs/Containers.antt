-- Vectors, registers and the index of registers.

-- Places and slots of a vector.
pub mod PlaceLaws
pub mod EntryLaws
pub mod SlotLaws
pub mod FindLaws
pub mod HashLaws
pub mod VectorLaws
pub mod SameLaws
pub mod CopyLaws
pub mod GivenLaws
-- Registers, and the index by hashes.
pub mod LastWithLaws
pub mod LinkedLaws
pub mod ChainWalk
pub mod RegisterLaws
pub mod PositionLaws
pub mod KeyLaws
pub mod KeptLaws
pub mod KeptPuts
pub mod PublishedHashes
