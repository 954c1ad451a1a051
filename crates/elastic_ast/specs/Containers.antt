-- What the containers of a running program hold.

-- The vector: words at places.
pub mod LocationPlaces
pub mod LocationRefs
pub mod BitWords
pub mod Vectors
pub mod Slots
-- Registers, and the index by which they are found.
pub mod RegisterLists
pub mod Fnv
pub mod KeyHash
pub mod LastWith
pub mod Linked
pub mod KeptRegisters
