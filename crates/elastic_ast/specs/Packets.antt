-- What becomes of a packet.

-- The parts that `main` names, and which locations a program has.
pub mod MainParts
pub mod Locations
-- What the parser takes, what the deparser gives, and the whole way of packets.
pub mod PacketBits
pub mod Taken
pub mod Given
pub mod PacketMeaning
