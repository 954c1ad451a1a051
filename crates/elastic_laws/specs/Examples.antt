-- Small programs and whole ones, for laws that are computed.
pub mod WorkedValues
pub mod WorkedProgram
pub mod WorkedPackets
pub mod WorkedSources
pub mod WorkedUnits
pub mod WorkedTyping
-- What holds of them.
pub mod MeaningExamples
pub mod PacketExamples
pub mod TypingExamples
pub mod TypingDetails
pub mod UnitExamples
