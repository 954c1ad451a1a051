-- Typed programs, and programs that break one rule.
-- Programs that are worked by hand, and the tests by which a program is shown to be typed or to break a rule.
mod TypedRows
pub mod ConflictLaws
pub mod WholeLaws
pub mod UnmetLaws
-- What a typed program has.
pub mod TypedFacts
pub mod TypedNames
pub mod TypedTables
pub mod TypedStays
pub mod TypedHeaders
pub mod TypedRegisters
pub mod TypedWidths
pub mod KnownLaws
pub mod TypedOperands
pub mod TypedSides
pub mod TypedSymbols
pub mod TypedPremises
