-- The bounds of sizes by the five rules over units.
pub mod SizeRules
pub mod UnitBounds
pub mod Counts
pub mod BoundAnswers
pub mod ProgramUnits
pub mod SymbolLists
pub mod LoopUses
pub mod GatheredBounds
pub mod OrderRows
pub mod Totals
