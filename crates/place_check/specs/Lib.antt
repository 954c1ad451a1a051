-- What placements take, and the first thing that is wrong with one.
pub mod Conditions
pub mod Standing
pub mod Sums
pub mod UseTables
pub mod FirstFault
pub mod OneAnswer
pub mod Walking
pub mod KnownOrders
pub mod Misplaced
pub mod Overfull
pub mod OfUnits
