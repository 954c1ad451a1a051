-- Pieces, units and instances.
-- The flat list of units and the pieces with their loops.
pub mod UnitLists
pub mod EachUnit
pub mod PieceCountLaws
-- What a piece reads and writes, and the order of two instances.
pub mod Depends
pub mod FootprintLaws
pub mod ExchangeLaws
-- The instances of a program do what its body does, and stay at smaller sizes.
pub mod SamePieces
pub mod KeptMeaning
pub mod InstanceRuns
pub mod LiveInstanceLaws
