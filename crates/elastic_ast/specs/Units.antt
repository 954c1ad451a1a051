-- How the body of a control is cut into units of work.

-- Units as plain data, and the pieces that a body is cut into.
pub mod PlainUnits
pub mod SeenUnits
pub mod Cuts
-- What a unit reads, writes and takes of a target, and the units of a program.
pub mod Reach
pub mod Costs
pub mod UnitsOf
-- The instances of units at sizes, their order, and what they write.
pub mod Instances
pub mod Order
pub mod Work
pub mod FlatNames
