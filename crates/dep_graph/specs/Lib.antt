-- What a program may be given on a target: instances in stages and what they take there, the header bits of the program, feasible
-- sizes and placements, and the best of them.
pub mod SeenRelation
pub mod OrderAtIndices
pub mod Laid
pub mod Use
pub mod HeaderBits
pub mod PlacementRules
pub mod Feasible
pub mod Optimum
