-- Placements of small programs on small targets, and whether they are feasible.
pub mod WorkedTargets
pub mod PlacementExamples
pub mod WorkedPlacements
