-- What each form of expression and statement shows, one equation a form.
pub mod SeenLaws
-- Rules, demands and the first that is broken.
pub mod Typing
-- Vectors, registers and the index of registers.
pub mod Containers
-- Locations that are the same.
pub mod SameLocations
