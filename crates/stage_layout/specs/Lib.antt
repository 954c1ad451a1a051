-- Sizes and a placement, read off a point by the numbers of variables.
pub mod Reading
