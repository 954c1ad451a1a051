-- The premise of the laws of units on the body of a program, and what every typed program has.
pub mod Unnested
pub mod TypedPrograms
-- What is typed has a known type.
pub mod KnownTypes
