-- What names, types and rules a program has to keep to.

-- The fixed numbers, what a name stands for at a place, and the type of an expression.
pub mod LanguageLimits
pub mod Scope
pub mod LookUps
pub mod Types
-- What each form of the language asks, and of which rule.
pub mod Demand
pub mod AskedOfNames
pub mod AskedInExpressions
pub mod AskedInStatements
pub mod AskedInLocals
pub mod Asked
-- The rules of whole programs, and what a typed program is.
pub mod ParserLoops
pub mod NamedRegisters
pub mod Conflicts
pub mod Typed
