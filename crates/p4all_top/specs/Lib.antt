-- The commands: their words, answers, calls of the shelf and ends, and what a run of one does. The clauses of `p4all` say these.
pub mod Command
pub mod Answer
pub mod Calls
pub mod Ending
pub mod Run
pub mod Codes
-- Which texts are taken as sources and as descriptions of targets, and why others aren't.
pub mod Source
pub mod Description
pub mod Limits
-- The lines that are printed.
pub mod Printed
pub mod Unfinished
pub mod RuleNames
-- What the steps of a run answer.
pub mod Reading
pub mod Refusing
pub mod Shown
pub mod Found
pub mod Stopping
pub mod Output
