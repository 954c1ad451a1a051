-- The tree of a program, what it shows, and its operators. Every definition below is stated on the tree.
pub mod Tree
pub mod Seen
pub mod OperatorSorts
-- What names, types and rules a program has to keep to.
pub mod Typing
-- What the sizes of a program are worth, in its assume clauses and its utility.
pub mod Sizes
-- What expressions and statements do at a memory.
pub mod Meaning
-- What becomes of a packet: what the parser takes, and what the deparser gives.
pub mod Packets
-- How the body of a control is cut into units of work, and what these read, write and cost.
pub mod Units
-- What the containers of a running program hold: vectors and registers.
pub mod Containers
