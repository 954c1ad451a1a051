-- The names of elements of arrays in a program without arrays, and registers under such names; this project's own.
use Rattle.std.specs.Prelude.{◌≡◌, ℕ, List, ◌++◌, map, Option, Some, None, codes, decimal}
use Rattle.elastic_ast.specs.Tree.{Name}
use Rattle.elastic_ast.specs.Containers.RegisterLists.{Register}

-- the name, two underscores and the index in decimal digits; without an index it is the name
abbrev pub flat_name : Name → Option ℕ → Name
flat_name name None = name
flat_name name (Some index) = name ++ (codes "__" ++ decimal index)

-- a register under its flat name: the same width and the same cells
abbrev pub flat_register : Register → Register
flat_register register = (flat_name register.0 register.1, None, register.2, register.3)

-- the second list has each register of the first under its flat name, in the same order, and no other
abbrev pub SameRegisters : List Register → List Register → Type 0
SameRegisters registers others = others ≡ map flat_register registers
