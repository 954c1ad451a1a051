-- The instances of a control's pieces with their loops, in the order of the sequential run; this project's own.
use Rattle.std.specs.Prelude.{◌≡◌, ℕ, ◌+◌, List, [], ◌∷◌, ◌++◌, map, length, Some, None}
use Rattle.elastic_ast.specs.Tree.{PlainDecl}
use Rattle.elastic_ast.specs.Units.PlainUnits.{PlainUnit}
use Rattle.elastic_ast.specs.Units.Cuts.{Cuts, Nil, One, Loop}
use Rattle.elastic_ast.specs.Units.Costs.{place_of_symbol}
use Rattle.elastic_ast.specs.Units.UnitsOf.{Around, unit_of, inner_pieces, flat, cuts_of, units_of}
use Rattle.elastic_ast.specs.Units.Instances.{Instance, groups, at_index, each_turn, all_instances, instances}

-- units with their numbers
abbrev pub with_numbers : ℕ → List PlainUnit → List (ℕ × PlainUnit)
with_numbers number [] = []
with_numbers number (unit ∷ units) = (number, unit) ∷ with_numbers (number + 1) units

-- a piece outside of loops has the one index 0; the pieces of a loop follow each other at each index. The next unit and the next
-- loop have these numbers.
abbrev pub cut_instances : List PlainDecl → Cuts → ℕ → ℕ → (ℕ → ℕ) → List Instance
cut_instances decls Nil number loop sizes = []
cut_instances decls (One piece rest) number loop sizes =
    record { number = number; index = 0; unit = unit_of decls None piece } ∷ cut_instances decls rest (number + 1) loop sizes
cut_instances decls (Loop index size inner rest) number loop sizes =
    let around : Around = record { number = loop; index = index; size = size } in
    each_turn (sizes (place_of_symbol decls size)) (at_index (with_numbers number (map (unit_of decls (Some around)) (inner_pieces inner))))
    ++ cut_instances decls rest (number + length (inner_pieces inner)) (loop + 1) sizes

-- the instances of the flat list are those of the pieces with their loops
abbrev pub ListsAgree : Type 0
ListsAgree =
    (decls : List PlainDecl) (cuts : Cuts) (number loop : ℕ) (sizes : ℕ → ℕ) →
    all_instances sizes (groups number (flat decls cuts loop)) ≡ cut_instances decls cuts number loop sizes

-- and so are those of a program
abbrev pub ProgramListsAgree : Type 0
ProgramListsAgree =
    (decls : List PlainDecl) (sizes : ℕ → ℕ) →
    instances (units_of decls) sizes ≡ cut_instances decls (cuts_of decls) 0 0 sizes
