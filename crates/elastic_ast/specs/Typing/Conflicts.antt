-- The first register that units name against the rules, unit by unit; this project's own. It says when registers are named
-- twice, in the words of one pass over the units.
use Rattle.std.specs.Prelude.{Bool, not, ◌&&◌, ◌||◌, List, [], ◌∷◌, ◌++◌, Option, Some, None, if◌then◌else◌}
use Rattle.std.specs.List.{list_all}
use Rattle.elastic_ast.specs.Tree.{Name, PlainDecl}
use Rattle.elastic_ast.specs.Typing.Scope.{same, among, or_else}
use Rattle.elastic_ast.specs.Typing.NamedRegisters.{Naming, named_registers, is_array}

-- what one unit names, after those that name the given registers
abbrev pub unit_conflict : (Name → Bool) → List Name → Bool → List Name → Option Name
unit_conflict array before looped [] = None
unit_conflict array before looped (name ∷ names) =
    if not (list_all (same name) names) || (among before name || (looped && not (array name))) then Some name else None

abbrev pub conflict : (Name → Bool) → List Name → List Naming → Option Name
conflict array before [] = None
conflict array before (unit ∷ units) = or_else (unit_conflict array before unit.0 unit.1) (conflict array (unit.1 ++ before) units)

-- of all units of a program
abbrev pub conflict_of : List PlainDecl → Option Name
conflict_of decls = conflict (is_array decls) [] (named_registers decls)
