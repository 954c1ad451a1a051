-- Small targets and placements, for the facts that show which placements are feasible; this project's own.
use Rattle.std.specs.Prelude.{ℕ, List, [], ◌∷◌, ◌++◌, map, codes}
use Rattle.elastic_ast.specs.declared.flat.At.{At}
use Rattle.elastic_ast.specs.Tree.{PlainDecl, PlainStmt}
use Rattle.elastic_ast.specs.Units.UnitsOf.{units_of}
use Rattle.elastic_ast.specs.Units.Instances.{Instance, nth_size, instances}
use Rattle.elastic_ast.specs.Units.Order.{Relation, order_of}
use Rattle.elastic_laws.specs.Examples.WorkedValues.{bare}
use Rattle.elastic_laws.specs.Examples.WorkedSources.{bits, source_frame, of_header, value_at_lval}
use Rattle.target_desc.specs.declared.target.Target.{Target}
use Rattle.dep_graph.specs.declared.resource.Resource.TheVariants as resource
use Rattle.dep_graph.specs.Use.{use_of}
use Rattle.dep_graph.specs.Feasible.{placed_of}

-- a target with so many stages, and so many stateful units in each
abbrev pub switch_with : ℕ → ℕ → Target
switch_with stages stateful =
    record {
      stages = stages;
      memory_bits = 1024;
      stateful = stateful;
      stateless = 8;
      table_bits = 1024;
      ternary_bits = 1024;
      header_bits = 512;
      ops = 8;
    }

-- an instance of a unit at an index, in a stage
abbrev pub put_at : ℕ → ℕ → ℕ → At
put_at unit index stage = record { unit = unit; index = index; stage = stage }

-- what a stage's instances take: registers, locations that are assigned, bits of registers, of exact tables, and of the others
abbrev pub uses_of : List PlainDecl → List ℕ → List At → ℕ → List ℕ
uses_of decls sizes placement stage =
    map (λ kind. use_of kind (nth_size sizes) stage (placed_of decls sizes placement))
    (resource.Stateful ∷ resource.Stateless ∷ resource.Memory ∷ resource.TableBits ∷ resource.TernaryBits ∷ [])

-- `hdr.h.x = 1; hdr.h.y = hdr.h.x;`
abbrev pub set_then_copy : List PlainDecl
set_then_copy =
    source_frame [] (bits 8 (codes "x") ∷ bits 8 (codes "y") ∷ []) [] [] []
    (PlainStmt.Assign (of_header (codes "x")) (bare 1) ∷ PlainStmt.Assign (of_header (codes "y")) (value_at_lval (of_header (codes "x"))) ∷ [])

-- the first two units in one stage, where they have one instance each
abbrev pub both_first : List At
both_first = put_at 0 0 0 ∷ put_at 1 0 0 ∷ []

-- one instance of the first unit, and two of each of the others
abbrev pub two_rows : ℕ → ℕ → ℕ → ℕ → ℕ → List At
two_rows start first second third fourth =
    put_at 0 0 start ∷ put_at 1 0 first ∷ put_at 2 0 second ∷ put_at 1 1 third ∷ put_at 2 1 fourth ∷ []

-- the order of each instance and each later one, by the earlier and then by the later
abbrev pub orders_of : List Instance → List Relation
orders_of [] = []
orders_of (first ∷ rest) = map (order_of first) rest ++ orders_of rest

abbrev pub orders_at : List PlainDecl → List ℕ → List Relation
orders_at decls sizes = orders_of (instances (units_of decls) (nth_size sizes))
