-- What an instance of a unit writes at a memory, and the memory after instances; this project's own.
use Rattle.std.specs.Prelude.{ℕ, ◌==◌, Bool, true, false, ◌&&◌, is_some, List, [], ◌∷◌, Option, option_map}
use Rattle.std.specs.List.{list_all}
use Rattle.elastic_ast.specs.declared.flat.Lit.{Lit}
use Rattle.elastic_ast.specs.declared.flat.Location.TheVariants as location
use Rattle.elastic_ast.specs.Tree.{PlainDecl, PlainExpr, PlainStmt}
use Rattle.elastic_ast.specs.Containers.LocationPlaces.{index_at, place}
use Rattle.elastic_ast.specs.Meaning.Memory.{Memory, At, Writes, nothing, over, put}
use Rattle.elastic_ast.specs.Meaning.Values.{bit, holds}
use Rattle.elastic_ast.specs.Meaning.Written.{outside, leaf_writes}
use Rattle.elastic_ast.specs.Units.PlainUnits.{PlainWork, Plain, Call, Apply, Pred, PlainUnit}
use Rattle.elastic_ast.specs.Units.Instances.{Instance}

-- the place of a predicate
abbrev pub pred_place : ℕ → Bool → Option ℕ → List ℕ
pred_place number own index = place (location.Pred number own) (index_at own index)

-- the predicate is on, or off
abbrev pub lit_holds : Lit → Option ℕ → Memory → Bool
lit_holds lit index memory = (memory (At (pred_place lit.number lit.own index))).1 == bit lit.on

abbrev pub lits_hold : List Lit → Option ℕ → Memory → Bool
lits_hold lits index memory = list_all (λ lit. lit_holds lit index memory) lits

abbrev pub conds_hold : List PlainExpr → List PlainDecl → List ℕ → Option ℕ → Memory → Bool
conds_hold conds decls sizes index memory = list_all (holds (outside decls sizes index) memory) conds

-- what the work writes where all tests hold. A predicate is own where there is an index around it, and has one bit.
abbrev pub work_writes : PlainWork → List PlainDecl → List ℕ → Option ℕ → Memory → Writes
work_writes (Plain statement) decls sizes index memory = leaf_writes statement decls sizes index memory
work_writes (Call statement) decls sizes index memory = leaf_writes statement decls sizes index memory
work_writes (Apply table) decls sizes index memory = leaf_writes (PlainStmt.Apply table) decls sizes index memory
work_writes (Pred number condition) decls sizes index memory =
    put (pred_place number (is_some index) index) (1, bit (holds (outside decls sizes index) memory condition))

-- what is written only under a test
abbrev pub writes_if : Bool → Writes → Writes
writes_if true writes = writes
writes_if false writes = nothing

-- what work with tests writes: literals and conditions are decided in the memory at entry
abbrev pub does : List Lit → List PlainExpr → PlainWork → List PlainDecl → List ℕ → Option ℕ → Memory → Writes
does lits conds work decls sizes index memory =
    writes_if (lits_hold lits index memory && conds_hold conds decls sizes index memory) (work_writes work decls sizes index memory)

-- only a unit in a loop has an index around it
abbrev pub index_around : PlainUnit → ℕ → Option ℕ
index_around unit index = option_map (λ loop. index) unit.loop_no

-- what an instance of a unit writes
abbrev pub unit_writes : PlainUnit → List PlainDecl → List ℕ → ℕ → Memory → Writes
unit_writes unit decls sizes index memory = does unit.lits unit.conds unit.work decls sizes (index_around unit index) memory

abbrev pub instance_writes : Instance → List PlainDecl → List ℕ → Memory → Writes
instance_writes instance decls sizes memory = unit_writes instance.unit decls sizes instance.index memory

-- the memory after an instance
abbrev pub after_instance : Instance → List PlainDecl → List ℕ → Memory → Memory
after_instance instance decls sizes memory = over (instance_writes instance decls sizes memory) memory

-- the memory after instances, one after the other
abbrev pub after_instances : List Instance → List PlainDecl → List ℕ → Memory → Memory
after_instances [] decls sizes memory = memory
after_instances (first ∷ rest) decls sizes memory = after_instances rest decls sizes (after_instance first decls sizes memory)
