-- What it means that the instances of the units of a program do what its body does; this project's own.
use Rattle.std.specs.Prelude.{◌≡◌, ◌≤◌, ℕ, ◌==◌, Bool, false, length, is_some, List, [], ◌∷◌, Option, Some, None}
use Rattle.elastic_ast.specs.Tree.{PlainDecl, PlainStmts}
use Rattle.elastic_ast.specs.Sizes.SizeSums.{symbols_of, size_of}
use Rattle.elastic_ast.specs.Packets.MainParts.{body_of}
use Rattle.elastic_ast.specs.Meaning.Memory.{Spot, At, Reg, Memory, over}
use Rattle.elastic_ast.specs.Meaning.StatementMeaning.{turns, statements_meaning}
use Rattle.elastic_ast.specs.Units.Cuts.{Cuts, Nil, One, Loop, cut_all}
use Rattle.elastic_ast.specs.Units.UnitsOf.{units_of}
use Rattle.elastic_ast.specs.Units.Instances.{nth_size, instances}
use Rattle.elastic_laws.specs.Typing.Unnested.{Unnested}
use Rattle.elastic_ast.specs.Units.Work.{does, after_instances}

-- the places of predicates begin with 4
abbrev pub is_predicate : Spot → Bool
is_predicate (At []) = false
is_predicate (At (kind ∷ rest)) = kind == 4
is_predicate (Reg name index) = false

-- two memories hold the same but for predicates
pub record Same (memory other : Memory) : Type 0 where
  pub elsewhere : (spot : Spot) → is_predicate spot ≡ false → memory spot ≡ other spot

-- the memory after pieces, one after the other; those of a loop once for each number below its size
abbrev pub run_cuts : Cuts → List PlainDecl → List ℕ → Option ℕ → Memory → Memory
run_cuts Nil decls sizes index memory = memory
run_cuts (One piece rest) decls sizes index memory =
    run_cuts rest decls sizes index (over (does piece.lits piece.conds piece.work decls sizes index memory) memory)
run_cuts (Loop name size inner rest) decls sizes index memory =
    run_cuts rest decls sizes index
    (turns (size_of (symbols_of decls) sizes size) (λ turn now. run_cuts inner decls sizes (Some turn) now) memory)

-- the pieces of statements do what the statements do, predicates aside
abbrev pub PiecesKeepTheMeaning : Type 0
PiecesKeepTheMeaning =
    (decls : List PlainDecl) (sizes : List ℕ) (body : PlainStmts) (index : Option ℕ) (number : ℕ) (stage : Option ℕ) →
    Unnested body (is_some index) → (memory other : Memory) → Same memory other →
    Same (run_cuts (cut_all body (is_some index) number stage) decls sizes index memory) (statements_meaning body decls sizes index other)

-- the instances of the units of a program, in order, do what its body does, predicates aside
abbrev pub InstancesKeepTheMeaning : Type 0
InstancesKeepTheMeaning =
    (decls : List PlainDecl) (sizes : List ℕ) → length sizes ≤ length (symbols_of decls) → Unnested (body_of decls) false →
    (memory other : Memory) → Same memory other →
    Same (after_instances (instances (units_of decls) (nth_size sizes)) decls sizes memory) (statements_meaning (body_of decls) decls sizes None other)
