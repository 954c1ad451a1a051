-- What every checked program has: it is typed, names with two underscores in a row aside, and there are not too many
-- declarations; this project's own.
use Rattle.std.specs.Prelude.{ℕ, ◌≤◌, ◌^◌, true, List, length}
use Rattle.elastic_ast.specs.declared.declarations.Decl.{Decl}
use Rattle.elastic_ast.specs.Tree.{PlainDecl}
use Rattle.elastic_ast.specs.Seen.{seen_decls}
use Rattle.elastic_ast.specs.Typing.Typed.{Typed}
use Rattle.program_names.specs.declared.names.Names.{Names}
use Rattle.expr_types.specs.Scoped.{HasNames}

-- the most declarations of a program that is checked: the number of a declaration has 32 bits
abbrev pub most_declarations : ℕ
most_declarations = 2 ^ 32

pub record IsSound (decls : List PlainDecl) : Type 0 where
  pub typed : Typed true decls
  pub few : length decls ≤ most_declarations

-- what is kept of a checked program: it is sound, and the tables are those of all its declarations
pub record IsChecked (decls : List Decl) (names : Names) : Type 0 where
  pub sound : IsSound (seen_decls decls)
  pub named : HasNames (decls, length decls) names
