-- The rule that is broken first by an action of a control, and by its actions and tables; this project's own.
use Rattle.std.specs.Prelude.{ℕ, Bool, List, [], map, Option}
use denote.Bor.{Bor}
use Rattle.elastic_ast.specs.declared.rule.Rule.{Rule}
use Rattle.elastic_ast.specs.declared.statements.Stmt.{Stmt}
use Rattle.elastic_ast.specs.declared.declarations.Action.{Action}
use Rattle.elastic_ast.specs.declared.declarations.Decl.{Decl}
use Rattle.elastic_ast.specs.declared.declarations.Local.{Local}
use Rattle.program_names.specs.LocalParts.{seen_locals}
use Rattle.elastic_ast.specs.Seen.{seen_stmts, seen_action, seen_local}
use Rattle.elastic_ast.specs.Typing.Demand.{first_broken}
use Rattle.elastic_ast.specs.Typing.AskedInStatements.{asks_stmts}
use Rattle.elastic_ast.specs.Typing.AskedInLocals.{in_action, asks_action, asks_local, asks_locals}
use Rattle.elastic_ast.specs.Tree.{Name}
use Rattle.elastic_ast.specs.Typing.Scope.{Scope}
use Rattle.expr_types.specs.Agreeing.{name_now}
use Rattle.expr_types.specs.Scoped.{before_of}

-- the scope of its body, where the loops that call it have the given sizes
abbrev pub scope_in_action : List Decl × ℕ → Action → List (Bor Name) → Scope
scope_in_action place action sizes =
    record { before = before_of place; params = action.params; index = action.index; sizes = map name_now sizes }

-- by its statements, in a control with this body
abbrev pub body_breaks : Bool → List Decl × ℕ → List Stmt → Action → Option Rule
body_breaks allow place body action =
    first_broken allow (asks_stmts (in_action (before_of place) (seen_stmts body) (seen_action action)) [] (seen_action action).body)

-- by the whole of it
abbrev pub action_breaks : Bool → List Decl × ℕ → List Stmt → Action → Option Rule
action_breaks allow place body action = first_broken allow (asks_action (before_of place) (seen_stmts body) (seen_action action))

-- by an action or a table behind some others, and by all behind some
abbrev pub local_breaks : Bool → List Decl × ℕ → List Stmt → List Local → Local → Option Rule
local_breaks allow place body before local = first_broken allow (asks_local (before_of place) (seen_stmts body) (seen_locals before) (seen_local local))

abbrev pub locals_break : Bool → List Decl × ℕ → List Stmt → List Local → List Local → Option Rule
locals_break allow place body before locals = first_broken allow (asks_locals (before_of place) (seen_stmts body) (seen_locals before) (seen_locals locals))
