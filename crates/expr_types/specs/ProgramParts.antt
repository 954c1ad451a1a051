-- The actions, the tables and the states of a program, each looked up by its name; this project's own.
use Rattle.std.specs.Prelude.{ℕ, List, [], slice_get, Option, Some, None, option_map, option_and_then, unwrap_or}
use Rattle.std.specs.Option.{option_copied}
use denote.Bor.{Bor}
use Rattle.elastic_ast.specs.declared.declarations.Action.{Action}
use Rattle.elastic_ast.specs.declared.declarations.Decl.{Decl}
use Rattle.elastic_ast.specs.declared.declarations.Local.{Local}
use Rattle.elastic_ast.specs.declared.declarations.State.{State}
use Rattle.elastic_ast.specs.declared.declarations.Table.{Table}
use Rattle.elastic_ast.specs.Tree.{Name, PlainAction, PlainDecl, PlainLocal, PlainState, PlainTable}
use Rattle.elastic_ast.specs.Seen.{seen_action, seen_state, seen_table}
use Rattle.elastic_ast.specs.Typing.Scope.{found}
use Rattle.elastic_ast.specs.Typing.LookUps.{action_in, locals_in, table_in}
use Rattle.elastic_ast.specs.Typing.ParserLoops.{state_name}
use Rattle.elastic_ast.specs.Packets.MainParts.{main_in, parser_in, states_of}
use Rattle.program_names.specs.LocalParts.{seen_locals}
use Rattle.program_names.specs.Named.{first_named}
use Rattle.expr_types.specs.Scoped.{before_of, part_at}

-- an action, a table or a state, where there is one, and the actions and tables of a control
abbrev pub action_shown : Option (Bor Action) → Option PlainAction
action_shown action = option_map seen_action (option_copied action)

abbrev pub table_shown : Option (Bor Table) → Option PlainTable
table_shown table = option_map seen_table (option_copied table)

abbrev pub state_shown : Option (Bor State) → Option PlainState
state_shown state = option_map seen_state (option_copied state)

abbrev pub locals_shown : Option (List Local) → List PlainLocal
locals_shown locals = unwrap_or (option_map seen_locals locals) []

-- what the control of a number declares before its body, and an action and a table of these
abbrev pub locals_at : List Decl × ℕ → ℕ → List PlainLocal
locals_at place number = unwrap_or (option_map locals_in (slice_get (before_of place) number)) []

abbrev pub action_at : List Decl × ℕ → Name → ℕ → Option PlainAction
action_at place name number = found (action_in name) (locals_at place number)

abbrev pub table_at : List Decl × ℕ → Name → ℕ → Option PlainTable
table_at place name number = found (table_in name) (locals_at place number)

-- the states of the declaration of a parser, and one of them by its name
abbrev pub parser_states : PlainDecl → Option (List PlainState)
parser_states (PlainDecl.Parser name states) = Some states
parser_states _ = None

abbrev pub state_at : List Decl × ℕ → Name → ℕ → Option PlainState
state_at place name number = part_at parser_states state_name place number name

-- a state of the parser of a name, and of the parser that `main` names
abbrev pub state_among : Name → Option (List PlainState) → Option PlainState
state_among name states = option_and_then (λ states. first_named state_name states name) states

abbrev pub parser_state : List PlainDecl → Name → Name → Option PlainState
parser_state decls parser name = state_among name (found (parser_in parser) decls)

abbrev pub state_of : List PlainDecl → Name → Option PlainState
state_of decls name = state_among name (states_of decls)

-- the name of the parser that `main` names
abbrev pub main_parser : List PlainDecl → Option Name
main_parser decls = option_map (λ main. main.0) (found main_in decls)
