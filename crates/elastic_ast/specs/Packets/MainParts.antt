-- The parts that `main` names: the states of the parser, the body of the control, and the headers that the deparser emits.
-- A program without `main` has none of them. This project's own.
use Rattle.std.specs.Prelude.{List, [], option_and_then, unwrap_or, Option, Some, None, if◌then◌else◌}
use Rattle.elastic_ast.specs.Tree.{Name, PlainDecl, PlainState, PlainStmts}
use Rattle.elastic_ast.specs.Typing.Scope.{same, found}

-- the names of the parser, the control and the deparser
abbrev pub Main : Type 0
Main = Name × Name × Name

abbrev pub main_in : PlainDecl → Option Main
main_in (PlainDecl.Main parser control deparser) = Some (parser, control, deparser)
main_in _ = None

abbrev pub parser_in : Name → PlainDecl → Option (List PlainState)
parser_in name (PlainDecl.Parser parser states) = if same name parser then Some states else None
parser_in name _ = None

abbrev pub control_in : Name → PlainDecl → Option PlainStmts
control_in name (PlainDecl.Control control locals body) = if same name control then Some body else None
control_in name _ = None

abbrev pub deparser_in : Name → PlainDecl → Option (List Name)
deparser_in name (PlainDecl.Deparser deparser emits) = if same name deparser then Some emits else None
deparser_in name _ = None

abbrev pub states_of : List PlainDecl → Option (List PlainState)
states_of decls = option_and_then (λ main. found (parser_in main.0) decls) (found main_in decls)

abbrev pub body_of : List PlainDecl → PlainStmts
body_of decls = unwrap_or (option_and_then (λ main. found (control_in main.1) decls) (found main_in decls)) PlainStmts.nil

abbrev pub emits_of : List PlainDecl → List Name
emits_of decls = unwrap_or (option_and_then (λ main. found (deparser_in main.2) decls) (found main_in decls)) []
