-- The rule that the names of one scope break first; this project's own.
use Rattle.std.specs.Prelude.{Bool, List, [], ◌++◌, map, Option}
use denote.Bor.{Bor}
use Rattle.std.specs.Option.{option_copied}
use Rattle.elastic_ast.specs.declared.rule.Rule.{Rule}
use Rattle.elastic_ast.specs.declared.declarations.Local.{Local}
use Rattle.elastic_ast.specs.declared.declarations.Param.{Param}
use Rattle.elastic_ast.specs.declared.declarations.State.{State}
use Rattle.elastic_ast.specs.Tree.{Name}
use Rattle.elastic_ast.specs.Typing.Demand.{first_broken}
use Rattle.elastic_ast.specs.Typing.AskedOfNames.{asks_names}
use Rattle.elastic_ast.specs.Typing.LookUps.{member_name}
use Rattle.elastic_ast.specs.Typing.ParserLoops.{state_names}
use Rattle.elastic_ast.specs.Typing.AskedInLocals.{option_names, param_name, local_name}
use Rattle.program_names.specs.LocalParts.{seen_locals, seen_states}

abbrev pub names_break : Bool → List Name → Option Rule
names_break allow names = first_broken allow (asks_names [] names)

-- of the members of `headers_t`, of the states of a parser, and of the actions and tables of a control
abbrev pub member_names_break : Bool → List (Name × Name) → Option Rule
member_names_break allow members = names_break allow (map member_name members)

abbrev pub state_names_break : Bool → List State → Option Rule
state_names_break allow states = names_break allow (state_names (seen_states states))

abbrev pub local_names_break : Bool → List Local → Option Rule
local_names_break allow locals = names_break allow (map local_name (seen_locals locals))

-- names behind the first one of their scope, if there is one
abbrev pub behind : Option (Bor Name) → List Name → List Name
behind first names = option_names (option_copied first) ++ names

-- of parameters that are put to other names
abbrev pub params_break : Bool → List Name → List Param → Option Rule
params_break allow names params = first_broken allow (asks_names names (map param_name params))

-- the index of an action and its parameters, which are one scope
abbrev pub own_names : Option (Bor Name) → List Param → List Name
own_names index params = option_names (option_copied index) ++ map param_name params
