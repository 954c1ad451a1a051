-- The rule that is broken first by the states of a parser; this project's own.
use Rattle.std.specs.Prelude.{ℕ, Bool, List, ◌∷◌, map, flat_map, Option}
use Rattle.elastic_ast.specs.declared.rule.Rule.{Rule}
use Rattle.elastic_ast.specs.declared.declarations.Decl.{Decl}
use Rattle.elastic_ast.specs.declared.declarations.Keyset.{Keyset}
use Rattle.elastic_ast.specs.declared.declarations.Next.{Next}
use Rattle.elastic_ast.specs.declared.declarations.State.{State}
use Rattle.elastic_ast.specs.Tree.{Name}
use Rattle.elastic_ast.specs.Seen.{seen_case, seen_next, seen_state}
use Rattle.elastic_ast.specs.Typing.Demand.{Number, Keyed, has_width, first_broken}
use Rattle.elastic_ast.specs.Typing.Asked.{asks_case, asks_next, asks_state}
use Rattle.expr_types.specs.declared.types.Ty.{Ty}
use Rattle.program_names.specs.LocalParts.{seen_states}
use Rattle.stmt_check.specs.PlaceRules.{each_breaks}
use Rattle.expr_types.specs.Scoped.{before_of}
use Rattle.expr_types.specs.Placed.{seen_type}

-- by the cases of a `select`, by where a state goes, and by states
abbrev pub cases_break : Bool → List Decl × ℕ → List State → Ty → List (Keyset × Name) → Option Rule
cases_break allow place states width cases = each_breaks allow (asks_case (before_of place) (seen_states states) (seen_type width)) (map seen_case cases)

abbrev pub options_break : Bool → List Decl × ℕ → List State → Ty → List (Keyset × Name) → Option Rule
options_break allow place states width cases =
    first_broken allow (Number (seen_type width) ∷ Keyed (has_width (seen_type width)) ∷ flat_map (asks_case (before_of place) (seen_states states) (seen_type width)) (map seen_case cases))

abbrev pub case_breaks : Bool → List Decl × ℕ → List State → Ty → Keyset × Name → Option Rule
case_breaks allow place states width case = first_broken allow (asks_case (before_of place) (seen_states states) (seen_type width) (seen_case case))

abbrev pub next_state_breaks : Bool → List Decl × ℕ → List State → Next → Option Rule
next_state_breaks allow place states next = first_broken allow (asks_next (before_of place) (seen_states states) (seen_next next))

abbrev pub state_breaks : Bool → List Decl × ℕ → List State → State → Option Rule
state_breaks allow place states state = first_broken allow (asks_state (before_of place) (seen_states states) (seen_state state))

abbrev pub states_break : Bool → List Decl × ℕ → List State → List State → Option Rule
states_break allow place states each = each_breaks allow (asks_state (before_of place) (seen_states states)) (seen_states each)
