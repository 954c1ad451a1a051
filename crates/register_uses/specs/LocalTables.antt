-- What a table has of the actions and the tables of a control; this project's own.
use Rattle.std.specs.Prelude.{◌≡◌, [], Some, None, ℕ, List, map, flat_map, Option, option_map}
use denote.Bor.{Bor}
use Rattle.elastic_ast.specs.declared.declarations.Local.{Local}
use Rattle.elastic_ast.specs.Tree.{Name, PlainAction, PlainTable, PlainLocal}
use Rattle.elastic_ast.specs.Seen.{seen_local, seen_stmts}
use Rattle.elastic_ast.specs.Typing.LookUps.{action_in, table_in}
use Rattle.elastic_ast.specs.Typing.NamedRegisters.{body_registers, action_registers, table_registers}
use Rattle.register_uses.specs.Summaries.{PlainSummary, plain_summary, summed}
use Rattle.program_names.specs.FirstNamed.{HasFirst, EntersFirst}
use Rattle.register_uses.specs.declared.actions.ActionNames.{ActionNames}
use Rattle.register_uses.specs.declared.tables.TableNames.{TableNames}

abbrev pub seen_locals : List Local → List PlainLocal
seen_locals = map seen_local

-- what an action, or a table, names in the control that declares these
abbrev pub named_by_action : List Local → Name → List Name
named_by_action locals name = action_registers (seen_locals locals) name

abbrev pub named_by_actions : List Local → List Name → List Name
named_by_actions locals names = flat_map (action_registers (seen_locals locals)) names

abbrev pub named_by_table : List Local → Name → List Name
named_by_table locals name = table_registers (seen_locals locals) name

-- of an action its summary, and the registers of its body
abbrev pub action_shown : ActionNames → PlainSummary × List Name
action_shown action = (plain_summary action.summary, body_registers (seen_stmts action.body.now))

abbrev pub summed_action : PlainAction → PlainSummary × List Name
summed_action action = (summed (body_registers action.body), body_registers action.body)

abbrev pub action_given : Name → PlainLocal → Option (PlainSummary × List Name)
action_given name local = option_map summed_action (action_in name local)

abbrev pub HasActions : List Local → List (Bor (List ℕ) × ActionNames) → Type 0
HasActions locals entries = HasFirst action_shown action_given entries (seen_locals locals)

abbrev pub EntersAction : List (Bor (List ℕ) × ActionNames) → List (Bor (List ℕ) × ActionNames) → Local → Type 0
EntersAction old new local = EntersFirst action_shown action_given old new (seen_local local)

-- what is known of an action that names these registers: of none there is no action
abbrev pub IsActionOf : List Name → Option ActionNames → Type 0
IsActionOf names None = [] ≡ names
IsActionOf names (Some action) = (plain_summary action.summary ≡ summed names) × (body_registers (seen_stmts action.body.now) ≡ names)

-- of a table its summary, and the names of its actions
abbrev pub table_shown : TableNames → PlainSummary × List Name
table_shown table = (plain_summary table.summary, table.actions.now)

abbrev pub summed_table : List Local → PlainTable → PlainSummary × List Name
summed_table locals table = (summed (named_by_actions locals table.actions), table.actions)

abbrev pub table_given : List Local → Name → PlainLocal → Option (PlainSummary × List Name)
table_given locals name local = option_map (summed_table locals) (table_in name local)

abbrev pub HasTables : List Local → List (Bor (List ℕ) × TableNames) → Type 0
HasTables locals entries = HasFirst table_shown (table_given locals) entries (seen_locals locals)

abbrev pub EntersTable : List Local → List (Bor (List ℕ) × TableNames) → List (Bor (List ℕ) × TableNames) → Local → Type 0
EntersTable locals old new local = EntersFirst table_shown (table_given locals) old new (seen_local local)

-- what is known of a table that names these registers
abbrev pub IsTableOf : List Local → List Name → Option TableNames → Type 0
IsTableOf locals names None = [] ≡ names
IsTableOf locals names (Some table) = (plain_summary table.summary ≡ summed names) × (named_by_actions locals table.actions.now ≡ names)
