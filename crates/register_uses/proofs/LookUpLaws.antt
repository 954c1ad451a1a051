-- What the tables of actions and of tables say of one of these.
use Rattle.std.proofs.Common.{◌≡◌, ℕ, Bool, true, false, List, Option, Some, None, refl, sym, ap, ◌∙◌, subst}
use Rattle.std.specs.Prelude.{if◌then◌else◌, option_map}
use denote.Bor.{Bor}
use Rattle.elastic_ast.specs.declared.declarations.Action.{Action}
use Rattle.elastic_ast.specs.declared.declarations.Table.{Table}
use Rattle.elastic_ast.specs.declared.declarations.Local.{Local}
use Rattle.elastic_ast.specs.declared.declarations.Local.TheVariants as local
use Rattle.elastic_ast.specs.Tree.{Name, PlainAction, PlainTable}
use Rattle.elastic_ast.specs.Seen.{seen_action, seen_table, seen_local, seen_stmts}
use Rattle.elastic_ast.specs.Typing.Scope.{same, found}
use Rattle.elastic_ast.specs.Typing.LookUps.{action_in, table_in}
use Rattle.elastic_ast.specs.Typing.NamedRegisters.{body_registers, registers_of_action, registers_of_table}
use Rattle.register_uses.specs.declared.actions.ActionNames.{ActionNames}
use Rattle.register_uses.specs.declared.tables.TableNames.{TableNames}
use Rattle.register_uses.specs.Summaries.{plain_summary, summed}
use Rattle.program_names.specs.FirstNamed.{entry_value, EntersValue}
use Rattle.register_uses.specs.LocalTables.{seen_locals, named_by_action, named_by_actions, named_by_table, action_shown, IsActionOf, summed_action, action_given, HasActions, EntersAction, table_shown, IsTableOf, summed_table, table_given, HasTables, EntersTable}
use Rattle.program_names.proofs.FirstLaws.{found_map, enters_first}

action_by : (o : Option ActionNames) (f : Option PlainAction) → option_map action_shown o ≡ option_map summed_action f → IsActionOf (registers_of_action f) o
action_by None None h = refl
action_by None (Some a) h = cc
action_by (Some a) None h = cc
action_by (Some a) (Some b) h = let e : action_shown a ≡ summed_action b = cc in (ap (λ z. z.0) e, ap (λ z. z.1) e)

action_says : (locals : List Local) (entries : List (Bor (List ℕ) × ActionNames)) (name : Name) → HasActions locals entries → IsActionOf (named_by_action locals name) (entry_value entries name)
action_says locals entries name h = action_by (entry_value entries name) (found (action_in name) (seen_locals locals)) (h name ∙ found_map summed_action (action_in name) (seen_locals locals))

module _ (locals place : List Local) (entries : List (Bor (List ℕ) × ActionNames)) (name : Name) (h : HasActions locals entries) (here : locals ≡ place) where
  pub at_action : (o : Option ActionNames) → o ≡ entry_value entries name → IsActionOf (named_by_action place name) o
  at_action o e = subst (λ z. IsActionOf (named_by_action z name) o) here (subst (IsActionOf (named_by_action locals name)) (sym e) (action_says locals entries name h))

table_by : (locals : List Local) (o : Option TableNames) (f : Option PlainTable) → option_map table_shown o ≡ option_map (summed_table locals) f → IsTableOf locals (registers_of_table (seen_locals locals) f) o
table_by locals None None h = refl
table_by locals None (Some a) h = cc
table_by locals (Some a) None h = cc
table_by locals (Some a) (Some b) h = let e : table_shown a ≡ summed_table locals b = cc in (ap (λ z. z.0) e, ap (λ z. named_by_actions locals z.1) e)

table_says : (locals : List Local) (entries : List (Bor (List ℕ) × TableNames)) (name : Name) → HasTables locals entries → IsTableOf locals (named_by_table locals name) (entry_value entries name)
table_says locals entries name h = table_by locals (entry_value entries name) (found (table_in name) (seen_locals locals)) (h name ∙ found_map (summed_table locals) (table_in name) (seen_locals locals))

module _ (locals place : List Local) (entries : List (Bor (List ℕ) × TableNames)) (name : Name) (h : HasTables locals entries) (here : locals ≡ place) where
  pub at_table : (o : Option TableNames) → o ≡ entry_value entries name → IsTableOf place (named_by_table place name) o
  at_table o e = subst (λ z. IsTableOf z (named_by_table z name) o) here (subst (IsTableOf locals (named_by_table locals name)) (sym e) (table_says locals entries name h))

-- a value that is given under its name alone
pub given_if : {A B C : Type 0} (shows : A → C) (sums : B → C) (value : A) (thing : B) (b : Bool) → shows value ≡ sums thing → option_map shows (if b then Some value else None) ≡ option_map sums (if b then Some thing else None)
given_if shows sums value thing true e = ap Some e
given_if shows sums value thing false e = refl

-- an action, or a table, that is entered
pub action_entered : (old new : List (Bor (List ℕ) × ActionNames)) (action : Action) (key : Name) (names : ActionNames) → key ≡ action.name → plain_summary names.summary ≡ summed (body_registers (seen_stmts names.body.now)) → names.body.now ≡ action.body
    → EntersValue old new key names → EntersAction old new (local.Action action)
action_entered old new action key names e s b h =
    enters_first action_shown action_given old new key names (seen_local (local.Action action)) h
    (λ name. given_if action_shown summed_action names (seen_action action) (same name key)
    (ap (λ z. (z, body_registers (seen_stmts names.body.now))) s ∙ ap (λ z. (summed (body_registers (seen_stmts z)), body_registers (seen_stmts z))) b)
    ∙ ap (λ z. option_map summed_action (if same name z then Some (seen_action action) else None)) e)

pub table_entered : (locals : List Local) (old new : List (Bor (List ℕ) × TableNames)) (table : Table) (key : Name) (names : TableNames) → key ≡ table.name → plain_summary names.summary ≡ summed (named_by_actions locals names.actions.now)
    → names.actions.now ≡ table.actions → EntersValue old new key names → EntersTable locals old new (local.Table table)
table_entered locals old new table key names e s b h =
    enters_first table_shown (table_given locals) old new key names (seen_local (local.Table table)) h
    (λ name. given_if table_shown (summed_table locals) names (seen_table table) (same name key)
    (ap (λ z. (z, names.actions.now)) s ∙ ap (λ z. (summed (named_by_actions locals z), z)) b)
    ∙ ap (λ z. option_map (summed_table locals) (if same name z then Some (seen_table table) else None)) e)
