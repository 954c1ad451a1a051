-- A table opens no more brackets than its depth allows, and closes those that it opens.
use Rattle.std.proofs.Common.{ℕ, Bool, true, false, List, [], ◌∷◌, codes, refl}
use Rattle.elastic_ast.specs.declared.declarations.Key.{Key}
use Rattle.elastic_ast.specs.Tree.{Name, PlainExpr, PlainKeyset, PlainEntry, PlainTable}
use Rattle.spelling.specs.Grammar.{Each, Separated, Commas, Sign}
use Rattle.spelling.proofs.Balance.{Stays, stays_empty, stays_sign, stays_reserved, stays_named, stays_both, stays_either, stays_where, stays_each, stays_separated, stays_commas, stays_round, stays_curly}
use Rattle.p4_expr.proofs.PartsWithin.{number_stays, num_stays, lval_stays}
use Rattle.p4_tables.specs.Tables.{PerhapsConst, Property, SpellsActionCall, SpellsActionName, SpellsActionNames, SpellsEntries, SpellsValue, SpellsSet, SpellsOneSet, SpellsSets, SpellsValues, SpellsEntry, SpellsMatch, SpellsKey, SpellsProperty, SpellsTable}

pub value_stays : {depth : ℕ} (value : PlainExpr) → Stays depth (SpellsValue value)
value_stays (PlainExpr.Num width value) = number_stays width value
value_stays (PlainExpr.Named name) = stays_named name
value_stays other = λ ws h. absurd h

pub set_stays : {depth : ℕ} (set : PlainKeyset) → Stays depth (SpellsSet set)
set_stays (PlainKeyset.One value) = value_stays value
set_stays (PlainKeyset.Masked value mask) = stays_both (value_stays value) (stays_both (stays_sign (codes "&&&") refl refl) (value_stays mask))
set_stays PlainKeyset.Any = stays_reserved (codes "_")

pub one_set_stays : {depth : ℕ} (sets : List PlainKeyset) → Stays depth (SpellsOneSet sets)
one_set_stays [] = λ ws h. absurd h
one_set_stays (set ∷ []) = set_stays set
one_set_stays (set ∷ other ∷ sets) = λ ws h. absurd h

pub sets_stay : (depth : ℕ) (sets : List PlainKeyset) → Stays depth (SpellsSets depth sets)
sets_stay depth sets = stays_either (one_set_stays sets) (stays_round depth (λ _. Separated (Sign (codes ",")) SpellsSet sets) (λ _. stays_separated (Sign (codes ",")) SpellsSet (stays_sign (codes ",") refl refl) (λ set. set_stays set) sets))

pub values_stay : (depth : ℕ) (values : List PlainExpr) → Stays depth (SpellsValues depth values)
values_stay depth values = stays_round depth (λ _. Commas SpellsValue values) (λ _. stays_commas SpellsValue (λ value. value_stays value) values)

pub call_stays : (depth : ℕ) (call : Name × List PlainExpr) → Stays depth (SpellsActionCall depth call)
call_stays depth call = stays_both (stays_named call.0) (stays_both (values_stay depth call.1) (stays_sign (codes ";") refl refl))

pub entry_stays : (depth : ℕ) (entry : PlainEntry) → Stays depth (SpellsEntry depth entry)
entry_stays depth entry = stays_both (sets_stay depth entry.keys) (stays_both (stays_sign (codes ":") refl refl) (call_stays depth (entry.action, entry.args)))

pub match_stays : {depth : ℕ} (ternary : Bool) → Stays depth (SpellsMatch ternary)
match_stays true = stays_named (codes "ternary")
match_stays false = stays_named (codes "exact")

pub key_stays : (depth : ℕ) (key : Key) → Stays depth (SpellsKey depth key)
key_stays depth key = stays_both (lval_stays depth key.field) (stays_both (stays_sign (codes ":") refl refl) (stays_both (match_stays key.ternary) (stays_sign (codes ";") refl refl)))

pub name_stays : {depth : ℕ} (name : Name) → Stays depth (SpellsActionName name)
name_stays name = stays_both (stays_named name) (stays_sign (codes ";") refl refl)

pub const_stays : {depth : ℕ} → Stays depth (PerhapsConst tt)
const_stays = stays_either stays_empty (stays_reserved (codes "const"))

pub property_stays : (depth : ℕ) (property : Property) → Stays depth (SpellsProperty depth property)
property_stays depth (Property.Keys keys) = stays_both (stays_named (codes "key")) (stays_both (stays_sign (codes "=") refl refl) (stays_curly depth (λ inner. Each (SpellsKey inner) keys) (λ inner. stays_each (SpellsKey inner) (key_stays inner) keys)))
property_stays depth (Property.Actions names) = stays_both (stays_named (codes "actions")) (stays_both (stays_sign (codes "=") refl refl) (stays_curly depth (λ _. SpellsActionNames names) (λ _. stays_each SpellsActionName (λ name. name_stays name) names)))
property_stays depth (Property.Fallback action arguments) = stays_both const_stays (stays_both (stays_named (codes "default_action")) (stays_both (stays_sign (codes "=") refl refl) (call_stays depth (action, arguments))))
property_stays depth (Property.Size size) = stays_where (stays_both (stays_named (codes "size")) (stays_both (stays_sign (codes "=") refl refl) (stays_both (num_stays size) (stays_sign (codes ";") refl refl))))
property_stays depth (Property.Entries entries) = stays_both (stays_reserved (codes "const")) (stays_both (stays_named (codes "entries")) (stays_both (stays_sign (codes "=") refl refl) (stays_curly depth (λ inner. SpellsEntries inner entries) (λ inner. stays_each (SpellsEntry inner) (entry_stays inner) entries))))

pub table_stays : (depth : ℕ) (table : PlainTable) → Stays depth (SpellsTable depth table)
table_stays depth table ws h = (stays_both (stays_reserved (codes "table")) (stays_both (stays_named table.name) (stays_curly depth (λ inner. Each (SpellsProperty inner) h.properties) (λ inner. stays_each (SpellsProperty inner) (property_stays inner) h.properties)))) ws h.spelled
