-- Which words spell a table of a control, in the manner of the grammar of the P4-16 language specification 1.2.3; this
-- project's own. No expression with operators stands in a table.
use Rattle.std.specs.Prelude.{◌≡◌, ◌≢◌, ℕ, ◌<◌, ◌^◌, Bool, true, false, List, [], ◌∷◌, None, Some, AllPairs, codes}
use Rattle.elastic_ast.specs.declared.declarations.Key.{Key}
use Rattle.elastic_ast.specs.Tree.{Name, PlainExpr, PlainKeyset, PlainEntry, PlainTable}
use Rattle.spelling.specs.Words.{Word}
use Rattle.spelling.specs.Grammar.{Grammar, Empty, Nothing, ◌⨟◌, Either, Where, Each, Separated, Commas, Sign, Reserved, Named, Num, Bracketed}
use Rattle.spelling.specs.Readers.{InCurly, InRound, Many}
use Rattle.p4_expr.specs.Parts.{SpellsNumber, SpellsLval}
use Rattle.p4_tables.specs.declared.properties.Kind.{Kind}
use Rattle.p4_tables.specs.declared.properties.Kind.TheVariants as kind

-- value := V | N, and no other expression is a value
abbrev pub SpellsValue : PlainExpr → Grammar
SpellsValue (PlainExpr.Num width value) = SpellsNumber width value
SpellsValue (PlainExpr.Named name) = Named name
SpellsValue (PlainExpr.Truth truth) = Nothing
SpellsValue (PlainExpr.At lval) = Nothing
SpellsValue (PlainExpr.IsValid header) = Nothing
SpellsValue (PlainExpr.Unary op of) = Nothing
SpellsValue (PlainExpr.Binary op left right) = Nothing
SpellsValue (PlainExpr.Cast width of) = Nothing
SpellsValue (PlainExpr.Slice of high low) = Nothing
SpellsValue (PlainExpr.Hash number of modulus) = Nothing

-- set := value ['&&&' value] | '_'
abbrev pub SpellsSet : PlainKeyset → Grammar
SpellsSet (PlainKeyset.One value) = SpellsValue value
SpellsSet (PlainKeyset.Masked value mask) = SpellsValue value ⨟ Sign (codes "&&&") ⨟ SpellsValue mask
SpellsSet PlainKeyset.Any = Reserved (codes "_")

-- one set alone
abbrev pub SpellsOneSet : List PlainKeyset → Grammar
SpellsOneSet [] = Nothing
SpellsOneSet (set ∷ []) = SpellsSet set
SpellsOneSet (set ∷ other ∷ sets) = Nothing

-- set (',' set)*
abbrev pub SpellsSetList : List PlainKeyset → Grammar
SpellsSetList sets = Separated (Sign (codes ",")) SpellsSet sets

-- set | '(' set (',' set)* ')'
abbrev pub SpellsSets : ℕ → List PlainKeyset → Grammar
SpellsSets depth sets = Either (SpellsOneSet sets) (InRound (λ _. SpellsSetList) depth sets)

-- value,*
abbrev pub SpellsValueList : List PlainExpr → Grammar
SpellsValueList values = Commas SpellsValue values

-- '(' value,* ')'
abbrev pub SpellsValues : ℕ → List PlainExpr → Grammar
SpellsValues depth values = InRound (λ _. SpellsValueList) depth values

-- N '(' value,* ')' ';'
abbrev pub SpellsActionCall : ℕ → Name × List PlainExpr → Grammar
SpellsActionCall depth call = Named call.0 ⨟ SpellsValues depth call.1 ⨟ Sign (codes ";")

-- (set | '(' set (',' set)* ')') ':' N '(' value,* ')' ';'
abbrev pub SpellsEntry : ℕ → PlainEntry → Grammar
SpellsEntry depth entry = SpellsSets depth entry.keys ⨟ Sign (codes ":") ⨟ SpellsActionCall depth (entry.action, entry.args)

abbrev pub SpellsEntries : ℕ → List PlainEntry → Grammar
SpellsEntries depth entries = Each (SpellsEntry depth) entries

-- 'exact' | 'ternary'
abbrev pub SpellsMatch : Bool → Grammar
SpellsMatch true = Named (codes "ternary")
SpellsMatch false = Named (codes "exact")

-- lval ':' ('exact' | 'ternary') ';'
abbrev pub SpellsKey : ℕ → Key → Grammar
SpellsKey depth key = SpellsLval depth key.field ⨟ Sign (codes ":") ⨟ SpellsMatch key.ternary ⨟ Sign (codes ";")

-- N ';'
abbrev pub SpellsActionName : Name → Grammar
SpellsActionName name = Named name ⨟ Sign (codes ";")

abbrev pub SpellsActionNames : List Name → Grammar
SpellsActionNames names = Each SpellsActionName names

-- what one property of a table says
pub data Property : Type 0 where
  Keys : List Key → Property
  Actions : List Name → Property
  Fallback : Name → List PlainExpr → Property
  Size : ℕ → Property
  Entries : List PlainEntry → Property

-- 'key' '=' '{' (lval ':' ('exact' | 'ternary') ';')* '}'
abbrev pub SpellsKeys : ℕ → List Key → Grammar
SpellsKeys depth keys = Named (codes "key") ⨟ Sign (codes "=") ⨟ InCurly (Many SpellsKey) depth keys

-- 'actions' '=' '{' (N ';')* '}'
abbrev pub SpellsActions : ℕ → List Name → Grammar
SpellsActions depth names = Named (codes "actions") ⨟ Sign (codes "=") ⨟ InCurly (λ _. SpellsActionNames) depth names

-- ['const']
abbrev pub PerhapsConst : Unit {0} → Grammar
PerhapsConst none = Either Empty (Reserved (codes "const"))

-- ['const'] 'default_action' '=' N '(' value,* ')' ';'
abbrev pub SpellsFallback : ℕ → Name × List PlainExpr → Grammar
SpellsFallback depth call = PerhapsConst tt ⨟ Named (codes "default_action") ⨟ Sign (codes "=") ⨟ SpellsActionCall depth call

-- 'size' '=' K ';'
abbrev pub SpellsSize : ℕ → Grammar
SpellsSize size = Where (size < 2 ^ 32) (Named (codes "size") ⨟ Sign (codes "=") ⨟ Num size ⨟ Sign (codes ";"))

-- 'const' 'entries' '=' '{' ((set | '(' set (',' set)* ')') ':' N '(' value,* ')' ';')* '}'
abbrev pub SpellsConstEntries : ℕ → List PlainEntry → Grammar
SpellsConstEntries depth entries = Reserved (codes "const") ⨟ Named (codes "entries") ⨟ Sign (codes "=") ⨟ InCurly SpellsEntries depth entries

-- one of these
abbrev pub SpellsProperty : ℕ → Property → Grammar
SpellsProperty depth (Property.Keys keys) = SpellsKeys depth keys
SpellsProperty depth (Property.Actions names) = SpellsActions depth names
SpellsProperty depth (Property.Fallback action arguments) = SpellsFallback depth (action, arguments)
SpellsProperty depth (Property.Size size) = SpellsSize size
SpellsProperty depth (Property.Entries entries) = SpellsConstEntries depth entries

-- the kind of a property
abbrev pub kind_of : Property → Kind
kind_of (Property.Keys keys) = kind.Keys
kind_of (Property.Actions names) = kind.Actions
kind_of (Property.Fallback action arguments) = kind.Fallback
kind_of (Property.Size size) = kind.Size
kind_of (Property.Entries entries) = kind.Entries

-- what a property of a kind says, and the property that says it
abbrev pub Says : Kind → Type 0
Says kind.Keys = List Key
Says kind.Actions = List Name
Says kind.Fallback = Name × List PlainExpr
Says kind.Size = ℕ
Says kind.Entries = List PlainEntry

abbrev pub property_of : (k : Kind) → Says k → Property
property_of kind.Keys keys = Property.Keys keys
property_of kind.Actions names = Property.Actions names
property_of kind.Fallback call = Property.Fallback call.0 call.1
property_of kind.Size size = Property.Size size
property_of kind.Entries entries = Property.Entries entries

-- a table to which one property is added
abbrev pub with_property : Property → PlainTable → PlainTable
with_property (Property.Keys keys) table = record table { keys = keys }
with_property (Property.Actions names) table = record table { actions = names }
with_property (Property.Fallback action arguments) table = record table { fallback = Some (action, arguments) }
with_property (Property.Size size) table = record table { size = Some size }
with_property (Property.Entries entries) table = record table { entries = entries }

-- the table of this name with these properties
abbrev pub table_with : Name → List Property → PlainTable
table_with name [] = record { name = name; keys = []; actions = []; entries = []; fallback = None; size = None }
table_with name (property ∷ properties) = with_property property (table_with name properties)

-- 'table' N '{' prop* '}', where no two properties are of one kind
pub record SpellsTable (depth : ℕ) (table : PlainTable) (ws : List Word) : Type 0 where
  pub properties : List Property
  pub spelled : (Reserved (codes "table") ⨟ Named table.name ⨟ Bracketed (codes "{") (codes "}") depth (λ inner. Each (SpellsProperty inner) properties)) ws
  pub no_two : AllPairs (λ one other. kind_of one ≢ kind_of other) properties
  pub has_them : table ≡ table_with table.name properties
