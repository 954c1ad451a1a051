-- What every typed program has, beside that it breaks no rule; this project's own.
use Rattle.std.specs.Prelude.{◌≡◌, ◌∷◌, ℕ, true, false, Bool, List, Some, None, Contains}
use Rattle.elastic_ast.specs.Tree.{Name, PlainDecl, PlainExpr, PlainEntry, PlainTable, PlainState}
use Rattle.elastic_ast.specs.Typing.Scope.{among}
use Rattle.elastic_ast.specs.Typing.LookUps.{action_of, table_of, is_member}
use Rattle.elastic_ast.specs.Typing.AskedInStatements.{no_action_name}
use Rattle.elastic_ast.specs.Typing.ParserLoops.{Loops}
use Rattle.elastic_ast.specs.Typing.NamedRegisters.{UnitNames, IsLooped, is_array}
use Rattle.elastic_ast.specs.Typing.Typed.{Typed}
use Rattle.elastic_ast.specs.Packets.MainParts.{states_of, body_of, emits_of}
use Rattle.elastic_laws.specs.Typing.Unnested.{Unnested}
use Rattle.elastic_laws.specs.Units.Footprints.{TablesFit}
use Rattle.elastic_laws.specs.Packets.TakenLocations.{IsExtractable}
use Rattle.elastic_laws.specs.Packets.ParserEnds.{IsLoopFree}

-- the fact holds of every typed program
abbrev pub OfEachTyped : (List PlainDecl → Type 0) → Type 0
OfEachTyped Fact = (allow : Bool) (decls : List PlainDecl) → Typed allow decls → Fact decls

-- the fact holds of the states of the parser that `main` names
abbrev pub OfItsStates : List PlainDecl → (List PlainState → Type 0) → Type 0
OfItsStates decls Fact = (states : List PlainState) → states_of decls ≡ Some states → Fact states

-- the premises of the laws of units and packets
pub record MeetsPremises (decls : List PlainDecl) : Type 0 where
  pub loops : Unnested (body_of decls) false
  pub tables : TablesFit decls
  pub headers : IsExtractable decls
  pub states : OfItsStates decls IsLoopFree

-- what a state extracts is a header
abbrev pub ExtractsHeaders : List PlainDecl → List PlainState → Type 0
ExtractsHeaders decls states =
    (state : PlainState) → Contains states state → (header : Name) → Contains state.extracts header → is_member decls header ≡ true

-- no state comes back to itself, and what the parser extracts or the deparser emits is a header
pub record EndsWithHeaders (decls : List PlainDecl) : Type 0 where
  pub ends : OfItsStates decls (λ states. Loops states → ⊥)
  pub extracted : OfItsStates decls (ExtractsHeaders decls)
  pub emitted : (header : Name) → Contains (emits_of decls) header → is_member decls header ≡ true

-- the fact holds of each table
abbrev pub OfItsTables : List PlainDecl → (PlainTable → Type 0) → Type 0
OfItsTables decls Fact = (name : Name) (table : PlainTable) → table_of decls name ≡ Some table → Fact table

abbrev pub ListsEntries : PlainTable → Type 0
ListsEntries table = (entry : PlainEntry) → Contains table.entries entry → among table.actions entry.action ≡ true

-- its default action is one of those that it lists, or `NoAction`
abbrev pub ListsDefault : PlainTable → Type 0
ListsDefault table = (run : Name × List PlainExpr) → table.fallback ≡ Some run → among (no_action_name ∷ table.actions) run.0 ≡ true

-- a table runs what it lists, and no control declares `NoAction`
pub record RunsWhatItLists (decls : List PlainDecl) : Type 0 where
  pub entries : OfItsTables decls ListsEntries
  pub fallback : OfItsTables decls ListsDefault
  pub undeclared : action_of decls no_action_name ≡ None

-- no two units name one register, a unit names one at most, and a unit in a loop names one of an array
pub record HasRegistersApart (decls : List PlainDecl) : Type 0 where
  pub apart : (one other : ℕ) (register : Name) → UnitNames decls one register → UnitNames decls other register → one ≡ other
  pub alone : (unit : ℕ) (one other : Name) → UnitNames decls unit one → UnitNames decls unit other → one ≡ other
  pub looped : (unit : ℕ) (register : Name) → UnitNames decls unit register → IsLooped decls unit → is_array decls register ≡ true
