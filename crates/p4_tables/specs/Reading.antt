-- What the readers of the parts of a table owe, in one fact each; this project's own.
use Rattle.std.specs.Prelude.{◌≡◌, ◌≢◌, ℕ, ◌≤◌, List, All, AllPairs, Result, IfOk, IfErr, codes, map}
use Rattle.spelling.specs.Words.{Word}
use Rattle.spelling.specs.Grammar.{Grammar, Begins, Each, IsNamed, Where}
use Rattle.spelling.specs.Reading.{ahead, Takes, MayTake, IsRead, IsReading}
use Rattle.spelling.specs.Bounds.{IfTooDeep, Opens, OpensNext, Stops}
use Rattle.spelling.specs.declared.error.SyntaxError.{SyntaxError}
use Rattle.spelling.specs.declared.reader.Reader.{Reader}
use Rattle.p4_tables.specs.declared.properties.Kind.{Kind}
use Rattle.p4_tables.specs.declared.properties.Part.{Part}
use Rattle.p4_tables.specs.Seen.{seen_part}
use Rattle.p4_tables.specs.Tables.{Property, Says, SpellsProperty, kind_of, property_of}

-- a default action stands next
abbrev pub DefaultsNext : Grammar
DefaultsNext = Begins (IsNamed (codes "default_action"))

-- the kind of each property that can stand next
abbrev pub IsKindAhead : List Word → Result Kind SyntaxError → Type 0
IsKindAhead before result = (depth : ℕ) (property : Property) (rest : List Word) → MayTake (SpellsProperty depth property) before rest → IsRead (λ kind. kind) (kind_of property) result

-- A reader of a property of this kind.
pub record ReadsOfKind (kind : Kind) (depth : ℕ) (before after : Reader) (result : Result Part SyntaxError) : Type 0 where
  pub taken : IfOk result (λ part. Takes (SpellsProperty depth (seen_part part)) (ahead before) (ahead after))
  pub is_of_it : IfOk result (λ part. kind_of (seen_part part) ≡ kind)
  pub only : (more : ℕ) (says : Says kind) (rest : List Word) → MayTake (SpellsProperty more (property_of kind says)) (ahead before) rest → IsReading (more ≤ depth) seen_part (property_of kind says) rest (ahead after) result
  pub deep : IfErr result (IfTooDeep (Stops (Opens depth) OpensNext (ahead before) (ahead after)))

-- properties of a table, no two of one kind
abbrev pub OfDifferentKinds : List Property → Type 0
OfDifferentKinds properties = AllPairs (λ one other. kind_of one ≢ kind_of other) properties

abbrev pub SpellsProperties : ℕ → List Property → Grammar
SpellsProperties depth properties = Where (OfDifferentKinds properties) (Each (SpellsProperty depth) properties)

-- A reader of a property of another kind than these.
pub record ReadsOther (parts : List Part) (depth : ℕ) (before after : Reader) (result : Result Part SyntaxError) : Type 0 where
  pub taken : IfOk result (λ part. Takes (SpellsProperty depth (seen_part part)) (ahead before) (ahead after))
  pub other : IfOk result (λ part. All (λ one. kind_of one ≢ kind_of (seen_part part)) (map seen_part parts))
  pub only : (more : ℕ) (property : Property) (rest : List Word) → MayTake (SpellsProperty more property) (ahead before) rest → All (λ one. kind_of one ≢ kind_of property) (map seen_part parts) → IsReading (more ≤ depth) seen_part property rest (ahead after) result
  pub deep : IfErr result (IfTooDeep (Stops (Opens depth) OpensNext (ahead before) (ahead after)))
