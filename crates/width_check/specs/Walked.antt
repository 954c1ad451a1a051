-- What the walks over the declarations of a program find: the first that asks what isn't so, the first that breaks a rule of the
-- whole program, and of both the first; this project's own.
use Rattle.std.specs.Prelude.{◌≡◌, ℕ, ◌<◌, Bool, List, take, length, Option, Some, None, slice_get}
use Rattle.elastic_ast.specs.declared.rule.Rule.{Rule}
use Rattle.elastic_ast.specs.declared.declarations.Decl.{Decl}
use Rattle.elastic_ast.specs.Tree.{PlainDecl}
use Rattle.elastic_ast.specs.Seen.{seen_decls, seen_decl}
use Rattle.program_names.specs.declared.names.Names.{Names}
use Rattle.expr_types.specs.Scoped.{HasNames, before_of}
use Rattle.elastic_ast.specs.Typing.Typed.{Typed, broken_rule}
use Rattle.width_check.specs.Broken.{BreaksFirst, BreaksWholeFirst}
use Rattle.width_check.specs.WholeRules.{IsWholeRule, HasNamedStates}
use Rattle.width_check.specs.declared.checking.TypeError.{TypeError}
use Rattle.width_check.specs.declared.kinds.Kinds.{Kinds}
use Rattle.width_check.specs.Kinds.{AreKinds}

-- something holds of each declaration up to a number, and of its own number
abbrev pub UpTo : List PlainDecl → ℕ → (ℕ → PlainDecl → Type 0) → Type 0
UpTo decls count Holds = (number : ℕ) (decl : PlainDecl) → number < count → slice_get decls number ≡ Some decl → Holds number decl

-- all is so that the declarations up to a number ask
abbrev pub AsksWhatIs : Bool → List PlainDecl → ℕ → Type 0
AsksWhatIs allow decls count = UpTo decls count (λ number decl. broken_rule allow (take number decls) decl ≡ None)

-- they break no rule of the whole program
abbrev pub KeepsWhole : List PlainDecl → ℕ → Type 0
KeepsWhole decls count = UpTo decls count (λ number decl. IsWholeRule decls decl None)

-- the states of those that are parsers have names of their own
abbrev pub NamesStates : List PlainDecl → ℕ → Type 0
NamesStates decls count = UpTo decls count (λ number decl. HasNamedStates decl)

-- the first declaration that asks what isn't so, and that rule
pub record AsksFirst (allow : Bool) (decls : List PlainDecl) (rule : Rule) (number : ℕ) : Type 0 where
  pub decl : PlainDecl
  pub here : slice_get decls number ≡ Some decl
  pub broken : broken_rule allow (take number decls) decl ≡ Some rule
  pub first : AsksWhatIs allow decls number

abbrev pub IsAskedFirst : Bool → List PlainDecl → Option TypeError → Type 0
IsAskedFirst allow decls (Some error) = AsksFirst allow decls error.rule error.decl
IsAskedFirst allow decls None = AsksWhatIs allow decls (length decls)

-- how many declarations stand before it, or how many there are
abbrev pub before_asked : List PlainDecl → Option TypeError → ℕ
before_asked decls (Some error) = error.decl
before_asked decls None = length decls

-- tables are those of the declarations before it
abbrev pub HasNamesBefore : List Decl → Option TypeError → Names → Type 0
HasNamesBefore decls asked names = HasNames (decls, before_asked (seen_decls decls) asked) names

-- tables are those of all declarations, where nothing is broken
abbrev pub HasNamesOfAll : List Decl → Option TypeError → Names → Type 0
HasNamesOfAll decls (Some error) names = Unit {0}
HasNamesOfAll decls None names = HasNames (decls, length decls) names

-- the first declaration up to a number that breaks a rule of the whole program, and that rule
pub record KeepsFirst (decls : List PlainDecl) (count : ℕ) (rule : Rule) (number : ℕ) : Type 0 where
  pub decl : PlainDecl
  pub within : number < count
  pub here : slice_get decls number ≡ Some decl
  pub broken : BreaksWholeFirst decls rule decl
  pub first : KeepsWhole decls number

abbrev pub IsWholeFirst : List PlainDecl → ℕ → Option TypeError → Type 0
IsWholeFirst decls count (Some error) = KeepsFirst decls count error.rule error.decl
IsWholeFirst decls count None = KeepsWhole decls count

-- the first declaration that breaks a rule, with the first rule that it breaks; or the program is typed
abbrev pub IsFirstBroken : Bool → List PlainDecl → Option TypeError → Type 0
IsFirstBroken allow decls (Some error) = BreaksFirst allow decls error.rule error.decl
IsFirstBroken allow decls None = Typed allow decls

-- what a walk over the declarations knows of those before its place
pub record HasPassed (place : List Decl × ℕ) (kinds : Kinds) (names : Names) : Type 0 where
  pub named : HasNames place names
  pub once : AreKinds kinds (before_of place)

abbrev pub next_breaks : Bool → List Decl × ℕ → Decl → Option Rule
next_breaks allow place decl = broken_rule allow (before_of place) (seen_decl decl)
