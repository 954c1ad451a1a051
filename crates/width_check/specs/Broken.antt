-- What a refusal of the checker says: the rule and the declaration that breaks it; this project's own.
use Rattle.std.specs.Prelude.{◌≡◌, ◌⊎◌, ℕ, ◌<◌, Bool, List, take, Some, None, slice_get}
use Rattle.elastic_ast.specs.declared.rule.Rule.{Rule}
use Rattle.elastic_ast.specs.declared.rule.Rule.TheVariants.{ParserLoop}
use Rattle.elastic_ast.specs.Tree.{PlainDecl}
use Rattle.elastic_ast.specs.Typing.Typed.{Breaks, BreaksWhole, broken_rule}
use Rattle.width_check.specs.declared.checking.CheckError.{CheckError}
use Rattle.width_check.specs.declared.checking.CheckError.TheVariants as error

-- the first rule of the whole program that a declaration breaks: a loop of states comes before a missing `main`
pub record BreaksWholeFirst (decls : List PlainDecl) (rule : Rule) (decl : PlainDecl) : Type 0 where
  pub broken : BreaksWhole decls rule decl
  pub loops_first : BreaksWhole decls ParserLoop decl → rule ≡ ParserLoop

-- The first rule that a declaration breaks: that of the first thing that it asks and that isn't so, or, where all is so that
-- it asks, a rule of the whole program.
abbrev pub IsFirstRule : Bool → List PlainDecl → Rule → ℕ → PlainDecl → Type 0
IsFirstRule allow decls rule number decl =
    (broken_rule allow (take number decls) decl ≡ Some rule)
    ⊎ ((broken_rule allow (take number decls) decl ≡ None) × BreaksWholeFirst decls rule decl)

-- this declaration is the first that breaks a rule, and this rule the first that it breaks
pub record BreaksFirst (allow : Bool) (decls : List PlainDecl) (rule : Rule) (number : ℕ) : Type 0 where
  pub decl : PlainDecl
  pub here : slice_get decls number ≡ Some decl
  pub broken : IsFirstRule allow decls rule number decl
  pub first : (other : Rule) (before : ℕ) → before < number → Breaks allow decls other before → ⊥

-- the first broken rule is named, with the declaration that breaks it; or memory was wanting
abbrev pub IsBroken : Bool → List PlainDecl → CheckError → Type 0
IsBroken allow decls (error.Broken broken) = BreaksFirst allow decls broken.rule broken.decl
IsBroken allow decls error.Memory = Unit {0}
