-- The first rule of the whole program that a declaration breaks, if it breaks one; this project's own.
use Rattle.std.specs.Prelude.{◌≡◌, true, List, [], Option, Some, None, if◌then◌else◌}
use Rattle.elastic_ast.specs.declared.rule.Rule.{Rule}
use Rattle.elastic_ast.specs.declared.rule.Rule.TheVariants.{RegisterTwice, RegisterUnused, NoMain}
use Rattle.elastic_ast.specs.Tree.{Name, PlainDecl, PlainState}
use Rattle.elastic_ast.specs.Typing.Demand.{first_broken}
use Rattle.elastic_ast.specs.Typing.AskedOfNames.{asks_names}
use Rattle.elastic_ast.specs.Typing.Asked.{DeclKind, has}
use Rattle.elastic_ast.specs.Typing.ParserLoops.{state_names}
use Rattle.elastic_ast.specs.Typing.NamedRegisters.{NamedTwice, IsUnnamed}
use Rattle.elastic_ast.specs.Typing.Typed.{BreaksWhole, has_parts}
use Rattle.width_check.specs.Broken.{BreaksWholeFirst}

-- of a declaration among others
abbrev pub IsWholeRule : List PlainDecl → PlainDecl → Option Rule → Type 0
IsWholeRule decls decl (Some rule) = BreaksWholeFirst decls rule decl
IsWholeRule decls decl None = (rule : Rule) → BreaksWhole decls rule decl → ⊥

-- of a parser
abbrev pub IsParserRule : List PlainDecl → Name → List PlainState → Option Rule → Type 0
IsParserRule decls name states = IsWholeRule decls (PlainDecl.Parser name states)

-- of a part of a pipeline, and of `main`
abbrev pub main_rule : List PlainDecl → Option Rule
main_rule decls = if has DeclKind.Main decls then None else Some NoMain

abbrev pub parts_rule : List PlainDecl → Option Rule
parts_rule decls = if has_parts decls then None else Some NoMain

-- of a register
abbrev pub IsRegisterRule : List PlainDecl → Name → Option Rule → Type 0
IsRegisterRule decls register (Some RegisterTwice) = NamedTwice decls register
IsRegisterRule decls register (Some RegisterUnused) = IsUnnamed decls register
IsRegisterRule decls register (Some _) = ⊥
IsRegisterRule decls register None = (NamedTwice decls register → ⊥) × (IsUnnamed decls register → ⊥)

-- the states of a parser have names of their own
abbrev pub AreNamed : List PlainState → Type 0
AreNamed states = first_broken true (asks_names [] (state_names states)) ≡ None

abbrev pub HasNamedStates : PlainDecl → Type 0
HasNamedStates (PlainDecl.Parser name states) = AreNamed states
HasNamedStates _ = Unit {0}
