-- A typed program: no declaration breaks a rule of types; the rules are this project's own. Most rules are what a declaration
-- asks over those before it. Four are of the whole program: loops of states, registers named twice or never, and `main`.
use Rattle.std.specs.Prelude.{◌≡◌, ◌⊎◌, ℕ, ◌+◌, Bool, false, ◌&&◌, List, [], ◌∷◌, ◌++◌, take, Option, Some, None, option_map, slice_get, Contains}
use Rattle.elastic_ast.specs.declared.rule.Rule.{Rule}
use Rattle.elastic_ast.specs.declared.rule.Rule.TheVariants.{RegisterTwice, RegisterUnused, ParserLoop, NoMain}
use Rattle.elastic_ast.specs.Tree.{PlainDecl}
use Rattle.elastic_ast.specs.Typing.Scope.{or_else}
use Rattle.elastic_ast.specs.Typing.Demand.{Demand, rule_of, met, first_broken}
use Rattle.elastic_ast.specs.Typing.Asked.{DeclKind, has, asked}
use Rattle.elastic_ast.specs.Typing.ParserLoops.{Loops}
use Rattle.elastic_ast.specs.Typing.NamedRegisters.{NamedTwice, IsUnnamed}

-- the declaration asks something of this rule that isn't so, over the declarations before it
abbrev pub AsksTooMuch : Bool → List PlainDecl → Rule → PlainDecl → Type 0
AsksTooMuch allow_reserved before rule decl =
    (demand : Demand) × Contains (asked before decl) demand × (rule_of demand ≡ rule) × (met allow_reserved demand ≡ false)

-- `headers_t`, `meta_t`, a parser, a control and a deparser are declared
abbrev pub has_parts : List PlainDecl → Bool
has_parts decls = has DeclKind.Headers decls && has DeclKind.Metadata decls && has DeclKind.Parser decls && has DeclKind.Control decls && has DeclKind.Deparser decls

-- a parser, a control or a deparser stands in a program without `main`, or `main` in one without its parts
abbrev pub LacksMain : List PlainDecl → PlainDecl → Type 0
LacksMain decls (PlainDecl.Parser name states) = has DeclKind.Main decls ≡ false
LacksMain decls (PlainDecl.Control name locals body) = has DeclKind.Main decls ≡ false
LacksMain decls (PlainDecl.Deparser name emits) = has DeclKind.Main decls ≡ false
LacksMain decls (PlainDecl.Main parser control deparser) = has_parts decls ≡ false
LacksMain decls _ = ⊥

-- a declaration breaks a rule that is one of the whole program
abbrev pub BreaksWhole : List PlainDecl → Rule → PlainDecl → Type 0
BreaksWhole decls ParserLoop (PlainDecl.Parser name states) = Loops states
BreaksWhole decls RegisterTwice (PlainDecl.Register name width cells size) = NamedTwice decls name
BreaksWhole decls RegisterUnused (PlainDecl.Register name width cells size) = IsUnnamed decls name
BreaksWhole decls NoMain decl = LacksMain decls decl
BreaksWhole decls _ _ = ⊥

-- the declaration with this number breaks the rule
abbrev pub Breaks : Bool → List PlainDecl → Rule → ℕ → Type 0
Breaks allow_reserved decls rule number =
    (decl : PlainDecl) × (slice_get decls number ≡ Some decl)
    × (AsksTooMuch allow_reserved (take number decls) rule decl ⊎ BreaksWhole decls rule decl)

-- no rule is broken; names with two underscores in a row are allowed or not
abbrev pub Typed : Bool → List PlainDecl → Type 0
Typed allow_reserved decls = (rule : Rule) (number : ℕ) → Breaks allow_reserved decls rule number → ⊥

-- the first of the declarations that asks too much, as the rule and the declaration's number
unfoldable pub broken_rule : Bool → List PlainDecl → PlainDecl → Option Rule
broken_rule allow_reserved before decl = first_broken allow_reserved (asked before decl)

abbrev pub first_of : (List PlainDecl → PlainDecl → Option Rule) → ℕ → List PlainDecl → List PlainDecl → Option (Rule × ℕ)
first_of breaks number before [] = None
first_of breaks number before (decl ∷ decls) =
    or_else (option_map (λ rule. (rule, number)) (breaks before decl)) (first_of breaks (number + 1) (before ++ decl ∷ []) decls)
