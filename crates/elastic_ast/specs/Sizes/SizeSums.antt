-- What sums of sizes are worth: the assume clauses and the utility of a program; this project's own.
use Rattle.std.specs.Prelude.{◌≡◌, ℕ, ◌*◌, ◌≤◌, Bool, true, false, nat_le, List, [], ◌∷◌, flat_map, Option, Some, None, All, unwrap_or, ℤ, pos, ◌+ℤ◌, ◌≤ℤ◌, ◌<ℤ◌, neg_ℤ, if◌then◌else◌}
use Rattle.elastic_ast.specs.declared.declarations.Comp.{Comp}
use Rattle.elastic_ast.specs.declared.declarations.LinTerm.{LinTerm}
use Rattle.elastic_ast.specs.declared.declarations.Rel.{Rel}
use Rattle.elastic_ast.specs.declared.declarations.Rel.TheVariants as rel
use Rattle.elastic_ast.specs.declared.declarations.UtilTerm.{UtilTerm}
use Rattle.elastic_ast.specs.declared.declarations.UtilTerm.TheVariants as util
use Rattle.elastic_ast.specs.Tree.{Name, PlainDecl}
use Rattle.elastic_ast.specs.Typing.Scope.{same, found}
use Rattle.elastic_ast.specs.Sizes.Counted.{counted_symbols}

abbrev pub symbol_name : PlainDecl → List Name
symbol_name (PlainDecl.Symbol name) = name ∷ []
symbol_name _ = []

-- the symbols of a program, in the order of declaration
abbrev pub symbols_of : List PlainDecl → List Name
symbols_of = flat_map symbol_name

-- the size of a symbol, where each symbol has the size of its place
abbrev pub size_of : List Name → List ℕ → Name → ℕ
size_of [] sizes name = 0
size_of (symbol ∷ symbols) [] name = 0
size_of (symbol ∷ symbols) (size ∷ sizes) name = if same name symbol then size else size_of symbols sizes name

-- how often something of this size stands: once where it has no size
abbrev pub count_of : List Name → List ℕ → Option Name → ℕ
count_of symbols sizes None = 1
count_of symbols sizes (Some name) = size_of symbols sizes name

abbrev pub negated_if : Bool → ℤ → ℤ
negated_if true value = neg_ℤ value
negated_if false value = value

abbrev pub term_value : List Name → List ℕ → LinTerm → ℤ
term_value symbols sizes term = negated_if term.minus (pos (term.by * count_of symbols sizes term.symbol))

abbrev pub sum_value : List Name → List ℕ → List LinTerm → ℤ
sum_value symbols sizes [] = pos 0
sum_value symbols sizes (term ∷ terms) = term_value symbols sizes term +ℤ sum_value symbols sizes terms

abbrev pub Compares : Rel → ℤ → ℤ → Type 0
Compares rel.Le left right = left ≤ℤ right
Compares rel.Lt left right = left <ℤ right
Compares rel.Ge left right = right ≤ℤ left
Compares rel.Gt left right = right <ℤ left
Compares rel.Eq left right = left ≡ right

-- a comparison is true at these sizes
abbrev pub Holds : List Name → List ℕ → Comp → Type 0
Holds symbols sizes comp = Compares comp.rel (sum_value symbols sizes comp.left) (sum_value symbols sizes comp.right)

abbrev pub comps_of : PlainDecl → List Comp
comps_of (PlainDecl.Assume comps) = comps
comps_of _ = []

-- the comparisons of all assume clauses
abbrev pub comparisons : List PlainDecl → List Comp
comparisons = flat_map comps_of

-- every comparison of every assume clause is true
abbrev pub Compared : List PlainDecl → List ℕ → Type 0
Compared decls sizes = All (Holds (symbols_of decls) sizes) (comparisons decls)

-- a symbol that counts something is at least 1
abbrev pub IsCounted : List PlainDecl → List ℕ → Name → Type 0
IsCounted decls sizes symbol = 1 ≤ size_of (symbols_of decls) sizes symbol

-- every comparison of every assume clause is true, and each symbol that counts cells or is a modulus is at least 1
pub record Assumes (decls : List PlainDecl) (sizes : List ℕ) : Type 0 where
  pub compared : Compared decls sizes
  pub counted : All (IsCounted decls sizes) (counted_symbols decls)

-- the value of the last key that isn't above a size, where keys rise
abbrev pub step_value : ℕ → ℕ → List (ℕ × ℕ) → ℕ
step_value size value [] = value
step_value size value (pair ∷ pairs) = step_value size (if nat_le pair.0 size then pair.1 else value) pairs

abbrev pub util_value : List Name → List ℕ → UtilTerm → ℤ
util_value symbols sizes (util.Lin term) = term_value symbols sizes term
util_value symbols sizes (util.Steps minus symbol pairs) = negated_if minus (pos (step_value (size_of symbols sizes symbol) 0 pairs))

abbrev pub utils_value : List Name → List ℕ → List UtilTerm → ℤ
utils_value symbols sizes [] = pos 0
utils_value symbols sizes (term ∷ terms) = util_value symbols sizes term +ℤ utils_value symbols sizes terms

abbrev pub utility_of : PlainDecl → Option (List UtilTerm)
utility_of (PlainDecl.Maximize terms) = Some terms
utility_of _ = None

-- the terms of the one declared utility
abbrev pub utility_terms : List PlainDecl → List UtilTerm
utility_terms decls = unwrap_or (found utility_of decls) []

-- the sum of the terms of the utility, and 0 where none is declared
abbrev pub utility : List PlainDecl → List ℕ → ℤ
utility decls sizes = utils_value (symbols_of decls) sizes (utility_terms decls)
