-- The step tables of a program's utility, each over the place of its symbol; this project's own.
use Rattle.std.specs.Prelude.{ℕ, Bool, List, [], ◌∷◌, flat_map, unwrap_or}
use Rattle.elastic_ast.specs.declared.declarations.UtilTerm.{UtilTerm}
use Rattle.elastic_ast.specs.declared.declarations.UtilTerm.TheVariants as util
use Rattle.elastic_ast.specs.declared.flat.Steps.{Steps}
use Rattle.elastic_ast.specs.Tree.{Name, PlainDecl}
use Rattle.elastic_ast.specs.Sizes.SizeSums.{symbols_of, utility_terms}
use Rattle.size_terms.specs.Places.{place_of}

-- a step table over the place of a symbol that has one
abbrev pub placed_table : List Name → Bool → Name → List (ℕ × ℕ) → Steps
placed_table symbols minus symbol pairs = record { minus = minus; symbol = unwrap_or (place_of symbols symbol) 0; pairs = pairs }

-- the step table of a term of the utility, where it is one that has pairs: without any it is worth nothing
abbrev pub table_in : List Name → UtilTerm → List Steps
table_in symbols (util.Lin term) = []
table_in symbols (util.Steps minus symbol []) = []
table_in symbols (util.Steps minus symbol (pair ∷ pairs)) = placed_table symbols minus symbol (pair ∷ pairs) ∷ []

abbrev pub tables_in : List Name → List UtilTerm → List Steps
tables_in symbols = flat_map (table_in symbols)

-- the step tables of the utility, in the order of the text
abbrev pub tables_of : List PlainDecl → List Steps
tables_of decls = tables_in (symbols_of decls) (utility_terms decls)
