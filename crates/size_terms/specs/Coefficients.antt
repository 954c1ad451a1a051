-- The rows of a program's assume clauses: each comparison of two sums as one row or two, with one coefficient a symbol;
-- this project's own.
use Rattle.std.specs.Prelude.{ℕ, List, [], ◌∷◌, length, map, flat_map, nat_eq, Option, Some, None, ℤ, pos, ◌+ℤ◌, neg_ℤ, if◌then◌else◌}
use Rattle.std.specs.List.{range_with_len}
use Rattle.elastic_ast.specs.declared.declarations.Comp.{Comp}
use Rattle.elastic_ast.specs.declared.declarations.LinTerm.{LinTerm}
use Rattle.elastic_ast.specs.declared.declarations.Rel.{Rel}
use Rattle.elastic_ast.specs.declared.declarations.Rel.TheVariants as rel
use Rattle.elastic_ast.specs.declared.flat.Linear.{Linear}
use Rattle.elastic_ast.specs.Tree.{Name, PlainDecl}
use Rattle.elastic_ast.specs.Sizes.SizeSums.{negated_if, symbols_of, comparisons}
use Rattle.size_terms.specs.Places.{place_of}

-- a number at one place, and 0 at every other
abbrev pub number_at : ℕ → ℕ → Option ℕ → ℕ
number_at number place None = 0
number_at number place (Some other) = if nat_eq other place then number else 0

-- the number of a term whose symbol is the one at this place
abbrev pub symbol_number : List Name → ℕ → ℕ → Option Name → ℕ
symbol_number symbols place number None = 0
symbol_number symbols place number (Some name) = number_at number place (place_of symbols name)

-- the number of a term that has no symbol
abbrev pub lone_number : ℕ → Option Name → ℕ
lone_number number None = number
lone_number number (Some name) = 0

-- the coefficient of a symbol in a sum: the numbers of its terms with their signs, added up
abbrev pub coefficient : List Name → List LinTerm → ℕ → ℤ
coefficient symbols [] place = pos 0
coefficient symbols (term ∷ terms) place = negated_if term.minus (pos (symbol_number symbols place term.by term.symbol)) +ℤ coefficient symbols terms place

-- the constant of a sum: the numbers that stand alone with their signs, added up
abbrev pub constant_of : List LinTerm → ℤ
constant_of [] = pos 0
constant_of (term ∷ terms) = negated_if term.minus (pos (lone_number term.by term.symbol)) +ℤ constant_of terms

-- the row that says that the left sum and a number are at most the right sum: the symbols stand on its left side, and the
-- constants on its right side
abbrev pub row_below : ℕ → List Name → List LinTerm → List LinTerm → Linear
row_below more symbols left right = record {
  by = map (λ place. coefficient symbols left place +ℤ neg_ℤ (coefficient symbols right place)) (range_with_len 0 (length symbols));
  most = (constant_of right +ℤ neg_ℤ (constant_of left)) +ℤ neg_ℤ (pos more);
}

-- the rows of a comparison; over whole numbers, less is at most one less
abbrev pub compared_rows : List Name → Rel → List LinTerm → List LinTerm → List Linear
compared_rows symbols rel.Le left right = row_below 0 symbols left right ∷ []
compared_rows symbols rel.Lt left right = row_below 1 symbols left right ∷ []
compared_rows symbols rel.Ge left right = row_below 0 symbols right left ∷ []
compared_rows symbols rel.Gt left right = row_below 1 symbols right left ∷ []
compared_rows symbols rel.Eq left right = row_below 0 symbols left right ∷ row_below 0 symbols right left ∷ []

abbrev pub rows_of_comp : List Name → Comp → List Linear
rows_of_comp symbols comp = compared_rows symbols comp.rel comp.left comp.right

-- the rows of all assume clauses, in the order of the text
abbrev pub rows_of : List PlainDecl → List Linear
rows_of decls = flat_map (rows_of_comp (symbols_of decls)) (comparisons decls)
