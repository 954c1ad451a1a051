-- The symbols that count cells or are a modulus, by their numbers; this project's own.
use Rattle.std.specs.Prelude.{ℕ, ◌+◌, nat_eq, Bool, true, false, List, [], ◌∷◌, length, map, flat_map, Option, Some, None, if◌then◌else◌}
use Rattle.std.specs.List.{list_any, filter, range_with_len}
use Rattle.std.proofs.Math.ListN.{set}
use Rattle.elastic_ast.specs.declared.statements.Expr.{Expr}
use Rattle.elastic_ast.specs.declared.declarations.Local.{Local}
use Rattle.elastic_ast.specs.declared.declarations.State.{State}
use Rattle.elastic_ast.specs.Tree.{Name, PlainDecl}
use Rattle.elastic_ast.specs.Seen.{seen_exprs, seen_local, seen_state}
use Rattle.elastic_ast.specs.Sizes.Counted.{counted_in_expr, counted_in_local, counted_in_state, counted_symbols}
use Rattle.elastic_ast.specs.Sizes.SizeSums.{symbols_of}
use Rattle.size_terms.specs.Places.{place_of}

abbrev pub is_at : ℕ → Option ℕ → Bool
is_at place None = false
is_at place (Some other) = nat_eq other place

-- one of some names is that of the symbol with this number
abbrev pub is_counted : List Name → List Name → ℕ → Bool
is_counted symbols names place = list_any (λ name. is_at place (place_of symbols name)) names

-- the numbers of the symbols that count cells or are a modulus: they rise, and each stands once
abbrev pub ones_of : List PlainDecl → List ℕ
ones_of decls = filter (is_counted (symbols_of decls) (counted_symbols decls)) (range_with_len 0 (length (symbols_of decls)))

-- one mark a symbol: that of a name is set
abbrev pub marked_at : Option ℕ → List Bool → List Bool
marked_at None marks = marks
marked_at (Some place) marks = set marks place true

-- the marks of some names are set
abbrev pub marked : List Name → List Bool → List Name → List Bool
marked symbols marks [] = marks
marked symbols marks (name ∷ names) = marked symbols (marked_at (place_of symbols name) marks) names

-- the numbers of the marks that are set, from one on
abbrev pub set_from : ℕ → List Bool → List ℕ
set_from place [] = []
set_from place (mark ∷ marks) = if mark then place ∷ set_from (place + 1) marks else set_from (place + 1) marks

abbrev pub set_marks : List Bool → List ℕ
set_marks marks = set_from 0 marks

-- what expressions, actions and tables, and states count
abbrev pub counted_in_exprs : List Expr → List Name
counted_in_exprs exprs = flat_map counted_in_expr (seen_exprs exprs)

abbrev pub counted_in_locals : List Local → List Name
counted_in_locals locals = flat_map counted_in_local (map seen_local locals)

abbrev pub counted_in_states : List State → List Name
counted_in_states states = flat_map counted_in_state (map seen_state states)
