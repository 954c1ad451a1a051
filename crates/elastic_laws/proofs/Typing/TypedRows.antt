-- Worked rows of the definitions: small programs with the first rule that each breaks, and sums at given sizes. Each is
-- worked by hand, and shows that the definitions say what they should.
use Rattle.std.proofs.Common.{◌≡◌, ℕ, true, false, List, [], ◌∷◌, Option, Some, None, refl, pos, neg_ℤ, arith}
use Rattle.std.specs.Prelude.{codes, ◌≤◌, ◌≤ℤ◌}
use Rattle.std.proofs.lemmas.List.Elements.{All-from_recursion, recursion_from_All}
use Rattle.std.proofs.lemmas.Int.{ints}
use Rattle.elastic_ast.specs.declared.rule.Rule.{Rule}
use Rattle.elastic_ast.specs.declared.rule.Rule.TheVariants.{UnknownName, Twice, Width, BadTerm, ReservedName}
use Rattle.elastic_ast.specs.declared.declarations.Field.{Field}
use Rattle.elastic_ast.specs.declared.declarations.LinTerm.{LinTerm}
use Rattle.elastic_ast.specs.declared.declarations.Rel.{Rel}
use Rattle.elastic_ast.specs.declared.declarations.Rel.TheVariants.{Le, Ge}
use Rattle.elastic_ast.specs.declared.declarations.Comp.{Comp}
use Rattle.elastic_ast.specs.declared.declarations.UtilTerm.TheVariants.{Lin}
use Rattle.elastic_ast.specs.declared.statements.Amount.TheVariants as amount
use Rattle.elastic_ast.specs.Tree.{Name, PlainDecl, PlainExpr, PlainStmt, PlainStmts}
use Rattle.elastic_ast.specs.OperatorSorts.{Equal, binary}
use Rattle.elastic_ast.specs.Typing.Demand.{fixed_names}
use Rattle.elastic_ast.specs.Typing.Typed.{Typed, broken_rule, first_of}
use Rattle.elastic_ast.specs.Sizes.SizeSums.{size_of, sum_value, utility, comparisons, Holds, IsCounted, Assumes}
use Rattle.elastic_ast.specs.Sizes.Counted.{counted_symbols}
use Rattle.elastic_ast.proofs.Typing.TypedLaws.{walk_passes, no_parts}

abbrev rows : Name
rows = codes "rows"

abbrev cols : Name
cols = codes "cols"

abbrev number : ℕ → LinTerm
number by = record { minus = false; by = by; symbol = None }

abbrev times : ℕ → Name → LinTerm
times by name = record { minus = false; by = by; symbol = Some name }

abbrev compared : LinTerm → Rel → LinTerm → Comp
compared left rel right = record { left = left ∷ []; rel = rel; right = right ∷ [] }

abbrev field : Name → ℕ → Field
field name width = record { name = name; width = width; size = None }

-- the first broken rule of a program, with the number of its declaration; no name may have two underscores in a row
unfoldable first : List PlainDecl → Option (Rule × ℕ)
first decls = first_of (broken_rule false) 0 [] decls

-- `symbolic int cols; assume(rows >= 1);`: `rows` isn't declared
unknown_name : first (PlainDecl.Symbol cols ∷ PlainDecl.Assume (compared (times 1 rows) Ge (number 1) ∷ []) ∷ []) ≡ Some (UnknownName, 1)
unfolding first broken_rule fixed_names
unknown_name = refl

-- `assume(rows >= 1); symbolic int rows;`: it isn't declared yet
later_name : first (PlainDecl.Assume (compared (times 1 rows) Ge (number 1) ∷ []) ∷ PlainDecl.Symbol rows ∷ []) ≡ Some (UnknownName, 0)
unfolding first broken_rule fixed_names
later_name = refl

-- `symbolic int rows; symbolic int cols; symbolic int rows;`
symbol_twice : first (PlainDecl.Symbol rows ∷ PlainDecl.Symbol cols ∷ PlainDecl.Symbol rows ∷ []) ≡ Some (Twice, 2)
unfolding first broken_rule fixed_names
symbol_twice = refl

-- `symbolic int hash;`
fixed_name : first (PlainDecl.Symbol (codes "hash") ∷ []) ≡ Some (Twice, 0)
unfolding first broken_rule fixed_names
fixed_name = refl

-- `maximize(1); maximize(1);`
utility_twice : first (PlainDecl.Maximize (Lin (number 1) ∷ []) ∷ PlainDecl.Maximize (Lin (number 1) ∷ []) ∷ []) ≡ Some (Twice, 1)
unfolding first broken_rule fixed_names
utility_twice = refl

-- `struct meta_t { bit<129> rows; }`, and the same with 128 and with 0
too_wide : first (PlainDecl.Meta (field rows 129 ∷ []) ∷ []) ≡ Some (Width, 0)
unfolding first broken_rule fixed_names
too_wide = refl

widest : first (PlainDecl.Meta (field rows 128 ∷ []) ∷ []) ≡ None
unfolding first broken_rule fixed_names
widest = refl

no_width : first (PlainDecl.Meta (field rows 0 ∷ []) ∷ []) ≡ Some (Width, 0)
unfolding first broken_rule fixed_names
no_width = refl

-- `maximize(1000000001);`, and the same with 1000000000
too_great : first (PlainDecl.Maximize (Lin (number 1000000001) ∷ []) ∷ []) ≡ Some (BadTerm, 0)
unfolding first broken_rule fixed_names
too_great = refl

greatest : first (PlainDecl.Maximize (Lin (number 1000000000) ∷ []) ∷ []) ≡ None
unfolding first broken_rule fixed_names
greatest = refl

-- `symbolic int a__b;`
reserved_name : first (PlainDecl.Symbol (codes "a__b") ∷ []) ≡ Some (ReservedName, 0)
unfolding first broken_rule fixed_names
reserved_name = refl

-- `symbolic int rows; symbolic int cols; assume(rows >= 1 && rows <= 3); assume(cols <= 100); maximize(10 * rows + cols);`
abbrev small : List PlainDecl
small =
    PlainDecl.Symbol rows ∷ PlainDecl.Symbol cols ∷
    PlainDecl.Assume (compared (times 1 rows) Ge (number 1) ∷ compared (times 1 rows) Le (number 3) ∷ []) ∷
    PlainDecl.Assume (compared (times 1 cols) Le (number 100) ∷ []) ∷
    PlainDecl.Maximize (Lin (times 10 rows) ∷ Lin (times 1 cols) ∷ []) ∷ []

small_breaks_none : first small ≡ None
unfolding first broken_rule fixed_names
small_breaks_none = refl

small_typed : Typed false small
unfolding first
small_typed = walk_passes false small small_breaks_none (no_parts small refl)

-- the sizes of its symbols, and of a name that is none
size_of_cols : size_of (rows ∷ cols ∷ []) (3 ∷ 100 ∷ []) cols ≡ 100
size_of_cols = refl

size_of_other : size_of (rows ∷ cols ∷ []) (3 ∷ 100 ∷ []) (codes "row") ≡ 0
size_of_other = refl

-- 2 * rows - 7, where there are 3 rows
below_nothing : sum_value (rows ∷ cols ∷ []) (3 ∷ 100 ∷ []) (times 2 rows ∷ record { minus = true; by = 7; symbol = None } ∷ []) ≡ neg_ℤ (pos 1)
below_nothing = refl

small_utility : utility small (3 ∷ 100 ∷ []) ≡ pos 130
small_utility = refl

-- 3 rows of 100 are within its clauses, and 4 rows aren't
small_assumes : Assumes small (3 ∷ 100 ∷ [])
small_assumes =
    let least : pos 1 ≤ℤ pos 3 = omega (arith, ints) in
    let most : pos 3 ≤ℤ pos 3 = omega (arith, ints) in
    let widest : pos 100 ≤ℤ pos 100 = omega (arith, ints) in
    record {
      compared = All-from_recursion (Holds (rows ∷ cols ∷ []) (3 ∷ 100 ∷ [])) (comparisons small) (least, (most, (widest, tt)));
      counted = All-from_recursion (IsCounted small (3 ∷ 100 ∷ [])) [] tt;
    }

small_refuses : Assumes small (4 ∷ 100 ∷ []) → ⊥
small_refuses h =
    let second : pos 4 ≤ℤ pos 3 = (recursion_from_All (Holds (rows ∷ cols ∷ []) (4 ∷ 100 ∷ [])) (comparisons small) h.compared).1.0 in
    omega (arith, ints, second)

-- `symbolic int rows; symbolic int cols; Register<bit<8>>(cols) r;`, and a control whose body is
-- `if (hash(0, 1w1, rows) == 0) { }`: both symbols count something
abbrev counting : List PlainDecl
counting =
    PlainDecl.Symbol rows ∷ PlainDecl.Symbol cols ∷ PlainDecl.Register (codes "r") 8 (amount.Named cols) None ∷
    PlainDecl.Control (codes "c") []
    (PlainStmts.cons
    (PlainStmt.If (binary Equal (PlainExpr.Hash (amount.Num 0) (PlainExpr.Num (Some 1) 1) (amount.Named rows)) (PlainExpr.Num None 0)) PlainStmts.nil)
    PlainStmts.nil) ∷
    []

both_count : counted_symbols counting ≡ cols ∷ rows ∷ []
both_count = refl

counting_assumes : Assumes counting (1 ∷ 1 ∷ [])
counting_assumes =
    let one : 1 ≤ 1 = omega arith in
    record {
      compared = All-from_recursion (Holds (rows ∷ cols ∷ []) (1 ∷ 1 ∷ [])) [] tt;
      counted = All-from_recursion (IsCounted counting (1 ∷ 1 ∷ [])) (counted_symbols counting) (one, (one, tt));
    }

no_modulus_is_0 : Assumes counting (0 ∷ 1 ∷ []) → ⊥
no_modulus_is_0 h =
    let second : 1 ≤ 0 = (recursion_from_All (IsCounted counting (0 ∷ 1 ∷ [])) (counted_symbols counting) h.counted).1.0 in
    omega (arith, second)

no_count_is_0 : Assumes counting (1 ∷ 0 ∷ []) → ⊥
no_count_is_0 h =
    let first : 1 ≤ 0 = (recursion_from_All (IsCounted counting (1 ∷ 0 ∷ [])) (counted_symbols counting) h.counted).0 in
    omega (arith, first)
