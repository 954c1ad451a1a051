-- Small programs and what their units are, for the equations that show what units are; this project's own.
use Rattle.std.specs.Prelude.{ℕ, zero, suc, Bool, true, false, List, [], ◌∷◌, map, Option, Some, None, codes}
use Rattle.elastic_ast.specs.declared.statements.Amount.TheVariants as amount
use Rattle.elastic_ast.specs.declared.statements.Lval.{Lval}
use Rattle.elastic_ast.specs.declared.statements.Lval.TheVariants as lval
use Rattle.elastic_ast.specs.declared.flat.Lit.{Lit}
use Rattle.elastic_ast.specs.declared.flat.Cells.{Cells}
use Rattle.elastic_ast.specs.declared.flat.Location.{Location}
use Rattle.elastic_ast.specs.declared.flat.Location.TheVariants as location
use Rattle.elastic_ast.specs.Tree.{Name, PlainDecl, PlainExpr, PlainStmt, PlainKeyset, PlainEntry, PlainAction, PlainTable, PlainLocal}
use Rattle.elastic_ast.specs.OperatorSorts.{Plus, Join, Turn, binary, unary}
use Rattle.elastic_ast.specs.Units.PlainUnits.{PlainWork, PlainUnit}
use Rattle.elastic_ast.specs.Units.UnitsOf.{units_of}
use Rattle.elastic_ast.specs.Units.Order.{Relation, order}
use Rattle.elx_bits.specs.Words.{BitWord}
use Rattle.elastic_ast.specs.Containers.LocationPlaces.{place}
use Rattle.elastic_ast.specs.Meaning.Memory.{Memory, At, held}
use Rattle.elastic_ast.specs.Units.Instances.{nth_size, instances}
use Rattle.elastic_ast.specs.Units.Work.{unit_writes, after_instances}
use Rattle.elastic_laws.specs.Examples.WorkedValues.{bare}
use Rattle.elastic_laws.specs.Examples.WorkedProgram.{stmts, assign, is}
use Rattle.elastic_laws.specs.Examples.WorkedSources.{bits, array, plain_register, source_frame}

-- fields of `hdr.h`
abbrev pub in_header : Name → Lval
in_header name = lval.Header (codes "h") name

abbrev pub a : Lval
a = in_header (codes "a")

abbrev pub b : Lval
b = in_header (codes "b")

-- `meta.e[i]`, an element of the array `e` of size `s`
abbrev pub e : Lval
e = lval.Meta (codes "e") (Some (codes "i"))

abbrev pub get : Lval → PlainExpr
get from = PlainExpr.At from

-- the header has `a` and `b` of 8 bits, the metadata an array of bytes of size `s`
abbrev pub small : List PlainStmt → List PlainDecl
small body =
    source_frame (PlainDecl.Symbol (codes "s") ∷ []) (bits 8 (codes "a") ∷ bits 8 (codes "b") ∷ [])
    (array 8 (codes "s") (codes "e") ∷ []) [] [] body

abbrev pub when : PlainExpr → List PlainStmt → PlainStmt
when condition body = PlainStmt.If condition (stmts body)

abbrev pub when_else : PlainExpr → List PlainStmt → List PlainStmt → PlainStmt
when_else condition body other = PlainStmt.IfElse condition (stmts body) (stmts other)

-- `for (i < s) { .. }`
abbrev pub loop : List PlainStmt → PlainStmt
loop body = PlainStmt.For (codes "i") (codes "s") (stmts body)

abbrev pub staged : ℕ → List PlainStmt → PlainStmt
staged stage body = PlainStmt.Block (Some stage) (stmts body)

abbrev pub set : Lval → ℕ → PlainWork
set to number = PlainWork.Plain (assign to number)

abbrev pub on : ℕ → Lit
on number = record { number = number; own = false; on = true }

abbrev pub off : ℕ → Lit
off number = record { number = number; own = false; on = false }

abbrev pub own_on : ℕ → Lit
own_on number = record { number = number; own = true; on = true }

-- the locations of `hdr.h.a`, `hdr.h.b`, `meta.e[i]` and a predicate outside of loops
abbrev pub at_a : Location
at_a = location.Header (codes "h") (codes "a")

abbrev pub at_b : Location
at_b = location.Header (codes "h") (codes "b")

abbrev pub at_e : Location
at_e = location.Meta (codes "e") true

abbrev pub at_pred : ℕ → Location
at_pred number = location.Pred number false

-- parts of all units of a program
abbrev pub lits_of : List PlainDecl → List (List Lit)
lits_of decls = map (λ unit. unit.lits) (units_of decls)

abbrev pub conds_of : List PlainDecl → List (List PlainExpr)
conds_of decls = map (λ unit. unit.conds) (units_of decls)

abbrev pub works_of : List PlainDecl → List PlainWork
works_of decls = map (λ unit. unit.work) (units_of decls)

abbrev pub locations_read : List PlainDecl → List (List Location)
locations_read decls = map (λ unit. unit.reads) (units_of decls)

abbrev pub locations_written : List PlainDecl → List (List Location)
locations_written decls = map (λ unit. unit.writes) (units_of decls)

abbrev pub costs_of : List PlainDecl → List ℕ
costs_of decls = map (λ unit. unit.cost) (units_of decls)

abbrev pub ops_of : List PlainDecl → List ℕ
ops_of decls = map (λ unit. unit.ops) (units_of decls)

abbrev pub stages_of : List PlainDecl → List (Option ℕ)
stages_of decls = map (λ unit. unit.stage) (units_of decls)

-- the number of the loop, the number of its size, and the name of its index
abbrev pub loops_of : List PlainDecl → List (Option ℕ × Option ℕ × Option Name)
loops_of decls = map (λ unit. (unit.loop_no, unit.size, unit.index)) (units_of decls)

abbrev pub unit_cells : List PlainDecl → List (Option Cells × ℕ)
unit_cells decls = map (λ unit. (unit.cells, unit.cell_width)) (units_of decls)

-- table bits and ternary bits
abbrev pub bits_of : List PlainDecl → List (ℕ × ℕ)
bits_of decls = map (λ unit. (unit.table_bits, unit.ternary_bits)) (units_of decls)

-- the order of the first two units, at two indices
abbrev pub order_of_two : ℕ → ℕ → List PlainUnit → Option Relation
order_of_two index index' (first ∷ second ∷ rest) = Some (order first second index index')
order_of_two index index' (first ∷ []) = None
order_of_two index index' [] = None

-- the order of two instances of the first unit
abbrev pub order_of_turns : ℕ → ℕ → List PlainUnit → Option Relation
order_of_turns index index' (first ∷ rest) = Some (order first first index index')
order_of_turns index index' [] = None

abbrev pub own_meta : Name → Location
own_meta name = location.Meta name true

abbrev pub own_sketch : Location
own_sketch = location.Reg (codes "sketch") true

abbrev pub at_low : Location
at_low = location.Meta (codes "low") false

abbrev pub at_src : Location
at_src = location.Header (codes "eth") (codes "src")

-- the first size is that of `rows`, the second that of `cols`
abbrev pub sizes_of_sketch : ℕ → ℕ → ℕ
sizes_of_sketch rows zero = rows
sizes_of_sketch rows (suc symbol) = 100

-- a table over `hdr.h.a` with two entries that run `put(n)`, which assigns `n` to it
abbrev pub put_action : PlainAction
put_action =
    record {
      name = codes "put";
      index = None;
      params = record { name = codes "n"; width = 8 } ∷ [];
      body = stmts (PlainStmt.Assign a (PlainExpr.Named (codes "n")) ∷ []);
    }

abbrev pub row : PlainKeyset → ℕ → PlainEntry
row set number = record { keys = set ∷ []; action = codes "put"; args = bare number ∷ [] }

abbrev pub two_entries : Bool → Option ℕ → PlainTable
two_entries ternary size =
    record {
      name = codes "t";
      keys = record { field = a; ternary = ternary } ∷ [];
      actions = codes "put" ∷ codes "NoAction" ∷ [];
      entries = row (PlainKeyset.Masked (bare 5) (bare 0xF)) 1 ∷ row (PlainKeyset.One (bare 0x15)) 2 ∷ [];
      fallback = Some (codes "NoAction", []);
      size = size;
    }

abbrev pub with_table : Bool → Option ℕ → List PlainDecl
with_table ternary size =
    source_frame [] (bits 8 (codes "a") ∷ []) [] [] (PlainLocal.OfAction put_action ∷ PlainLocal.OfTable (two_entries ternary size) ∷ [])
    (PlainStmt.Apply (codes "t") ∷ [])

-- `if (hdr.h.a == 0) { hdr.h.a = 1; hdr.h.b = 2; }`
abbrev pub branch : List PlainDecl
branch = small (when (is a 0) (assign a 1 ∷ assign b 2 ∷ []) ∷ [])

-- `if (hdr.h.a == 0) { if (hdr.h.b == 1) { } hdr.h.a = 3; if (hdr.h.b == 2) { hdr.h.a = 4; hdr.h.b = 5; } }`
abbrev pub branch_in_branch : List PlainDecl
branch_in_branch =
    small
    (when (is a 0) (when (is b 1) [] ∷ assign a 3 ∷ when (is b 2) (assign a 4 ∷ assign b 5 ∷ []) ∷ []) ∷ [])

-- `if (hdr.h.a == 0) { hdr.h.a = 1; } else { if (hdr.h.b == 1) { hdr.h.b = 2; } }`
abbrev pub two_branches : List PlainDecl
two_branches = small (when_else (is a 0) (assign a 1 ∷ []) (when (is b 1) (assign b 2 ∷ []) ∷ []) ∷ [])

-- `if (hdr.h.a == 0) { for (i < s) { meta.e[i] = 1; } }`
abbrev pub loop_in_branch : List PlainDecl
loop_in_branch = small (when (is a 0) (loop (assign e 1 ∷ []) ∷ []) ∷ [])

-- `for (i < s) { } for (i < s) { if (meta.e[i] == 0) { meta.e[i] = 1; hdr.h.a = 2; } }`
abbrev pub branch_in_loop : List PlainDecl
branch_in_loop = small (loop [] ∷ loop (when (is e 0) (assign e 1 ∷ assign a 2 ∷ []) ∷ []) ∷ [])

-- `@stage(3) { @stage(1) { hdr.h.a = 1; } hdr.h.b = 2; { hdr.h.a = 3; } } hdr.h.b = 4;`
abbrev pub blocks : List PlainDecl
blocks =
    small
    (staged 3 (staged 1 (assign a 1 ∷ []) ∷ assign b 2 ∷ PlainStmt.Block None (stmts (assign a 3 ∷ [])) ∷ []) ∷ assign b 4 ∷ [])

-- `for (i < s) { meta.e[i] = 1; hdr.h.a = meta.e[i]; }`
abbrev pub element_in_loop : List PlainDecl
element_in_loop = small (loop (assign e 1 ∷ PlainStmt.Assign a (get e) ∷ []) ∷ [])

-- two assignments
abbrev pub then : PlainStmt → PlainStmt → List PlainUnit
then first second = units_of (small (first ∷ second ∷ []))

-- `hdr.h.setInvalid(); if (hdr.h.isValid()) { hdr.h.a = 1; }`
abbrev pub program_with_validity : List PlainDecl
program_with_validity = small (PlainStmt.Valid (codes "h") false ∷ when (PlainExpr.IsValid (codes "h")) (assign a 1 ∷ []) ∷ [])

-- `put(hdr.h.a + 1)`
abbrev pub call_with_argument : List PlainDecl
call_with_argument =
    source_frame [] (bits 8 (codes "a") ∷ []) [] [] (PlainLocal.OfAction put_action ∷ [])
    (PlainStmt.Call (codes "put") None (binary Plus (get a) (bare 1) ∷ []) ∷ [])

-- an expression of a join, a cast, a slice and a turned number
abbrev pub four_operators : PlainExpr
four_operators = binary Join (PlainExpr.Cast 8 (PlainExpr.Slice (get a) 3 0)) (unary Turn (get b))

abbrev pub at_big : Location
at_big = location.Header (codes "h") (codes "big")

abbrev pub at_std : Name → Location
at_std name = location.Std name

-- everything holds this number, in 8 bits
abbrev pub filled : ℕ → Memory
filled number = held (λ place. (8, number)) (λ name index. [])

-- what the instance of a unit writes to a location at an index, where everything holds a number and the size of `s` is 3
abbrev pub written_by : List PlainUnit → List PlainDecl → ℕ → ℕ → ℕ → List ℕ → Option BitWord
written_by [] decls number unit index place = None
written_by (first ∷ rest) decls number zero index place = unit_writes first decls (3 ∷ []) index (filled number) (At place)
written_by (first ∷ rest) decls number (suc unit) index place = written_by rest decls number unit index place

abbrev pub writes_to : List PlainDecl → ℕ → ℕ → ℕ → Location → Option ℕ → Option BitWord
writes_to decls number unit index at its = written_by (units_of decls) decls number unit index (place at its)

-- what a location holds after all instances, where everything held a number
abbrev pub after_all : List PlainDecl → ℕ → Location → Option ℕ → BitWord
after_all decls number at its =
    after_instances (instances (units_of decls) (nth_size (3 ∷ []))) decls (3 ∷ []) (filled number) (At (place at its))

-- `if (hdr.h.a == 0) { if (hdr.h.b == 1) { hdr.h.a = 1; hdr.h.b = 2; } } else { if (hdr.h.b == 3) { hdr.h.a = 4; hdr.h.b = 5; } }`
abbrev pub branches_in_branches : List PlainDecl
branches_in_branches =
    small (when_else (is a 0) (when (is b 1) (assign a 1 ∷ assign b 2 ∷ []) ∷ []) (when (is b 3) (assign a 4 ∷ assign b 5 ∷ []) ∷ []) ∷ [])

-- two symbols `s` and `t` with an array each, and `for (j < t) { if (meta.f[j] == 0) { meta.f[j] = 1; meta.f[j] = 2; } }`
abbrev pub f : Lval
f = lval.Meta (codes "f") (Some (codes "j"))

abbrev pub second_symbol : List PlainDecl
second_symbol =
    source_frame (PlainDecl.Symbol (codes "s") ∷ PlainDecl.Symbol (codes "t") ∷ []) (bits 8 (codes "a") ∷ [])
    (array 8 (codes "s") (codes "e") ∷ array 16 (codes "t") (codes "f") ∷ []) [] []
    (PlainStmt.For (codes "j") (codes "t") (stmts (when (is f 0) (assign f 1 ∷ assign f 2 ∷ []) ∷ [])) ∷ [])

-- `ra.write(0, hdr.h.a);`, where `ra` has 4 cells
abbrev pub only_writes : List PlainDecl
only_writes =
    source_frame [] (bits 8 (codes "a") ∷ []) [] (PlainDecl.Register (codes "ra") 8 (amount.Num 4) None ∷ []) []
    (PlainStmt.Write (plain_register (codes "ra")) (bare 0) (get a) ∷ [])

-- a table over `hdr.h.a` and `hdr.h.c` with two actions: `more(n)` adds 1 to `n`, and `sums()` has two operators
abbrev pub more_action : PlainAction
more_action =
    record {
      name = codes "more";
      index = None;
      params = record { name = codes "n"; width = 8 } ∷ [];
      body = stmts (PlainStmt.Assign a (binary Plus (PlainExpr.Named (codes "n")) (bare 1)) ∷ []);
    }

abbrev pub sums_action : PlainAction
sums_action =
    record {
      name = codes "sums";
      index = None;
      params = [];
      body = stmts (PlainStmt.Assign b (binary Plus (binary Plus (get b) (get a)) (bare 1)) ∷ []);
    }

abbrev pub two_actions : PlainTable
two_actions =
    record {
      name = codes "t";
      keys = record { field = a; ternary = false } ∷ record { field = in_header (codes "c"); ternary = false } ∷ [];
      actions = codes "more" ∷ codes "sums" ∷ [];
      entries =
          record {
            keys = PlainKeyset.One (bare 1) ∷ PlainKeyset.One (bare 2) ∷ [];
            action = codes "sums";
            args = [];
          }
          ∷ [];
      fallback = None;
      size = Some 3;
    }

abbrev pub with_two_actions : List PlainDecl
with_two_actions =
    source_frame [] (bits 8 (codes "a") ∷ bits 8 (codes "b") ∷ bits 16 (codes "c") ∷ []) [] []
    (PlainLocal.OfAction more_action ∷ PlainLocal.OfAction sums_action ∷ PlainLocal.OfTable two_actions ∷ [])
    (when (is b 0) (PlainStmt.Apply (codes "t") ∷ []) ∷ [])

abbrev pub at_c : Location
at_c = location.Header (codes "h") (codes "c")
