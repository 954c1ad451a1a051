-- A small program, and what statements do in it, for the equations that show what statements mean; this project's own.
use Rattle.std.specs.Prelude.{ℕ, true, List, [], ◌∷◌, Option, Some, None, codes}
use Rattle.elx_bits.specs.Words.{BitWord}
use Rattle.elastic_ast.specs.declared.declarations.Field.{Field}
use Rattle.elastic_ast.specs.declared.statements.Amount.TheVariants as amount
use Rattle.elastic_ast.specs.declared.statements.Lval.{Lval}
use Rattle.elastic_ast.specs.declared.statements.Lval.TheVariants as lval
use Rattle.elastic_ast.specs.declared.statements.RegRef.{RegRef}
use Rattle.elastic_ast.specs.Tree.{Name, PlainDecl, PlainExpr, PlainStmt, PlainStmts, PlainKeyset, PlainEntry, PlainAction, PlainTable, PlainLocal, PlainNext, PlainState}
use Rattle.elastic_ast.specs.OperatorSorts.{Equal, Plus, binary}
use Rattle.elastic_ast.specs.Containers.LocationPlaces.{place_of_lval}
use Rattle.elastic_ast.specs.Meaning.Memory.{Memory, Cells, At, Reg, held}
use Rattle.elastic_ast.specs.Meaning.StatementMeaning.{statements_meaning}
use Rattle.elastic_ast.specs.Packets.Locations.{zero_words}
use Rattle.elastic_laws.specs.Examples.WorkedValues.{bare}

abbrev pub stmts : List PlainStmt → PlainStmts
stmts [] = PlainStmts.nil
stmts (first ∷ rest) = PlainStmts.cons first (stmts rest)

abbrev pub byte_field : Name → Option Name → Field
byte_field name size = record { name = name; width = 8; size = size }

-- `meta.x`, `meta.a[i]`, `hdr.h.v` and the fields of `std`
abbrev pub x : Lval
x = lval.Meta (codes "x") None

abbrev pub element : Lval
element = lval.Meta (codes "a") (Some (codes "i"))

abbrev pub v : Lval
v = lval.Header (codes "h") (codes "v")

abbrev pub dropped : Lval
dropped = lval.Std (codes "drop")

abbrev pub in_port : Lval
in_port = lval.Std (codes "in_port")

abbrev pub out_port : Lval
out_port = lval.Std (codes "out_port")

abbrev pub r : RegRef
r = record { name = codes "r"; index = None }

-- `hdr.h` is extracted. Its field leads on: 7 to `reject`, 8 to another state, and each other number below 16 to `accept`.
abbrev pub start_state : PlainState
start_state =
    record {
      name = codes "start";
      extracts = codes "h" ∷ [];
      next =
          PlainNext.Select (PlainExpr.At v)
          ((PlainKeyset.One (bare 7), codes "reject")
          ∷ (PlainKeyset.One (bare 8), codes "more")
          ∷ (PlainKeyset.Masked (bare 0) (bare 0xf0), codes "accept")
          ∷ []);
    }

-- `hdr.g` is extracted
abbrev pub more_state : PlainState
more_state = record { name = codes "more"; extracts = codes "g" ∷ []; next = PlainNext.To (codes "accept") }

-- `set(n)` gives `meta.x` the number 100, and then adds `n`
abbrev pub set_action : PlainAction
set_action =
    record {
      name = codes "set";
      index = None;
      params = record { name = codes "n"; width = 8 } ∷ [];
      body = stmts (PlainStmt.Assign x (bare 100) ∷ PlainStmt.Assign x (binary Plus (PlainExpr.At x) (PlainExpr.Named (codes "n"))) ∷ []);
    }

abbrev pub program_entry : PlainKeyset → ℕ → PlainEntry
program_entry set number = record { keys = set ∷ []; action = codes "set"; args = bare number ∷ [] }

-- a table over `hdr.h.v`: the first entry matches odd numbers, the second one the number 3
abbrev pub table : Name → Option (Name × List PlainExpr) → PlainTable
table name fallback =
    record {
      name = name;
      keys = record { field = v; ternary = true } ∷ [];
      actions = codes "set" ∷ [];
      entries = program_entry (PlainKeyset.Masked (bare 1) (bare 1)) 10 ∷ program_entry (PlainKeyset.One (bare 3)) 20 ∷ program_entry (PlainKeyset.One (bare 4)) 40 ∷ [];
      fallback = fallback;
      size = None;
    }

abbrev pub with_body : List PlainStmt → List PlainDecl
with_body body =
    PlainDecl.Symbol (codes "s")
    ∷ PlainDecl.Header (codes "h_t") (byte_field (codes "v") None ∷ byte_field (codes "w") None ∷ [])
    ∷ PlainDecl.Headers ((codes "h_t", codes "h") ∷ (codes "h_t", codes "g") ∷ [])
    ∷ PlainDecl.Meta (byte_field (codes "x") None ∷ byte_field (codes "a") (Some (codes "s")) ∷ [])
    ∷ PlainDecl.Register (codes "r") 8 (amount.Num 2) None
    ∷ PlainDecl.Parser (codes "p") (start_state ∷ more_state ∷ [])
    ∷ PlainDecl.Control (codes "c") (PlainLocal.OfAction set_action ∷ PlainLocal.OfTable (table (codes "t") None) ∷ PlainLocal.OfTable (table (codes "u") (Some (codes "set", bare 60 ∷ []))) ∷ []) (stmts body)
    ∷ PlainDecl.Deparser (codes "d") (codes "h" ∷ codes "g" ∷ [])
    ∷ PlainDecl.Main (codes "p") (codes "c") (codes "d")
    ∷ []

-- one register, of the cells 11 and 12
abbrev pub two_cells : Cells
two_cells name index = 11 ∷ 12 ∷ []

-- the memory after statements, at this size of `s`, where all was 0
abbrev pub memory_after : ℕ → List PlainStmt → Memory
memory_after size body =
    statements_meaning (stmts body) (with_body []) (size ∷ []) None (held (zero_words (with_body []) (size ∷ [])) two_cells)

-- `meta.x` after statements, in its width
abbrev pub x_after : ℕ → List PlainStmt → BitWord
x_after size body = memory_after size body (At (place_of_lval x None))

abbrev pub element_after : ℕ → List PlainStmt → ℕ → BitWord
element_after size body index = memory_after size body (At (place_of_lval element (Some index)))

abbrev pub cells_after : ℕ → List PlainStmt → List ℕ
cells_after size body = memory_after size body (Reg (codes "r") None)

abbrev pub assign : Lval → ℕ → PlainStmt
assign to number = PlainStmt.Assign to (bare number)

abbrev pub increase : Lval → ℕ → PlainStmt
increase to number = PlainStmt.Assign to (binary Plus (PlainExpr.At to) (bare number))

abbrev pub is : Lval → ℕ → PlainExpr
is at number = binary Equal (PlainExpr.At at) (bare number)
