-- Small programs that break one rule of types alone, and typed ones that look as if they broke it; this project's own.
use Rattle.std.specs.Prelude.{◌≡◌, ℕ, Bool, true, false, List, [], ◌∷◌, ◌++◌, map, option_map, Option, Some, None, codes}
use Rattle.elastic_ast.specs.declared.rule.Rule.{Rule}
use Rattle.elastic_ast.specs.declared.statements.Amount.TheVariants as amount
use Rattle.elastic_ast.specs.declared.statements.Lval.{Lval}
use Rattle.elastic_ast.specs.declared.statements.Lval.TheVariants as lval
use Rattle.elastic_ast.specs.declared.declarations.Field.{Field}
use Rattle.elastic_ast.specs.declared.declarations.Rel.TheVariants.{Ge}
use Rattle.elastic_ast.specs.declared.declarations.UtilTerm.TheVariants.{Steps}
use Rattle.elastic_ast.specs.Tree.{Name, PlainDecl, PlainExpr, PlainStmt, PlainKeyset, PlainEntry, PlainLocal, PlainNext, PlainState}
use Rattle.elastic_ast.specs.OperatorSorts.{Equal, ShiftUp, Plus, Turn, binary, unary}
use Rattle.elastic_ast.specs.Typing.Typed.{Breaks}
use Rattle.elastic_laws.specs.Examples.WorkedValues.{bare}
use Rattle.elastic_laws.specs.Examples.WorkedProgram.{stmts, x, v, r, assign, byte_field}

-- the declaration with this number breaks the rule, and whatever the program breaks is this rule
abbrev pub BreaksOnly : List PlainDecl → Rule → ℕ → Type 0
BreaksOnly decls rule number = Breaks false decls rule number × ((other : Rule) (at : ℕ) → Breaks false decls other at → other ≡ rule)

abbrev pub state : Name → List Name → PlainNext → PlainState
state name extracts next = record { name = name; extracts = extracts; next = next }

abbrev pub goes_to : Name → Name → PlainState
goes_to name next = state name [] (PlainNext.To next)

abbrev pub start : Name
start = codes "start"

abbrev pub accept : Name
accept = codes "accept"

-- `hdr.h` with its byte `v`, `meta` with these fields, a parser, a control and a deparser
abbrev pub frame : List PlainDecl → List Field → List PlainDecl → List PlainState → List PlainLocal → List PlainStmt → List PlainDecl
frame before fields registers states locals body =
    before ++ (PlainDecl.Header (codes "h_t") (byte_field (codes "v") None ∷ [])
    ∷ PlainDecl.Headers ((codes "h_t", codes "h") ∷ [])
    ∷ PlainDecl.Meta fields
    ∷ registers ++ (PlainDecl.Parser (codes "p") states
    ∷ PlainDecl.Control (codes "c") locals (stmts body)
    ∷ PlainDecl.Deparser (codes "d") (codes "h" ∷ [])
    ∷ PlainDecl.Main (codes "p") (codes "c") (codes "d")
    ∷ []))

-- the byte `meta.x` and the word `meta.y` of 32 bits
abbrev pub byte_and_word : List Field
byte_and_word = byte_field (codes "x") None ∷ record { name = codes "y"; width = 32; size = None } ∷ []

abbrev pub taking_h : List PlainState
taking_h = state start (codes "h" ∷ []) (PlainNext.To accept) ∷ []

-- Statements in a body. The control is declaration 4.
abbrev pub doing : List PlainStmt → List PlainDecl
doing body = frame [] byte_and_word [] taking_h [] body

-- Statements in a body behind actions and tables. The control is declaration 4.
abbrev pub with_locals : List PlainLocal → List PlainStmt → List PlainDecl
with_locals locals body = frame [] byte_and_word [] taking_h locals body

-- Statements with a register `r` of four bytes, which is declaration 3. The control is declaration 5.
abbrev pub program_with_register : List PlainLocal → List PlainStmt → List PlainDecl
program_with_register locals body = frame [] byte_and_word (PlainDecl.Register (codes "r") 8 (amount.Num 4) None ∷ []) taking_h locals body

-- Statements with the symbols `s` and `t` and the arrays `meta.a` of size `s` and `meta.b` of size `t`. The control is
-- declaration 6.
abbrev pub sized : List PlainLocal → List PlainStmt → List PlainDecl
sized locals body =
    frame (PlainDecl.Symbol (codes "s") ∷ PlainDecl.Symbol (codes "t") ∷ [])
    (byte_field (codes "a") (Some (codes "s")) ∷ byte_field (codes "b") (Some (codes "t")) ∷ byte_and_word) [] taking_h locals body

-- A parser with these states, which is declaration 3.
abbrev pub parsing : List PlainState → List PlainDecl
parsing states = frame [] byte_and_word [] states [] []

abbrev pub y : Lval
y = lval.Meta (codes "y") None

abbrev pub by_name : Name → PlainExpr
by_name name = PlainExpr.Named name

abbrev pub set_x : PlainExpr → PlainStmt
set_x value = PlainStmt.Assign x value

abbrev pub sum : PlainExpr → PlainExpr → PlainExpr
sum left right = binary Plus left right

abbrev pub shifted : PlainExpr → PlainExpr → PlainExpr
shifted left right = binary ShiftUp left right

abbrev pub equal : PlainExpr → PlainExpr → PlainExpr
equal left right = binary Equal left right

abbrev pub inverted : PlainExpr → PlainExpr
inverted value = unary Turn value

abbrev pub is_valid : PlainExpr
is_valid = PlainExpr.IsValid (codes "h")

abbrev pub loop_over : Name → List PlainStmt → PlainStmt
loop_over size body = PlainStmt.For (codes "i") size (stmts body)

-- an action of this name without index and parameters
abbrev pub plain_action : Name → List PlainStmt → PlainLocal
plain_action name body = PlainLocal.OfAction (record { name = name; index = None; params = []; body = stmts body })

-- one with an index `i`
abbrev pub indexed_action : Name → List PlainStmt → PlainLocal
indexed_action name body = PlainLocal.OfAction (record { name = name; index = Some (codes "i"); params = []; body = stmts body })

-- one with a parameter `n` of 8 bits
abbrev pub action_of_n : Name → List PlainStmt → PlainLocal
action_of_n name body = PlainLocal.OfAction (record { name = name; index = None; params = record { name = codes "n"; width = 8 } ∷ []; body = stmts body })

abbrev pub call : Name → List PlainExpr → PlainStmt
call name args = PlainStmt.Call name None args

abbrev pub read_r : PlainStmt
read_r = PlainStmt.Read x r (bare 0)

abbrev pub write_r : PlainStmt
write_r = PlainStmt.Write r (bare 0) (bare 1)

-- a table `t` over the byte `hdr.h.v` with these actions, these entries without arguments, this default action and this size
abbrev pub table_of_v : Bool → List Name → List (PlainKeyset × Name) → Option Name → Option ℕ → PlainLocal
table_of_v ternary actions entries fallback size =
    PlainLocal.OfTable
    (record {
      name = codes "t";
      keys = record { field = v; ternary = ternary } ∷ [];
      actions = actions;
      entries = map (λ (entry : PlainKeyset × Name). let made : PlainEntry = record { keys = entry.0 ∷ []; action = entry.1; args = [] } in made) entries;
      fallback = option_map (λ (name : Name). let run : Name × List PlainExpr = (name, []) in run) fallback;
      size = size;
    })

-- `t` with an exact key, the action `one`, and one entry
abbrev pub exact_table : PlainKeyset → PlainLocal
exact_table set = table_of_v false (codes "one" ∷ []) ((set, codes "one") ∷ []) None None

abbrev pub ternary_table : PlainKeyset → PlainLocal
ternary_table set = table_of_v true (codes "one" ∷ []) ((set, codes "one") ∷ []) None None

-- `one()` sets `meta.x` to 1
abbrev pub one : PlainLocal
one = plain_action (codes "one") (assign x 1 ∷ [])

abbrev pub at_least_one : Name → PlainDecl
at_least_one symbol =
    PlainDecl.Assume
    (record {
      left = record { minus = false; by = 1; symbol = Some symbol } ∷ [];
      rel = Ge;
      right = record { minus = false; by = 1; symbol = None } ∷ [];
    }
    ∷ [])

abbrev pub constant : Name → ℕ → ℕ → PlainDecl
constant name width value = PlainDecl.Const name width value

abbrev pub hash_below : ℕ → PlainExpr
hash_below modulus = PlainExpr.Hash (amount.Num 0) (PlainExpr.At x) (amount.Num modulus)

abbrev pub steps : List (ℕ × ℕ) → List PlainDecl
steps pairs = PlainDecl.Symbol (codes "s") ∷ PlainDecl.Maximize (Steps false (codes "s") pairs ∷ []) ∷ []

abbrev pub width_field : ℕ → Field
width_field width = record { name = codes "f"; width = width; size = None }
