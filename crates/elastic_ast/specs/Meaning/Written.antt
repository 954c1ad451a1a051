-- What a statement writes that has no statements in it: an assignment, a read or a write of a register, the change of a
-- header's validity, a call of an action, the application of a table (P4-16 language specification 1.2.3, its sections on
-- statements, actions and tables; registers are this project's own).
use Rattle.std.specs.Prelude.{ℕ, List, [], ◌∷◌, get_or, slice_set, is_some, Option, Some, None}
use Rattle.elastic_ast.specs.Typing.LanguageLimits.{cell_number_width}
use Rattle.elastic_ast.specs.declared.statements.Lval.{Lval}
use Rattle.elastic_ast.specs.declared.statements.RegRef.{RegRef}
use Rattle.elastic_ast.specs.declared.declarations.Param.{Param}
use Rattle.elastic_ast.specs.Tree.{PlainDecl, PlainExpr, PlainStmt, PlainStmts, PlainAction, PlainTable}
use Rattle.elastic_ast.specs.Containers.LocationPlaces.{index_at, place_of_lval, valid_place}
use Rattle.elastic_ast.specs.Typing.LookUps.{register_width, action_of, table_of}
use Rattle.elastic_ast.specs.Typing.Types.{Bits, bits_of, of_width, width_of_type, lval_type}
use Rattle.elastic_ast.specs.Meaning.Memory.{Memory, Reg, Writes, nothing, over, and_then, put, store}
use Rattle.elastic_ast.specs.Meaning.Values.{Setting, bit, value}
use Rattle.elastic_ast.specs.Meaning.Matches.{Run, chosen}

-- outside of actions: no parameters
abbrev pub outside : List PlainDecl → List ℕ → Option ℕ → Setting
outside decls sizes index = record { decls = decls; sizes = sizes; params = []; args = []; index = index }

-- in an action, at its arguments: the index is that around its call
abbrev pub inside : Setting → List Param → List ℕ → Setting
inside setting params args = record { decls = setting.decls; sizes = setting.sizes; params = params; args = args; index = setting.index }

-- only a register of an array has the index around it
abbrev pub register_index : RegRef → Option ℕ → Option ℕ
register_index register index = index_at (is_some register.index) index

-- the numbers in the cells of a register
abbrev pub cells_at : Setting → Memory → RegRef → List ℕ
cells_at setting memory register = memory (Reg register.name (register_index register setting.index))

-- a number is assigned, in the width of what it is assigned to
abbrev pub assigned : Setting → Lval → ℕ → Writes
assigned setting to number = put (place_of_lval to setting.index) (width_of_type (lval_type setting.decls to), number)

-- what a plain statement writes. A cell outside a register reads 0, and a write to one does nothing.
abbrev pub plain_writes : Setting → Memory → PlainStmt → Writes
plain_writes setting memory (PlainStmt.Assign to number) =
    assigned setting to (value setting memory number (lval_type setting.decls to))
plain_writes setting memory (PlainStmt.Read to register cell) =
    assigned setting to (get_or (cells_at setting memory register) (value setting memory cell (Bits cell_number_width)) 0)
plain_writes setting memory (PlainStmt.Write register cell number) =
    store register.name (register_index register setting.index)
    (slice_set (cells_at setting memory register) (value setting memory cell (Bits cell_number_width))
    (value setting memory number (of_width (register_width setting.decls register.name))))
plain_writes setting memory (PlainStmt.Valid header on) = put (valid_place header) (1, bit on)
plain_writes setting memory _ = nothing

-- what plain statements write, one after the other
abbrev pub body_writes : Setting → Memory → PlainStmts → Writes
body_writes setting memory PlainStmts.nil = nothing
body_writes setting memory (PlainStmts.cons first rest) =
    let writes = plain_writes setting memory first in
    and_then writes (body_writes setting (over writes memory) rest)

-- the values of arguments, each in the width of its parameter
abbrev pub arguments : Setting → Memory → List Param → List PlainExpr → List ℕ
arguments setting memory (param ∷ params) (arg ∷ args) = value setting memory arg (bits_of param.width) ∷ arguments setting memory params args
arguments setting memory _ _ = []

abbrev pub action_writes : Setting → Memory → List PlainExpr → Option PlainAction → Writes
action_writes setting memory args (Some action) =
    body_writes (inside setting action.params (arguments setting memory action.params args)) memory action.body
action_writes setting memory args None = nothing

-- what an action writes at its arguments, which are evaluated first. `NoAction` isn't declared and writes nothing.
abbrev pub run_writes : Setting → Memory → Option Run → Writes
run_writes setting memory (Some run) = action_writes setting memory run.1 (action_of setting.decls run.0)
run_writes setting memory None = nothing

abbrev pub table_writes : Setting → Memory → Option PlainTable → Writes
table_writes setting memory (Some table) = run_writes setting memory (chosen setting memory table)
table_writes setting memory None = nothing

-- what a statement writes, at sizes, with the index of the loop around it; statements with statements in them write
-- through these alone
abbrev pub leaf_writes : PlainStmt → List PlainDecl → List ℕ → Option ℕ → Memory → Writes
leaf_writes (PlainStmt.Call action at args) decls sizes index memory = run_writes (outside decls sizes index) memory (Some (action, args))
leaf_writes (PlainStmt.Apply table) decls sizes index memory = table_writes (outside decls sizes index) memory (table_of decls table)
leaf_writes statement decls sizes index memory = plain_writes (outside decls sizes index) memory statement
