-- What the pieces of a walk over a body show, and where a walk stands after it; this project's own.
use Rattle.std.specs.Prelude.{◌≡◌, ◌+◌, List, ◌++◌, map, false, None, option_map, is_some}
use denote.Bor.{Bor}
use Rattle.elastic_ast.specs.declared.statements.Expr.{Expr}
use Rattle.elastic_ast.specs.Tree.{PlainExpr, PlainStmt, PlainStmts}
use Rattle.elastic_ast.specs.Seen.{seen_expr, seen_stmt}
use Rattle.elastic_ast.specs.Units.PlainUnits.{PlainWork}
use Rattle.elastic_ast.specs.Units.Cuts.{Cuts, tests, alone, cut, cut_all}
use Rattle.elastic_ast.specs.Units.UnitsOf.{Around}
use Rattle.unit_parts.specs.declared.pieces.Task.{Task}
use Rattle.unit_parts.specs.declared.pieces.Task.TheVariants as task
use Rattle.unit_parts.specs.declared.pieces.InLoop.{InLoop}
use Rattle.unit_parts.specs.declared.pieces.Piece.{Piece}
use Rattle.unit_parts.specs.declared.cutting.Walk.{Walk}
use Rattle.unit_parts.specs.declared.cutting.Place.{Place}
use Rattle.unit_parts.specs.Spread.{PieceAround, standing, around_at, outside, spread, loops_in, put_under}

abbrev pub seen_task : Task → PlainWork
seen_task (task.Plain stmt) = PlainWork.Plain (seen_stmt stmt.now)
seen_task (task.Call stmt) = PlainWork.Call (seen_stmt stmt.now)
seen_task (task.Apply table) = PlainWork.Apply table.now
seen_task (task.Pred number condition) = PlainWork.Pred number (seen_expr condition.now)

abbrev pub seen_loop : InLoop → Around
seen_loop around = around_at around.number around.index.now around.size.now

abbrev pub seen_conds : List (Bor Expr) → List PlainExpr
seen_conds conds = map (λ cond. seen_expr cond.now) conds

abbrev pub seen_piece : Piece → PieceAround
seen_piece piece =
    standing (option_map seen_loop piece.around)
    (record { lits = piece.lits.items; conds = seen_conds piece.conds.items; work = seen_task piece.task; stage = piece.stage })

abbrev pub seen_pieces : List Piece → List PieceAround
seen_pieces pieces = map seen_piece pieces

-- a walk has passed what is cut so, at a place
pub record HasCut (old new : Walk) (place : Place) (cuts : Cuts) : Type 0 where
  pub pieces : seen_pieces new.pieces.items ≡ seen_pieces old.pieces.items ++ map (put_under place.lits.now (seen_conds place.conds.now)) (spread (option_map seen_loop place.around) old.loops cuts)
  pub number : new.number ≡ old.number + tests cuts
  pub loops : new.loops ≡ old.loops + loops_in (option_map seen_loop place.around) cuts

-- the pieces of the body of a control
abbrev pub pieces_in : PlainStmts → List PieceAround
pieces_in body = outside 0 (cut_all body false 0 None)

-- what a statement is cut into at a place, and statements
abbrev pub cut_at : Walk → Place → PlainStmt → Cuts
cut_at walk place stmt = cut stmt (is_some place.around) walk.number place.stage

abbrev pub cut_all_at : Walk → Place → PlainStmts → Cuts
cut_all_at walk place stmts = cut_all stmts (is_some place.around) walk.number place.stage

-- a walk has passed a piece that has no tests of its own, a statement, and statements
abbrev pub HasCutWork : Walk → Walk → Place → PlainWork → Type 0
HasCutWork old new place work = HasCut old new place (alone work place.stage)

abbrev pub HasCutStmt : Walk → Walk → Place → PlainStmt → Type 0
HasCutStmt old new place stmt = HasCut old new place (cut_at old place stmt)

abbrev pub HasCutStmts : Walk → Walk → Place → PlainStmts → Type 0
HasCutStmts old new place stmts = HasCut old new place (cut_all_at old place stmts)
