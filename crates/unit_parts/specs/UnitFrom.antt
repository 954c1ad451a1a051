-- The unit that is made of a piece, of what it touches and takes, and of what is found for it by name; this project's own.
use Rattle.std.specs.Prelude.{◌≡◌, option_map, unwrap_or, List, is_some}
use Rattle.elastic_ast.specs.Tree.{PlainDecl}
use Rattle.elastic_ast.specs.Typing.Scope.{found}
use Rattle.elastic_ast.specs.Units.PlainUnits.{PlainUnit}
use Rattle.elastic_ast.specs.Units.Reach.{piece_reads, piece_writes}
use Rattle.elastic_ast.specs.Units.Costs.{piece_ops, cost_of, place_of_symbol, register_of, kept_by, exact_bits, masked_bits, table_applied}
use Rattle.unit_parts.specs.declared.assembly.Found.{Found}
use Rattle.unit_parts.specs.declared.assembly.Needs.{Needs}
use Rattle.unit_parts.specs.declared.callee.Summary.{Summary}
use Rattle.unit_parts.specs.declared.pieces.Piece.{Piece}
use Rattle.unit_parts.specs.Called.{called, table_called, actions_called}
use Rattle.unit_parts.specs.SeenPieces.{seen_task, seen_piece}
use Rattle.unit_parts.specs.Spread.{PieceAround}
use Rattle.unit_parts.specs.Summaries.{IsSummary}

abbrev pub unit_from : PieceAround → Needs → Found → PlainUnit
unit_from at needs found =
    record {
      lits = at.piece.lits;
      conds = at.piece.conds;
      work = at.piece.work;
      loop_no = option_map (λ loop. loop.number) at.around;
      size = found.size;
      index = option_map (λ loop. loop.index) at.around;
      stage = at.piece.stage;
      reads = needs.reads;
      writes = needs.writes;
      cells = option_map (λ kept. kept.0) found.kept;
      cell_width = unwrap_or (option_map (λ kept. kept.1) found.kept) 0;
      cost = needs.cost;
      ops = needs.ops;
      table_bits = found.table_bits;
      ternary_bits = found.ternary_bits;
    }

-- what a piece of a program touches and takes
pub record AreNeeds (decls : List PlainDecl) (at : PieceAround) (needs : Needs) : Type 0 where
  pub reads : needs.reads ≡ piece_reads decls at.piece.lits at.piece.conds at.piece.work
  pub writes : needs.writes ≡ piece_writes decls (is_some at.around) at.piece.work
  pub cost : needs.cost ≡ cost_of (piece_writes decls (is_some at.around) at.piece.work)
  pub ops : needs.ops ≡ piece_ops decls at.piece.lits at.piece.conds at.piece.work

-- what is declared under the names that it uses
pub record IsFound (decls : List PlainDecl) (at : PieceAround) (given : Found) : Type 0 where
  pub size : given.size ≡ option_map (λ loop. place_of_symbol decls loop.size) at.around
  pub kept : given.kept ≡ kept_by decls (found register_of (piece_writes decls (is_some at.around) at.piece.work))
  pub table_bits : given.table_bits ≡ exact_bits decls (table_applied decls at.piece.work)
  pub ternary_bits : given.ternary_bits ≡ masked_bits decls (table_applied decls at.piece.work)

-- the same with a summary of what the piece calls, in whatever program
abbrev pub NeedsWith : Piece → Summary → Needs → Type 0
NeedsWith piece summary needs =
    (decls : List PlainDecl) → IsSummary (table_called decls (called (seen_task piece.task))) (actions_called decls (called (seen_task piece.task))) summary
    → AreNeeds decls (seen_piece piece) needs
