-- The unit that is made of a piece is that of the program.
use Rattle.std.proofs.Common.{◌≡◌, ℕ, ◌+◌, Bool, List, ◌++◌, append_assoc, Option, Some, None, is_some, refl, sym, ap, ◌∙◌, arith}
use Rattle.std.specs.Prelude.{option_map, unwrap_or}
use Rattle.elastic_ast.specs.declared.flat.Location.{Location}
use Rattle.elastic_ast.specs.declared.flat.Cells.{Cells}
use Rattle.elastic_ast.specs.declared.flat.Lit.{Lit}
use Rattle.elastic_ast.specs.Tree.{PlainDecl, PlainExpr}
use Rattle.elastic_ast.specs.Units.PlainUnits.{PlainWork}
use Rattle.elastic_ast.specs.Units.Reach.{exprs_read, lits_read, each_once, piece_reads, piece_writes}
use Rattle.elastic_ast.specs.Units.Costs.{guard_ops, piece_ops}
use Rattle.unit_parts.specs.declared.callee.Summary.{Summary}
use Rattle.unit_parts.specs.Capped.{capped}
use Rattle.unit_parts.specs.Called.{callee_reads, callee_assigns, greatest_ops, own_reads, own_assigns, own_ops, called, table_called, actions_called}
use Rattle.unit_parts.specs.declared.pieces.InLoop.{InLoop}
use Rattle.unit_parts.specs.SeenPieces.{seen_loop}
use Rattle.unit_parts.specs.Summaries.{IsSummary}
use Rattle.unit_parts.proofs.CalledLaws.{reads_are, writes_are, ops_are}
use Rattle.unit_parts.proofs.GatheredLaws.{once_behind}
use Rattle.unit_parts.specs.declared.assembly.Found.{Found}
use Rattle.unit_parts.specs.declared.assembly.Needs.{Needs}
use Rattle.unit_parts.specs.Spread.{PieceAround}
use Rattle.unit_parts.specs.UnitAt.{unit_at}
use Rattle.unit_parts.specs.UnitFrom.{unit_from, AreNeeds, IsFound}

regrouped : (a b c d : List Location) → a ++ (b ++ (c ++ d)) ≡ (a ++ (b ++ c)) ++ d
regrouped a b c d = ap (λ z. a ++ z) (sym (append_assoc b c d)) ∙ sym (append_assoc a (b ++ c) d)

capped_within : (a b c : ℕ) → capped (a + (b + capped c)) ≡ capped (a + (b + c))
capped_within a b c = omega arith

pub unit_is : (decls : List PlainDecl) (at : PieceAround) (needs : Needs) (given : Found) → AreNeeds decls at needs → IsFound decls at given → unit_from at needs given ≡ unit_at decls at
unit_is decls at needs given known declared = λ i. record {
  lits = at.piece.lits;
  conds = at.piece.conds;
  work = at.piece.work;
  loop_no = option_map (λ loop. loop.number) at.around;
  size = declared.size i;
  index = option_map (λ loop. loop.index) at.around;
  stage = at.piece.stage;
  reads = known.reads i;
  writes = known.writes i;
  cells = option_map (λ (kept : Cells × ℕ). kept.0) (declared.kept i);
  cell_width = unwrap_or (option_map (λ (kept : Cells × ℕ). kept.1) (declared.kept i)) 0;
  cost = known.cost i;
  ops = known.ops i;
  table_bits = declared.table_bits i;
  ternary_bits = declared.ternary_bits i;
}

module _ (decls : List PlainDecl) (lits : List Lit) (conds : List PlainExpr) (work : PlainWork) (summary : Summary) (known : IsSummary (table_called decls (called work)) (actions_called decls (called work)) summary) where
  pub reads_with : each_once (lits_read lits ++ (exprs_read conds ++ (own_reads work ++ summary.reads))) ≡ piece_reads decls lits conds work
  reads_with =
      ap each_once (regrouped (lits_read lits) (exprs_read conds) (own_reads work) summary.reads ∙ ap (λ z. (lits_read lits ++ (exprs_read conds ++ own_reads work)) ++ z) known.reads)
      ∙ once_behind (lits_read lits ++ (exprs_read conds ++ own_reads work)) (callee_reads (table_called decls (called work)) (actions_called decls (called work)))
      ∙ ap each_once (sym (regrouped (lits_read lits) (exprs_read conds) (own_reads work) (callee_reads (table_called decls (called work)) (actions_called decls (called work)))))
      ∙ reads_are decls lits conds work

  pub writes_with : (own : Bool) → each_once (own_assigns own work ++ summary.writes) ≡ piece_writes decls own work
  writes_with own =
      ap (λ z. each_once (own_assigns own work ++ z)) known.writes ∙ once_behind (own_assigns own work) (callee_assigns (actions_called decls (called work)))
      ∙ writes_are decls own work

  pub ops_with : capped (guard_ops lits conds + (own_ops work + summary.ops)) ≡ capped (piece_ops decls lits conds work)
  ops_with =
      ap (λ z. capped (guard_ops lits conds + (own_ops work + z))) known.ops ∙ capped_within (guard_ops lits conds) (own_ops work) (greatest_ops (actions_called decls (called work)))
      ∙ ap capped (ops_are decls lits conds work)

-- a piece in a loop is own, however the loop is told
pub own_around : (decls : List PlainDecl) (around : Option InLoop) (work : PlainWork) → piece_writes decls (is_some around) work ≡ piece_writes decls (is_some (option_map seen_loop around)) work
own_around decls None work = refl
own_around decls (Some around) work = refl
