use Rattle.std.proofs.Common.{ap, ◌∙◌, is_some}
use Rattle.elastic_ast.specs.Units.Costs.{cost_of}
use Rattle.unit_parts.specs.Capped.{capped}
use Rattle.unit_parts.specs.SeenPieces.{seen_task, seen_conds}
use Rattle.unit_parts.proofs.UnitLaws.{own_around, reads_with, writes_with, ops_with}
use Rattle.unit_parts.proofs.assembly.needs_of.Goals as goal

pub returns : goal.returns
returns c decls known =
    let piece = c.args.piece.now in
    let work = seen_task piece.task in
    let lits = piece.lits.items in
    let conds = seen_conds piece.conds.items in
    let writes = c.in_ok-writes.ensures ∙ writes_with decls lits conds work c.args.callee.now known (is_some piece.around) in
    record {
      reads = c.in_ok-reads.ensures ∙ reads_with decls lits conds work c.args.callee.now known;
      writes = writes ∙ own_around decls piece.around work;
      cost = c.in_ok-cost.ensures _ (c.cost.ensures ∙ ap (λ z. capped (cost_of z)) (c.locations.ensures ∙ writes)) ∙ ap cost_of (own_around decls piece.around work);
      ops = c.in_ok-ops.ensures _ (c.operators_of.ensures ∙ ops_with decls lits conds work c.args.callee.now known);
    }
