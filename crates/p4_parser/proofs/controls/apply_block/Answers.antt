use Rattle.p4_statements.specs.Statements.{SpellsStmts}
use Rattle.elastic_ast.specs.Seen.{seen_stmts}
use Rattle.spelling.proofs.Balance.{stays_named}
use Rattle.std.proofs.Common.{arith, codes, refl, rules}
use Rattle.spelling.proofs.Bounds.{even}
use Rattle.p4_statements.specs.Reading.{HaveFew}
use Rattle.p4_parser.proofs.Reaching.{passes_apply, reaches_past}
use Rattle.spelling.proofs.ByParts.{around_few, behind_few}
use Rattle.p4_parser.proofs.controls.apply_block.Goals as goal

pub returns : goal.returns
returns c =
    let r = around_few {Of = SpellsStmts} {seen = seen_stmts} {Few = HaveFew} refl (passes_apply c.args.depth) (λ inner old new r call. search rules) c.around.ensures in
    behind_few c.fixed_name.new.self (λ b m p. reaches_past c.args.depth 0 c.args.depth 1 1 (omega arith) (omega arith) (even c.args.depth (stays_named (codes "apply")) m) p) c.in_ok-fixed_name.ensures.taken r
