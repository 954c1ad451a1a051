use Rattle.elastic_ast.specs.Seen.{seen_stmts}
use Rattle.p4_statements.proofs.FewReading.{passes_opens}
use Rattle.std.proofs.Common.{arith, codes, refl, rules}
use Rattle.p4_statements.specs.Reading.{HaveFew}
use Rattle.spelling.proofs.ByParts.{around_few}
use Rattle.p4_statements.specs.Statements.{SpellsPlains}
use Rattle.p4_parser.proofs.actions.body.Goals as goal

pub returns : goal.returns
returns c = around_few {Of = SpellsPlains} {seen = seen_stmts} {Few = HaveFew} refl (passes_opens (codes "{") c.args.depth 0 1 refl (omega arith)) (λ inner old new r call. search rules) c.around.ensures
