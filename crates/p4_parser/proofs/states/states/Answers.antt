use Rattle.elastic_ast.specs.Seen.{seen_state}
use Rattle.p4_parser.specs.Reading.{StateHasFew}
use Rattle.p4_expr.proofs.Bound.{bound_opens}
use Rattle.std.proofs.Common.{arith, codes, rules}
use Rattle.spelling.specs.Bounds.{Opens}
use Rattle.p4_expr.specs.Passing.{BoundPassed}
use Rattle.p4_parser.specs.ExpressionsIn.{expressions_of_state}
use Rattle.p4_parser.proofs.StateSpelling.{state_no_sign}
use Rattle.p4_expr.specs.Expressions.{HasFewOperators}
use Rattle.spelling.proofs.ByParts.{few_up_to}
use Rattle.spelling.proofs.AllOf.{each_of}
use Rattle.p4_parser.proofs.DeclarationsWithin.{state_stays}
use Rattle.p4_parser.proofs.states.states.Goals as goal

pub returns : goal.returns
returns c =
    few_up_to {seen = seen_state} StateHasFew (BoundPassed (Opens c.args.depth) 1) (each_of HasFewOperators expressions_of_state)
    record { none = λ more one later a b m at. state_no_sign more one (codes "}") m at } (state_stays c.args.depth)
    (λ a b d m p. bound_opens c.args.depth 0 c.args.depth 1 1 (omega arith) (omega arith) m p) (λ old new r call. search rules) c.until_closed.ensures
