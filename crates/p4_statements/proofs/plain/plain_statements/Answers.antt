use Rattle.std.proofs.lemmas.Result.{IfOk-weaker}
use Rattle.spelling.proofs.Bounds.{line_opens}
use Rattle.std.proofs.Common.{arith, codes, map, rules}
use Rattle.p4_statements.specs.Reading.{HasFew, HaveFew, LinePassed}
use Rattle.p4_statements.proofs.Lists.{ends_there, few_listed, listed, reading_joined, take_listed, take_plains}
use Rattle.p4_expr.proofs.Bound.{bound_as, bound_opens}
use Rattle.p4_statements.proofs.Ahead.{plain_no_sign}
use Rattle.p4_expr.specs.Passing.{BoundPassed}
use Rattle.spelling.proofs.ByParts.{few_up_to}
use Rattle.elastic_ast.specs.Seen.{joined, seen_stmt}
use Rattle.spelling.specs.Bounds.{Opens}
use Rattle.p4_statements.proofs.StatementsWithin.{plain_stays}
use Rattle.p4_statements.proofs.plain.plain_statements.Goals as goal

pub returns : goal.returns
returns c =
    let depth = c.args.depth in
    let r = few_up_to {seen = seen_stmt} HasFew {All = λ ss. HaveFew (joined ss)} (LinePassed depth) {Whole = λ a b. BoundPassed (Opens depth) 0 a b} few_listed
    record { none = λ more one later a b m at. plain_no_sign more one (codes "}") m at } (plain_stays depth)
    (λ a b d m p. bound_opens depth 0 depth 0 0 (omega arith) (omega arith) m (bound_as (line_opens depth) (omega arith) p)) (λ old new r call. search rules) c.until_closed.ensures in
    record {
      taken = IfOk-weaker c.until_closed.result _ _ (λ stmts t. take_plains depth (map seen_stmt stmts) t) r.taken;
      few = r.few;
      ended = ends_there c.until_closed.ensures;
      only = λ more stmts rest m ends. reading_joined more depth stmts rest _ c.until_closed.result (r.only more (listed stmts) rest (take_listed more stmts m) ends);
      deep = r.deep;
    }
