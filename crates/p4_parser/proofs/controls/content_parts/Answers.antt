use Rattle.p4_statements.specs.ExpressionsIn.{expressions_of_all}
use Rattle.p4_parser.proofs.Reaching.{reaches_all, reaches_past}
use Rattle.elastic_ast.specs.Seen.{seen_local, seen_stmts}
use Rattle.spelling.proofs.Balance.{stays_each}
use Rattle.std.proofs.Common.{arith, map}
use Rattle.std.proofs.lemmas.List.Elements.{All-append}
use Rattle.spelling.proofs.Only.{after, begins_first, wants}
use Rattle.p4_expr.specs.Expressions.{HasFewOperators}
use Rattle.spelling.proofs.Bounds.{even, if_deep}
use Rattle.p4_parser.specs.ExpressionsIn.{expressions_of_local}
use Rattle.spelling.proofs.Refusals.{refused_few}
use Rattle.spelling.proofs.AllOf.{all_back, all_front}
use Rattle.p4_parser.proofs.ControlSpelling.{same_contents}
use Rattle.spelling.proofs.Limits.{or_as}
use Rattle.spelling.proofs.Taking.{may_takes}
use Rattle.std.specs.Prelude.{flat_map}
use Rattle.p4_parser.proofs.DeclarationsWithin.{local_stays}
use Rattle.p4_parser.specs.Declarations.{SpellsLocal}
use Rattle.p4_parser.proofs.controls.content_parts.Goals as goal

pub returns-in_err-locals : goal.returns-in_err-locals
returns-in_err-locals c =
    refused_few _ c.from_residual.ensures.1
    (λ more contents rest m. wants m (λ b f s. or_as _ _ _ (λ few. (few.0, all_front HasFewOperators (flat_map expressions_of_local contents.0) (expressions_of_all contents.1) few.1)) (c.in_err-locals.ensures.only more contents.0 b f (begins_first s))))
    (if_deep _ (λ p. reaches_all (omega arith) p) c.in_err-locals.ensures.deep)

pub returns-in_err-body : goal.returns-in_err-body
returns-in_err-body c =
    let depth = c.args.depth in
    let front = even depth (stays_each (SpellsLocal depth) (local_stays depth) (map seen_local c.in_ok-locals.locals)) c.in_ok-locals.ensures.taken in
    refused_few _ c.from_residual-in_err-body.ensures.1
    (λ more contents rest m.
    let m1 = after m (λ b f s. c.in_ok-locals.ensures.only more contents.0 b f (begins_first s)) in
    or_as _ _ _ (λ few. (few.0, all_back HasFewOperators (flat_map expressions_of_local contents.0) (expressions_of_all contents.1) few.1)) (c.in_err-body.ensures.only more contents.1 rest m1.1))
    (if_deep _ (λ p. reaches_past depth 0 depth 1 1 (omega arith) (omega arith) front p) c.in_err-body.ensures.deep)

pub returns : goal.returns
returns c =
    record {
      taken = may_takes c.in_ok-locals.ensures.taken c.in_ok-body.ensures.taken;
      few = All-append HasFewOperators (flat_map expressions_of_local (map seen_local c.in_ok-locals.locals)) (expressions_of_all (seen_stmts c.in_ok-body.body)) c.in_ok-locals.ensures.few c.in_ok-body.ensures.few;
      only = λ more contents rest m.
          let m1 = after m (λ b f s. c.in_ok-locals.ensures.only more contents.0 b f (begins_first s)) in
          let m2 = c.in_ok-body.ensures.only more contents.1 rest m1.1 in
          (same_contents m1.0 m2.0, m2.1);
      deep = tt;
    }
