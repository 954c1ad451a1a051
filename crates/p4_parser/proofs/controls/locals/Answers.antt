use Rattle.spelling.proofs.Refusals.{refused_few_up_to}
use Rattle.p4_parser.proofs.ControlSpelling.{apply_no_local, local_first}
use Rattle.spelling.proofs.AllOf.{each_of}
use Rattle.std.specs.Prelude.{flat_map}
use Rattle.std.proofs.Common.{◌≡◌, [], ◌∷◌, ◌++◌, ap, map, refl, subst, ◌∙◌, arith, All}
use Rattle.std.proofs.lemmas.List.{map-append}
use Rattle.elastic_ast.specs.Seen.{seen_local}
use Rattle.spelling.proofs.Limits.{or_as}
use Rattle.spelling.proofs.Only.{after, not_there, wants}
use Rattle.spelling.proofs.Taking.{each_more, may}
use Rattle.spelling.proofs.Whole.{left_more, none_left, one_left}
use Rattle.spelling.proofs.Bounds.{even, if_deep}
use Rattle.spelling.proofs.Balance.{stays_each}
use Rattle.p4_expr.specs.Expressions.{HasFewOperators}
use Rattle.p4_expr.proofs.Bound.{bound_opens}
use Rattle.p4_parser.specs.Declarations.{SpellsLocal}
use Rattle.p4_parser.specs.Reading.{BeginsLocal}
use Rattle.p4_parser.specs.ExpressionsIn.{expressions_of_local}
use Rattle.p4_parser.proofs.DeclarationsWithin.{local_stays}
use Rattle.p4_parser.proofs.controls.locals.Goals as goal

pub locals-preserved : goal.locals-preserved
locals-preserved c =
    let grown : map seen_local c.keep.new.items ≡ map seen_local c.locals.locals ++ seen_local c.in_ok-local.local ∷ [] = ap (map seen_local) c.in_ok-keep.ensures.ok ∙ map-append seen_local c.locals.locals (c.in_ok-local.local ∷ []) in
    record {
      taken = rw grown (each_more (SpellsLocal c.args.depth) (map seen_local c.locals.locals) (seen_local c.in_ok-local.local) c.locals.invariant.taken (may c.in_ok-local.ensures.taken));
      few = rw grown ((each_of HasFewOperators expressions_of_local).push (map seen_local c.locals.locals) (seen_local c.in_ok-local.local) c.locals.invariant.few c.in_ok-local.ensures.few);
      only = λ more all rest m named.
          let n = one_left (c.locals.invariant.only more all rest m named) (λ e. apply_no_local rest named (subst BeginsLocal e (c.locals-test.ensures.0 refl))) in
          let r = after n.ahead (λ b f s. c.in_ok-local.ensures.only more n.one b f) in
          left_more n grown r.0 r.1;
    }

pub returns-in_err-local : goal.returns-in_err-local
returns-in_err-local c =
    let front = even c.args.depth (stays_each (SpellsLocal c.args.depth) (local_stays c.args.depth) (map seen_local c.locals.locals)) c.locals.invariant.taken in
    refused_few_up_to _ c.from_residual.ensures.1
    (λ more all rest m named.
    let n = one_left (c.locals.invariant.only more all rest m named) (λ e. apply_no_local rest named (subst BeginsLocal e (c.locals-test.ensures.0 refl))) in
    wants n.ahead (λ b f s. or_as _ _ _ (λ few. (few.0, (each_of HasFewOperators expressions_of_local).next (map seen_local c.locals.locals) n.one n.later (subst (λ xs. All HasFewOperators (flat_map expressions_of_local xs)) n.whole few.1))) (c.in_err-local.ensures.only more n.one b f)))
    (if_deep _ (λ p. bound_opens c.args.depth 0 c.args.depth 1 1 (omega arith) (omega arith) front p) c.in_err-local.ensures.deep)

pub returns : goal.returns
returns c =
    record {
      taken = c.locals.invariant.taken;
      few = c.locals.invariant.few;
      only = λ more all rest m named. none_left (c.locals.invariant.only more all rest m named) (λ one later f. not_there c.locals-test.ensures.1 (local_first more one f));
      deep = tt;
    }
