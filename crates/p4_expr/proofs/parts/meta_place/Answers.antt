use Rattle.std.proofs.Common.{ap, arith, codes, ◌∙◌}
use Rattle.elastic_ast.specs.declared.statements.Lval.TheVariants as lval
use Rattle.spelling.proofs.Only.{after_one, named_same}
use Rattle.spelling.proofs.Taking.{takes_both, takes_may}
use Rattle.spelling.proofs.Bounds.{if_deep, stop_line}
use Rattle.p4_expr.proofs.IndexEnds.{refused_to_index}
use Rattle.p4_expr.proofs.LinesAhead.{name_line}
use Rattle.p4_expr.proofs.parts.meta_place.Goals as goal

pub returns-in_err-index : goal.returns-in_err-index
returns-in_err-index c =
    let front = name_line (codes "meta") c.in_ok-name.name c.in_ok-fixed_name.ensures.taken c.in_ok-sign.ensures.taken c.in_ok-name.ensures.taken in
    refused_to_index _ c.from_residual-in_err-index.ensures.1
    (λ more of rest m ends. c.in_err-index.ensures.only more of.1 rest (after_one (after_one (after_one m c.in_ok-fixed_name.ensures.taken) c.in_ok-sign.ensures.taken) c.in_ok-name.ensures.taken) ends)
    (if_deep c.in_err-index.field-0.0 (λ s. stop_line c.args.depth 0 c.args.depth (omega arith) front s) c.in_err-index.ensures.deep)

pub returns : goal.returns
returns c =
    record {
      taken = takes_both c.in_ok-fixed_name.ensures.taken (takes_both c.in_ok-sign.ensures.taken (takes_may c.in_ok-name.ensures.taken c.in_ok-index.ensures.taken));
      only = λ more of rest m ends.
          let m0 = after_one (after_one m c.in_ok-fixed_name.ensures.taken) c.in_ok-sign.ensures.taken in
          let r = c.in_ok-index.ensures.only more of.1 rest (after_one m0 c.in_ok-name.ensures.taken) ends in
          (ap (λ n. lval.Meta n c.in_ok-index.index) (named_same m0 c.in_ok-name.ensures.taken) ∙ ap (lval.Meta of.0) r.0, r.1);
      longest = λ more of rest m. c.in_ok-index.ensures.longest more of.1 rest (after_one (after_one (after_one m c.in_ok-fixed_name.ensures.taken) c.in_ok-sign.ensures.taken) c.in_ok-name.ensures.taken);
      deep = tt;
    }
