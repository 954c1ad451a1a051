use Rattle.spelling.proofs.Only.{after_one, named_same}
use Rattle.spelling.proofs.Balance.{stays_named}
use Rattle.spelling.proofs.Bounds.{in_named}
use Rattle.spelling.proofs.InLines.{line_deep}
use Rattle.spelling.proofs.Refusals.{refused_line_before}
use Rattle.spelling.proofs.Taking.{may, takes_may}
use Rattle.p4_expr.proofs.PartSpelling.{same_register}
use Rattle.p4_expr.proofs.parts.register.Goals as goal

pub returns-in_err-index : goal.returns-in_err-index
returns-in_err-index c =
    refused_line_before _ c.from_residual-in_err-index.ensures.1
    (λ more register rest m ends. c.in_err-index.ensures.only more register.index rest (after_one m c.in_ok-name.ensures.taken) ends)
    (line_deep _ _ (stays_named c.in_ok-name.name) (in_named c.in_ok-name.name) (may c.in_ok-name.ensures.taken) c.in_err-index.ensures.deep)

pub returns : goal.returns
returns c =
    record {
      taken = takes_may c.in_ok-name.ensures.taken c.in_ok-index.ensures.taken;
      only = λ more register rest m ends.
          let r = c.in_ok-index.ensures.only more register.index rest (after_one m c.in_ok-name.ensures.taken) ends in
          (same_register _ register (named_same m c.in_ok-name.ensures.taken) r.0, r.1);
      deep = tt;
    }
