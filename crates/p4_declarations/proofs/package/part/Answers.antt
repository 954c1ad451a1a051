use Rattle.spelling.proofs.Balance.{stays_named}
use Rattle.spelling.proofs.ByParts.{refused_within}
use Rattle.spelling.proofs.InLines.{line_part_deep}
use Rattle.spelling.proofs.Only.{after_one, named_same}
use Rattle.spelling.proofs.Taking.{may, takes_both}
use Rattle.p4_declarations.proofs.package.part.Goals as goal

pub returns-in_err-no_arguments : goal.returns-in_err-no_arguments
returns-in_err-no_arguments c =
    refused_within _ c.from_residual-in_err-no_arguments.ensures.1
    (λ more name rest m. c.in_err-no_arguments.ensures.only more tt rest (after_one m c.in_ok-name.ensures.taken))
    (line_part_deep _ _ (stays_named c.in_ok-name.name) (may c.in_ok-name.ensures.taken) c.in_err-no_arguments.ensures.deep)

pub returns : goal.returns
returns c =
    record {
      taken = takes_both c.in_ok-name.ensures.taken c.in_ok-no_arguments.ensures.taken;
      only = λ more name rest m. (named_same m c.in_ok-name.ensures.taken, (c.in_ok-no_arguments.ensures.only more tt rest (after_one m c.in_ok-name.ensures.taken)).1);
      deep = tt;
    }
