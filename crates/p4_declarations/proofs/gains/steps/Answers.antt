use Rattle.std.proofs.Common.{codes}
use Rattle.spelling.specs.Grammar.{Named}
use Rattle.p4_declarations.proofs.SameDecls.{same_steps}
use Rattle.spelling.proofs.Balance.{stays_both, stays_named, stays_reserved, stays_round}
use Rattle.spelling.proofs.ByParts.{part_deep, refused_within}
use Rattle.spelling.proofs.Only.{after, after_one, wants}
use Rattle.spelling.proofs.Taking.{may, takes_both}
use Rattle.p4_declarations.proofs.gains.steps.Goals as goal

pub returns-in_err-symbol : goal.returns-in_err-symbol
returns-in_err-symbol c =
    refused_within _ c.from_residual-in_err-symbol.ensures.1
    (λ more table rest m. wants (after_one m c.in_ok-reserved.ensures.taken) (λ b f s. c.in_err-symbol.ensures.only more table.0 b f))
    (part_deep _ _ (stays_reserved (codes "table")) (may c.in_ok-reserved.ensures.taken) c.in_err-symbol.ensures.deep)

pub returns-in_err-pairs : goal.returns-in_err-pairs
returns-in_err-pairs c =
    refused_within _ c.from_residual-in_err-pairs.ensures.1
    (λ more table rest m.
    let m1 = after_one m c.in_ok-reserved.ensures.taken in
    let m2 = after m1 (λ b f s. c.in_ok-symbol.ensures.only more table.0 b f) in
    c.in_err-pairs.ensures.only more table.1 rest m2.1)
    (part_deep _ _ (stays_both (stays_reserved (codes "table")) (stays_round c.args.depth (λ _. Named c.in_ok-symbol.symbol) (λ _. stays_named c.in_ok-symbol.symbol))) (may (takes_both c.in_ok-reserved.ensures.taken c.in_ok-symbol.ensures.taken)) c.in_err-pairs.ensures.deep)

pub returns : goal.returns
returns c =
    record {
      taken = takes_both c.in_ok-reserved.ensures.taken (takes_both c.in_ok-symbol.ensures.taken c.in_ok-pairs.ensures.taken);
      only = λ more table rest m.
          let m1 = after_one m c.in_ok-reserved.ensures.taken in
          let m2 = after m1 (λ b f s. c.in_ok-symbol.ensures.only more table.0 b f) in
          let m3 = c.in_ok-pairs.ensures.only more table.1 rest m2.1 in
          (same_steps m2.0 m3.0, m3.1);
      deep = tt;
    }
