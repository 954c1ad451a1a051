use Rattle.std.proofs.Common.{codes}
use Rattle.spelling.proofs.Balance.{stays_both, stays_named, stays_reserved, stays_round}
use Rattle.spelling.proofs.Only.{after, after_one, named_same, wants}
use Rattle.spelling.proofs.Taking.{may, takes_both}
use Rattle.p4_declarations.proofs.FlatWithin.{deparser_parameters_stay}
use Rattle.p4_declarations.proofs.SameDecls.{same_deparser}
use Rattle.p4_declarations.specs.Flat.{SpellsDeparserParameters}
use Rattle.spelling.proofs.ByParts.{part_deep, refused_made}
use Rattle.p4_declarations.proofs.emits.deparser.Goals as goal

pub returns-in_err-parameters : goal.returns-in_err-parameters
returns-in_err-parameters c =
    refused_made _ c.from_residual-in_err-parameters.ensures.1
    (λ more of rest m. wants (after_one (after_one m c.in_ok-reserved.ensures.taken) c.in_ok-name.ensures.taken) (λ b f s. c.in_err-parameters.ensures.only more tt b f))
    (part_deep _ _ (stays_both (stays_reserved (codes "control")) (stays_named c.in_ok-name.name)) (may (takes_both c.in_ok-reserved.ensures.taken c.in_ok-name.ensures.taken)) c.in_err-parameters.ensures.deep)

pub returns-in_err-emits : goal.returns-in_err-emits
returns-in_err-emits c =
    refused_made _ c.from_residual-in_err-emits.ensures.1
    (λ more of rest m.
    let m3 = after (after_one (after_one m c.in_ok-reserved.ensures.taken) c.in_ok-name.ensures.taken) (λ b f s. c.in_ok-parameters.ensures.only more tt b f) in
    c.in_err-emits.ensures.only more of.1 rest m3.1)
    (part_deep _ _ (stays_both (stays_reserved (codes "control")) (stays_both (stays_named c.in_ok-name.name) (stays_round c.args.depth (λ _. SpellsDeparserParameters) (λ _. deparser_parameters_stay)))) (may (takes_both c.in_ok-reserved.ensures.taken (takes_both c.in_ok-name.ensures.taken c.in_ok-parameters.ensures.taken))) c.in_err-emits.ensures.deep)

pub returns : goal.returns
returns c =
    record {
      taken = takes_both c.in_ok-reserved.ensures.taken (takes_both c.in_ok-name.ensures.taken (takes_both c.in_ok-parameters.ensures.taken c.in_ok-emits.ensures.taken));
      only = λ more of rest m.
          let m1 = after_one m c.in_ok-reserved.ensures.taken in
          let m3 = after (after_one m1 c.in_ok-name.ensures.taken) (λ b f s. c.in_ok-parameters.ensures.only more tt b f) in
          let m4 = c.in_ok-emits.ensures.only more of.1 rest m3.1 in
          (same_deparser (named_same m1 c.in_ok-name.ensures.taken) m4.0, m4.1);
      deep = tt;
    }
