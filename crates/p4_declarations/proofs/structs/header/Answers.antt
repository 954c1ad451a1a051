use Rattle.std.proofs.Common.{codes}
use Rattle.p4_declarations.proofs.SameDecls.{same_header}
use Rattle.spelling.proofs.Balance.{stays_both, stays_named, stays_reserved}
use Rattle.spelling.proofs.ByParts.{part_deep, refused_made}
use Rattle.spelling.proofs.Only.{after_one, named_same}
use Rattle.spelling.proofs.Taking.{may, takes_both}
use Rattle.p4_declarations.proofs.structs.header.Goals as goal

pub returns-in_err-fields : goal.returns-in_err-fields
returns-in_err-fields c =
    refused_made _ c.from_residual-in_err-fields.ensures.1
    (λ more of rest m. c.in_err-fields.ensures.only more of.1 rest (after_one (after_one m c.in_ok-reserved.ensures.taken) c.in_ok-name.ensures.taken))
    (part_deep _ _ (stays_both (stays_reserved (codes "header")) (stays_named c.in_ok-name.name)) (may (takes_both c.in_ok-reserved.ensures.taken c.in_ok-name.ensures.taken)) c.in_err-fields.ensures.deep)

pub returns : goal.returns
returns c =
    record {
      taken = takes_both c.in_ok-reserved.ensures.taken (takes_both c.in_ok-name.ensures.taken c.in_ok-fields.ensures.taken);
      only = λ more of rest m.
          let m1 = after_one m c.in_ok-reserved.ensures.taken in
          let r = c.in_ok-fields.ensures.only more of.1 rest (after_one m1 c.in_ok-name.ensures.taken) in
          (same_header (named_same m1 c.in_ok-name.ensures.taken) r.0, r.1);
      deep = tt;
    }
