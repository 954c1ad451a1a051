use Rattle.std.proofs.Common.{codes, refl, rules}
use Rattle.p4_declarations.proofs.Emitting.{same_parts}
use Rattle.p4_declarations.proofs.FlatWithin.{part_stays}
use Rattle.spelling.proofs.Balance.{stays_both, stays_sign}
use Rattle.spelling.proofs.ByParts.{part_deep, refused_within, with_sign}
use Rattle.spelling.proofs.Only.{after, takes_regroup, ungroup, wants}
use Rattle.spelling.proofs.Taking.{may, takes_both}
use Rattle.p4_declarations.specs.Flat.{SpellsPart}
use Rattle.spelling.specs.Readers.{itself}
use Rattle.p4_declarations.proofs.package.three_parts.Goals as goal

pub returns-in_err-parser : goal.returns-in_err-parser
returns-in_err-parser c =
    let r1 = with_sign {Of = SpellsPart} {seen = itself} (λ old new r call. search rules) c.in_err-parser.ensures in
    refused_within _ c.from_residual.ensures.1 (λ more parts rest m. wants (ungroup m) (λ b f s. r1.only more parts.parser b f)) r1.deep

pub returns-in_err-control : goal.returns-in_err-control
returns-in_err-control c =
    let r1 = with_sign {Of = SpellsPart} {seen = itself} (λ old new r call. search rules) c.in_ok-parser.ensures in
    let r2 = with_sign {Of = SpellsPart} {seen = itself} (λ old new r call. search rules) c.in_err-control.ensures in
    refused_within _ c.from_residual-in_err-control.ensures.1
    (λ more parts rest m.
    let m1 = after (ungroup m) (λ b f s. r1.only more parts.parser b f) in
    wants (ungroup m1.1) (λ b f s. r2.only more parts.control b f))
    (part_deep _ _ (stays_both (part_stays c.args.depth c.in_ok-parser.parser) (stays_sign (codes ",") refl refl)) (may r1.taken) r2.deep)

pub returns-in_err-deparser : goal.returns-in_err-deparser
returns-in_err-deparser c =
    let r1 = with_sign {Of = SpellsPart} {seen = itself} (λ old new r call. search rules) c.in_ok-parser.ensures in
    let r2 = with_sign {Of = SpellsPart} {seen = itself} (λ old new r call. search rules) c.in_ok-control.ensures in
    refused_within _ c.from_residual-in_err-deparser.ensures.1
    (λ more parts rest m.
    let m1 = after (ungroup m) (λ b f s. r1.only more parts.parser b f) in
    let m2 = after (ungroup m1.1) (λ b f s. r2.only more parts.control b f) in
    c.in_err-deparser.ensures.only more parts.deparser rest m2.1)
    (part_deep _ _ (stays_both (stays_both (part_stays c.args.depth c.in_ok-parser.parser) (stays_sign (codes ",") refl refl)) (stays_both (part_stays c.args.depth c.in_ok-control.control) (stays_sign (codes ",") refl refl))) (may (takes_both r1.taken r2.taken)) c.in_err-deparser.ensures.deep)

pub returns : goal.returns
returns c =
    let r1 = with_sign {Of = SpellsPart} {seen = itself} (λ old new r call. search rules) c.in_ok-parser.ensures in
    let r2 = with_sign {Of = SpellsPart} {seen = itself} (λ old new r call. search rules) c.in_ok-control.ensures in
    record {
      taken = takes_regroup (takes_both r1.taken (takes_regroup (takes_both r2.taken c.in_ok-deparser.ensures.taken)));
      only = λ more parts rest m.
          let m1 = after (ungroup m) (λ b f s. r1.only more parts.parser b f) in
          let m2 = after (ungroup m1.1) (λ b f s. r2.only more parts.control b f) in
          let m3 = c.in_ok-deparser.ensures.only more parts.deparser rest m2.1 in
          (same_parts _ parts m1.0 m2.0 m3.0, m3.1);
      deep = tt;
    }
