use Rattle.std.proofs.lemmas.Result.{IfOk-weaker}
use Rattle.std.proofs.Common.{All, refl, subst, sym, ◌≢◌, ◌≤◌}
use Rattle.p4_tables.specs.Seen.{seen_part, seen_parts}
use Rattle.p4_tables.specs.Tables.{SpellsProperty, kind_of}
use Rattle.p4_tables.proofs.PropertySpelling.{refused_other, said_as}
use Rattle.std.proofs.lemmas.Bool.{false≢true}
use Rattle.spelling.proofs.Bounds.{never_deep}
use Rattle.spelling.specs.Reading.{IsReading, MayTake, ahead}
use Rattle.spelling.proofs.Limits.{want_or}
use Rattle.p4_tables.proofs.reading.other_property.Goals as goal

pub returns-in_err-kind : goal.returns-in_err-kind
returns-in_err-kind c =
    refused_other _ c.from_residual.ensures.1 (λ more property rest m others. want_or _ _ (c.in_err-kind.ensures.only more property rest m)) (never_deep _ _ c.in_err-kind.ensures.shallow)

pub returns-then-is_there : goal.returns-then-is_there
returns-then-is_there c =
    record {
      taken = tt;
      other = tt;
      only = λ more property rest m others.
          let here = subst (λ kind. All (λ one. kind_of one ≢ kind) (seen_parts c.args.parts.now)) (sym (c.in_ok-kind.ensures.only more property rest m)) others in
          absurd (false≢true (sym (c.if-is_there.ensures.1 here)));
      deep = rw c.refusal.ensures tt;
    }

pub returns : goal.returns
returns c =
    let r = c.property.ensures in
    let none = c.if-is_there.ensures.0 refl in
    record {
      taken = r.taken;
      other = IfOk-weaker c.property.result _ _ (λ part same. subst (λ kind. All (λ one. kind_of one ≢ kind) (seen_parts c.args.parts.now)) (sym same) none) r.is_of_it;
      only = λ more property rest m others.
          let here = c.in_ok-kind.ensures.only more property rest m in
          let s = said_as property (sym here) in
          subst (λ p. IsReading (more ≤ c.args.depth) seen_part p rest (ahead c.property.new.reader) c.property.result) (sym s.1) (r.only more s.0 rest (subst (λ p. MayTake (SpellsProperty more p) (ahead c.args.reader.now) rest) s.1 m));
      deep = r.deep;
    }
