use Rattle.spelling.specs.Readers.{itself}
use Rattle.p4_parser.proofs.ActionSpelling.{index_missing, index_there}
use Rattle.p4_parser.specs.Declarations.{SpellsIndexName}
use Rattle.spelling.proofs.Taking.{may, may_empty}
use Rattle.std.proofs.Common.{Some, ap, refl, rules, sym, ◌∙◌}
use Rattle.spelling.proofs.ByParts.{around_words}
use Rattle.spelling.proofs.Refusals.{refused_up_to}
use Rattle.spelling.proofs.Only.{not_there}
use Rattle.p4_parser.proofs.actions.action_index.Goals as goal

pub returns-then-not-is_at_sign : goal.returns-then-not-is_at_sign
returns-then-not-is_at_sign c = record { taken = may_empty; only = λ more index rest m ends. index_missing more index m (not_there c.if-not-is_at_sign.ensures.1); deep = tt }

pub returns-in_err-name : goal.returns-in_err-name
returns-in_err-name c =
    let r = around_words {Of = SpellsIndexName} {seen = itself} refl (λ inner old new r call. search rules) c.in_err-name.ensures in
    refused_up_to _ c.from_residual.ensures.1 (λ more index rest m ends. let s = index_there more index m ends (c.if-not-is_at_sign.ensures.0 refl) in r.only more s.name rest s.ahead) r.deep

pub returns : goal.returns
returns c =
    let r = around_words {Of = SpellsIndexName} {seen = itself} refl (λ inner old new r call. search rules) c.in_ok-name.ensures in
    record {
      taken = may r.taken;
      only = λ more index rest m ends.
          let s = index_there more index m ends (c.if-not-is_at_sign.ensures.0 refl) in
          let t = r.only more s.name rest s.ahead in
          (ap Some t.0 ∙ sym s.is, t.1);
      deep = tt;
    }
