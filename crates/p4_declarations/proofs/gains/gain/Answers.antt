use Rattle.std.proofs.Common.{ap, refl, sym, ◌∙◌}
use Rattle.elastic_ast.specs.declared.declarations.UtilTerm.TheVariants as util
use Rattle.p4_declarations.proofs.GainSpelling.{of_behind, of_product, of_steps}
use Rattle.spelling.proofs.Bounds.{never_deep}
use Rattle.spelling.proofs.Limits.{want_or}
use Rattle.spelling.proofs.Only.{not_there}
use Rattle.spelling.proofs.Refusals.{refused_within_before}
use Rattle.spelling.proofs.Taking.{may_where, takes_where}
use Rattle.p4_declarations.proofs.gains.gain.Goals as goal

pub returns-in_err-symbol : goal.returns-in_err-symbol
returns-in_err-symbol c =
    refused_within_before _ c.from_residual.ensures.1
    (λ more gain rest m ends.
    let s = of_steps more gain (of_behind c.args.minus more gain m).1 (c.if-is_at_reserved.ensures.0 refl) in
    c.in_err-symbol.ensures.only more (s.symbol, s.steps) rest s.ahead)
    c.in_err-symbol.ensures.deep

pub returns-then-is_at_reserved : goal.returns-then-is_at_reserved
returns-then-is_at_reserved c =
    record {
      taken = takes_where refl c.in_ok-symbol.ensures.taken;
      only = λ more gain rest m ends.
          let f = of_behind c.args.minus more gain m in
          let s = of_steps more gain f.1 (c.if-is_at_reserved.ensures.0 refl) in
          let r = c.in_ok-symbol.ensures.only more (s.symbol, s.steps) rest s.ahead in
          (ap (λ p. util.Steps c.args.minus p.0 p.1) r.0 ∙ ap (λ minus. util.Steps minus s.symbol s.steps) (sym f.0) ∙ sym s.is, r.1);
      deep = tt;
    }

pub returns-in_err-term : goal.returns-in_err-term
returns-in_err-term c =
    refused_within_before _ c.from_residual-in_err-term.ensures.1
    (λ more gain rest m ends.
    let f = of_behind c.args.minus more gain m in
    let t = of_product more gain f.1 (not_there c.if-is_at_reserved.ensures.1) in
    want_or _ _ (c.in_err-term.ensures.only t.term rest (may_where (t.minus ∙ f.0) t.ahead) ends))
    (never_deep _ _ c.in_err-term.ensures.shallow)

pub returns : goal.returns
returns c =
    record {
      taken = c.in_ok-term.ensures.taken;
      only = λ more gain rest m ends.
          let f = of_behind c.args.minus more gain m in
          let t = of_product more gain f.1 (not_there c.if-is_at_reserved.ensures.1) in
          let r = c.in_ok-term.ensures.only t.term rest (may_where (t.minus ∙ f.0) t.ahead) ends in
          (ap util.Lin r.0 ∙ sym t.is, r.1);
      deep = tt;
    }
