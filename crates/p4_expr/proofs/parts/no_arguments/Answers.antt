use Rattle.std.proofs.Common.{ap, codes, refl}
use Rattle.spelling.specs.Grammar.{Empty}
use Rattle.spelling.specs.Reading.{ahead}
use Rattle.spelling.proofs.Bounds.{refused_deep}
use Rattle.spelling.proofs.Only.{after_one, alone, same_end, wants_one}
use Rattle.spelling.proofs.Taking.{may_empty, takes_bracketed}
use Rattle.spelling.proofs.Limits.{inside, opens_or, want_or}
use Rattle.spelling.proofs.Peeling.{past_none}
use Rattle.spelling.proofs.InLines.{stop_line_open}
use Rattle.spelling.proofs.Refusals.{refused_line}
use Rattle.p4_expr.proofs.parts.no_arguments.Goals as goal

pub returns-in_err-_inner : goal.returns-in_err-_inner
returns-in_err-_inner c =
    refused_line _ c.from_residual.ensures.1
    (λ more none rest m. opens_or (codes "(") (codes ")") more c.args.depth (λ _. Empty) _ _ _ (λ few. few) m c.in_err-_inner.ensures.refused)
    (stop_line_open c.args.depth (codes "(") _ _ refl (ap ahead c.in_err-_inner.ensures.left) c.in_err-_inner.ensures.refused)

pub returns-in_err-sign : goal.returns-in_err-sign
returns-in_err-sign c =
    refused_line _ c.from_residual-in_err-sign.ensures.1
    (λ more none rest m.
    let i = inside (codes "(") (codes ")") more c.args.depth c.in_ok-_inner._inner (λ _. Empty) c.in_ok-_inner.ensures.depth m in
    want_or _ _ (wants_one _ _ (alone (past_none (after_one i.parts c.in_ok-_inner.ensures.taken))) c.in_err-sign.ensures.refused))
    (refused_deep _ _ _ _ c.in_err-sign.ensures.refused)

pub returns : goal.returns
returns c =
    record {
      taken = takes_bracketed _ _ c.args.depth c.in_ok-_inner._inner (λ _. Empty) c.in_ok-_inner.ensures.depth c.in_ok-_inner.ensures.taken may_empty c.in_ok-sign.ensures.taken;
      only = λ more none rest m.
          let i = inside (codes "(") (codes ")") more c.args.depth c.in_ok-_inner._inner (λ _. Empty) c.in_ok-_inner.ensures.depth m in
          (refl, same_end (past_none (after_one i.parts c.in_ok-_inner.ensures.taken)) c.in_ok-sign.ensures.taken);
      deep = tt;
    }
