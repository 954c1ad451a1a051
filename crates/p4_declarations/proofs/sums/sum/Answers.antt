use Rattle.std.proofs.Common.{ap, refl, sym, ◌∙◌, rules, subst}
use Rattle.spelling.specs.Reading.{Ends, ahead}
use Rattle.p4_declarations.specs.GoesOn.{sum_signs}
use Rattle.p4_declarations.specs.Sums.{SpellsFirstTerm, SpellsLaterTerm}
use Rattle.p4_declarations.proofs.Signs.{same_minus, sign_goes_on}
use Rattle.p4_declarations.proofs.SumSpelling.{later_term, terms_follow}
use Rattle.spelling.proofs.Only.{after, regroup, wants}
use Rattle.spelling.proofs.Refusals.{refused_before}
use Rattle.spelling.proofs.Taking.{first_one, later_more, may, may_where}
use Rattle.spelling.proofs.Whole.{first_of, left_first, left_more, none_left, one_left}
use Rattle.p4_declarations.proofs.sums.sum.Goals as goal

pub terms-init : goal.terms-init
terms-init c =
    rw (c.in_ok-keep.ensures.ok, c.new-terms.ensures)
    record {
      taken = first_one SpellsFirstTerm SpellsLaterTerm c.in_ok-first.first c.in_ok-first.ensures.taken;
      only = λ all rest m ends.
          let n = first_of SpellsFirstTerm SpellsLaterTerm all m in
          let r = after n.ahead (λ b f s. c.in_ok-first.ensures.only n.one b f (terms_follow n.later s ends)) in
          left_first n refl r.0 r.1;
    }

pub returns-in_err-first : goal.returns-in_err-first
returns-in_err-first c =
    refused_before _ c.from_residual.ensures.1
    (λ all rest m ends.
    let n = first_of SpellsFirstTerm SpellsLaterTerm all m in
    wants n.ahead (λ b f s. c.in_err-first.ensures.only n.one b f (terms_follow n.later s ends)))
    c.in_err-first.ensures.shallow

pub terms-preserved : goal.terms-preserved
terms-preserved c =
    let read = c.in_ok-term in
    record {
      taken = rw c.in_ok-keep-2.ensures.ok (later_more SpellsFirstTerm SpellsLaterTerm c.terms.terms read.term c.terms.invariant.taken (may (later_term read.term c.in-Some.minus c.in-Some.ensures.taken read.ensures.taken)));
      only = λ all rest m ends.
          let n = one_left (c.terms.invariant.only all rest m ends) (λ e. sign_goes_on c.in-Some.minus c.in-Some.ensures.taken (subst (Ends sum_signs) (sym e) ends)) in
          let r1 = after (regroup n.ahead) (λ b f s. c.in-Some.ensures.only n.one.minus b f) in
          let r2 = after r1.1 (λ b f s. read.ensures.only n.one b (may_where (same_minus r1.0) f) (terms_follow n.later s ends)) in
          left_more n c.in_ok-keep-2.ensures.ok r2.0 r2.1;
    }

pub returns-in_err-term : goal.returns-in_err-term
returns-in_err-term c =
    refused_before _ c.from_residual-in_err-term.ensures.1
    (λ all rest m ends.
    let n = one_left (c.terms.invariant.only all rest m ends) (λ e. sign_goes_on c.in-Some.minus c.in-Some.ensures.taken (subst (Ends sum_signs) (sym e) ends)) in
    let r1 = after (regroup n.ahead) (λ b f s. c.in-Some.ensures.only n.one.minus b f) in
    wants r1.1 (λ b f s. c.in_err-term.ensures.only n.one b (may_where (same_minus r1.0) f) (terms_follow n.later s ends)))
    c.in_err-term.ensures.shallow

pub returns : goal.returns
returns c =
    record {
      taken = search rules;
      only = λ all rest m ends.
          let done = none_left (c.terms.invariant.only all rest m ends) (λ term later f. c.in_default.not-Some term.minus (after (regroup f) (λ b g s. c.sign.ensures.only term.minus b g)).0) in
          (done.0, ap ahead (c.sign.ensures.left c.in_default.is) ∙ done.1);
      shallow = tt;
    }
