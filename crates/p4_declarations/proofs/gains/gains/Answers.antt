use Rattle.std.proofs.Common.{ap, refl, rules, subst, sym, ◌∙◌}
use Rattle.spelling.specs.Reading.{Ends, ahead}
use Rattle.p4_declarations.specs.GoesOn.{sum_signs}
use Rattle.p4_declarations.specs.Flat.{SpellsFirstGain, SpellsLaterGain}
use Rattle.p4_declarations.proofs.FlatWithin.{first_gain_stays, later_gain_stays, plus_or_minus_stays}
use Rattle.p4_declarations.proofs.GainSpelling.{as_behind, gains_follow, is_subtracted, later_apart, later_gain}
use Rattle.p4_declarations.proofs.Signs.{same_minus, sign_goes_on}
use Rattle.spelling.proofs.Balance.{stays_both, stays_first}
use Rattle.spelling.proofs.ByParts.{part_deep}
use Rattle.spelling.proofs.Only.{after, wants}
use Rattle.spelling.proofs.Refusals.{refused_within_before}
use Rattle.spelling.proofs.Taking.{first_one, later_more, may, takes_both}
use Rattle.spelling.proofs.Whole.{first_of, left_first, left_more, none_left, one_left}
use Rattle.p4_declarations.proofs.gains.gains.Goals as goal

pub gains-init : goal.gains-init
gains-init c =
    rw (c.in_ok-keep.ensures.ok, c.new-gains.ensures)
    record {
      taken = first_one (SpellsFirstGain c.args.depth) (SpellsLaterGain c.args.depth) c.in_ok-first.first c.in_ok-first.ensures.taken;
      only = λ more all rest m ends.
          let n = first_of (SpellsFirstGain more) (SpellsLaterGain more) all m in
          let r = after n.ahead (λ b f s. c.in_ok-first.ensures.only more n.one b f (gains_follow more n.later s ends)) in
          left_first n refl r.0 r.1;
    }

pub returns-in_err-first : goal.returns-in_err-first
returns-in_err-first c =
    refused_within_before _ c.from_residual.ensures.1
    (λ more all rest m ends.
    let n = first_of (SpellsFirstGain more) (SpellsLaterGain more) all m in
    wants n.ahead (λ b f s. c.in_err-first.ensures.only more n.one b f (gains_follow more n.later s ends)))
    c.in_err-first.ensures.deep

pub gains-preserved : goal.gains-preserved
gains-preserved c =
    let read = c.in_ok-gain in
    record {
      taken = rw c.in_ok-keep-2.ensures.ok (later_more (SpellsFirstGain c.args.depth) (SpellsLaterGain c.args.depth) c.gains.gains read.gain c.gains.invariant.taken (may (later_gain c.args.depth read.gain c.in-Some.minus c.in-Some.ensures.taken read.ensures.taken)));
      only = λ more all rest m ends.
          let n = one_left (c.gains.invariant.only more all rest m ends) (λ e. sign_goes_on c.in-Some.minus c.in-Some.ensures.taken (subst (Ends sum_signs) (sym e) ends)) in
          let r1 = after (later_apart more n.one n.ahead) (λ b f s. c.in-Some.ensures.only (is_subtracted n.one) b f) in
          let r2 = after r1.1 (λ b f s. read.ensures.only more n.one b (as_behind more n.one (same_minus r1.0) f) (gains_follow more n.later s ends)) in
          left_more n c.in_ok-keep-2.ensures.ok r2.0 r2.1;
    }

pub returns-in_err-gain : goal.returns-in_err-gain
returns-in_err-gain c =
    refused_within_before _ c.from_residual-in_err-gain.ensures.1
    (λ more all rest m ends.
    let n = one_left (c.gains.invariant.only more all rest m ends) (λ e. sign_goes_on c.in-Some.minus c.in-Some.ensures.taken (subst (Ends sum_signs) (sym e) ends)) in
    let r1 = after (later_apart more n.one n.ahead) (λ b f s. c.in-Some.ensures.only (is_subtracted n.one) b f) in
    wants r1.1 (λ b f s. c.in_err-gain.ensures.only more n.one b (as_behind more n.one (same_minus r1.0) f) (gains_follow more n.later s ends)))
    (part_deep _ _ (stays_both (stays_first (SpellsFirstGain c.args.depth) (SpellsLaterGain c.args.depth) (first_gain_stays c.args.depth) (later_gain_stays c.args.depth) c.gains.gains) (plus_or_minus_stays c.in-Some.minus)) (may (takes_both c.gains.invariant.taken c.in-Some.ensures.taken)) c.in_err-gain.ensures.deep)

pub returns : goal.returns
returns c =
    record {
      taken = search rules;
      only = λ more all rest m ends.
          let done = none_left (c.gains.invariant.only more all rest m ends) (λ gain later f. c.in_default.not-Some (is_subtracted gain) (after (later_apart more gain f) (λ b g s. c.sign.ensures.only (is_subtracted gain) b g)).0) in
          (done.0, ap ahead (c.sign.ensures.left c.in_default.is) ∙ done.1);
      deep = tt;
    }
