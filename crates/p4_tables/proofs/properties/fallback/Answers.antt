use Rattle.spelling.proofs.WordsUpTo.{behind_words}
use Rattle.std.proofs.Common.{codes, refl}
use Rattle.spelling.proofs.Balance.{stays_named, stays_sign}
use Rattle.spelling.proofs.Bounds.{never_deep, refused_deep}
use Rattle.spelling.proofs.Limits.{want_or}
use Rattle.spelling.proofs.Only.{after, after_one, begins_first, wants, wants_one}
use Rattle.spelling.proofs.ByParts.{refused_within, behind_word}
use Rattle.p4_tables.proofs.TablesWithin.{const_stays}
use Rattle.p4_tables.proofs.properties.fallback.Goals as goal

pub returns-in_err-const_before : goal.returns-in_err-const_before
returns-in_err-const_before c =
    refused_within _ c.from_residual.ensures.1 (λ more call rest m. want_or _ _ (wants m (λ b f s. c.in_err-const_before.ensures.only tt b f (begins_first s)))) (never_deep _ _ c.in_err-const_before.ensures.shallow)

pub returns-in_err-fixed_name : goal.returns-in_err-fixed_name
returns-in_err-fixed_name c =
    refused_within _ c.from_residual-in_err-fixed_name.ensures.1
    (λ more call rest m. want_or _ _ (wants_one _ _ (after m (λ b f s. c.in_ok-const_before.ensures.only tt b f (begins_first s))).1 c.in_err-fixed_name.ensures.refused))
    (refused_deep _ _ _ _ c.in_err-fixed_name.ensures.refused)

pub returns-in_err-sign : goal.returns-in_err-sign
returns-in_err-sign c =
    refused_within _ c.from_residual-in_err-sign.ensures.1
    (λ more call rest m. want_or _ _ (wants_one _ _ (after_one (after m (λ b f s. c.in_ok-const_before.ensures.only tt b f (begins_first s))).1 c.in_ok-fixed_name.ensures.taken) c.in_err-sign.ensures.refused))
    (refused_deep _ _ _ _ c.in_err-sign.ensures.refused)

pub returns : goal.returns
returns c =
    let r = behind_word c.fixed_name.new.self (stays_named (codes "default_action")) c.in_ok-fixed_name.ensures.taken
    (behind_word c.sign.new.self (stays_sign (codes "=") refl refl) c.in_ok-sign.ensures.taken c.action_call.ensures) in
    behind_words c.const_before.new.reader const_stays (λ more call rest m. (after m (λ b f s. c.in_ok-const_before.ensures.only tt b f (begins_first s))).1) c.in_ok-const_before.ensures.taken r
