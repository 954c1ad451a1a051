use Rattle.spelling.proofs.Refusals.{refused_line_up_to}
use Rattle.std.proofs.Common.{◌≡◌, ℕ, ◌+◌, List, ap, codes, refl, sym, ◌∙◌, Some, arith}
use Rattle.spelling.specs.Reading.{ahead, MayTake, Takes}
use Rattle.spelling.proofs.Only.{after_one, alone, same_end, wants_one, not_there, number_same, wants_number}
use Rattle.spelling.proofs.Taking.{may, takes_both, takes_bracketed, may_empty, takes_where}
use Rattle.spelling.proofs.Limits.{opens_or, past_opening, want_or}
use Rattle.spelling.specs.Grammar.{◌⨟◌, Bracketed, Named, Num, One, Sign}
use Rattle.spelling.specs.Words.{Word}
use Rattle.p4_statements.proofs.Heads.{stage_missing, stage_there}
use Rattle.spelling.proofs.Bounds.{forbidden, if_deep, in_both, in_named, in_sign, refused_deep}
use Rattle.spelling.proofs.Balance.{stays_both, stays_named, stays_sign}
use Rattle.p4_statements.proofs.Lines.{line_here, stop_after}
use Rattle.p4_statements.proofs.statement.stage.Goals as goal

-- behind the opening bracket of a stage
stage_number : {F G : Word → Type 0} {n : ℕ} (inner more : ℕ) {depth : ℕ} {a b c d rest : List Word} → depth ≡ inner + 1 → Takes (One F) a b → Takes (One G) b c → Takes (Sign (codes "(")) c d → MayTake (Sign (codes "@") ⨟ Named (codes "stage") ⨟ Bracketed (codes "(") (codes ")") more (λ _. Num n)) a rest → MayTake (Num n ⨟ Sign (codes ")")) d rest
stage_number {n = n} inner more {depth = depth} e sign word opened m =
    (past_opening (codes "(") (codes ")") more depth inner (λ _. Num n) e opened (after_one (after_one m sign) word)).parts

pub returns-then-not-eat_sign : goal.returns-then-not-eat_sign
returns-then-not-eat_sign c =
    record {
      taken = rw (c.if-not-eat_sign.ensures.left refl) may_empty;
      only = λ more stage rest m ends.
          let r = stage_missing more stage m (not_there c.if-not-eat_sign.ensures.at.1) in
          (r.0, ap ahead (c.if-not-eat_sign.ensures.left refl) ∙ r.1);
      deep = tt;
    }

pub returns-in_err-fixed_name : goal.returns-in_err-fixed_name
returns-in_err-fixed_name c =
    refused_line_up_to _ c.from_residual.ensures.1
    (λ more stage rest m ends.
    let s = stage_there more stage m ends (c.if-not-eat_sign.ensures.at.0 refl) in
    want_or _ _ (wants_one _ _ (after_one s.ahead (c.if-not-eat_sign.ensures.taken refl)) c.in_err-fixed_name.ensures.refused))
    (refused_deep _ _ _ _ c.in_err-fixed_name.ensures.refused)

pub returns-in_err-_inner : goal.returns-in_err-_inner
returns-in_err-_inner c =
    let front = takes_both (c.if-not-eat_sign.ensures.taken refl) c.in_ok-fixed_name.ensures.taken in
    refused_line_up_to _ c.from_residual-in_err-_inner.ensures.1
    (λ more stage rest m ends.
    let s = stage_there more stage m ends (c.if-not-eat_sign.ensures.at.0 refl) in
    let m2 = after_one (after_one s.ahead (c.if-not-eat_sign.ensures.taken refl)) c.in_ok-fixed_name.ensures.taken in
    opens_or (codes "(") (codes ")") more c.args.depth (λ _. Num s.number) _ _ _ (λ few. few) m2 c.in_err-_inner.ensures.refused)
    (if_deep _ (λ h. stop_after c.args.depth (may front) (stays_both (stays_sign (codes "@") refl refl) (stays_named (codes "stage"))) (in_both (in_sign (codes "@") refl refl refl) (in_named (codes "stage"))) (line_here (ap ahead c.in_err-_inner.ensures.left) h)) (forbidden (codes "(") refl c.args.depth _ _ _ c.in_err-_inner.ensures.refused))

pub returns-in_err-stage : goal.returns-in_err-stage
returns-in_err-stage c =
    refused_line_up_to _ c.from_residual-in_err-stage.ensures.1
    (λ more stage rest m ends.
    let s = stage_there more stage m ends (c.if-not-eat_sign.ensures.at.0 refl) in
    let m3 = stage_number _ more c.in_ok-_inner.ensures.depth (c.if-not-eat_sign.ensures.taken refl) c.in_ok-fixed_name.ensures.taken c.in_ok-_inner.ensures.taken s.ahead in
    want_or _ _ (wants_number _ _ (omega (arith, s.within)) m3 c.in_err-stage.ensures.refused))
    (refused_deep _ _ _ _ c.in_err-stage.ensures.refused)

pub returns-in_err-sign : goal.returns-in_err-sign
returns-in_err-sign c =
    refused_line_up_to _ c.from_residual-in_err-sign.ensures.1
    (λ more stage rest m ends.
    let s = stage_there more stage m ends (c.if-not-eat_sign.ensures.at.0 refl) in
    let m3 = stage_number _ more c.in_ok-_inner.ensures.depth (c.if-not-eat_sign.ensures.taken refl) c.in_ok-fixed_name.ensures.taken c.in_ok-_inner.ensures.taken s.ahead in
    want_or _ _ (wants_one _ _ (alone (after_one m3 c.in_ok-stage.ensures.taken)) c.in_err-sign.ensures.refused))
    (refused_deep _ _ _ _ c.in_err-sign.ensures.refused)

pub returns : goal.returns
returns c =
    record {
      taken = may (takes_where (omega (arith, c.in_ok-stage.ensures.within)) (takes_both (c.if-not-eat_sign.ensures.taken refl) (takes_both c.in_ok-fixed_name.ensures.taken (takes_bracketed _ _ c.args.depth c.in_ok-_inner._inner (λ _. Num c.in_ok-stage.stage) c.in_ok-_inner.ensures.depth c.in_ok-_inner.ensures.taken (may c.in_ok-stage.ensures.taken) c.in_ok-sign.ensures.taken))));
      only = λ more stage rest m ends.
          let s = stage_there more stage m ends (c.if-not-eat_sign.ensures.at.0 refl) in
          let m3 = stage_number _ more c.in_ok-_inner.ensures.depth (c.if-not-eat_sign.ensures.taken refl) c.in_ok-fixed_name.ensures.taken c.in_ok-_inner.ensures.taken s.ahead in
          (ap Some (number_same m3 c.in_ok-stage.ensures.taken) ∙ sym s.is, same_end (after_one m3 c.in_ok-stage.ensures.taken) c.in_ok-sign.ensures.taken);
      deep = tt;
    }
