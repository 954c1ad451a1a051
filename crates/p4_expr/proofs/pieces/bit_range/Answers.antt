use Rattle.std.proofs.Common.{◌≡◌, ℕ, ◌+◌, List, ap, arith, codes, refl, ◌∙◌}
use Rattle.spelling.specs.Words.{Word}
use Rattle.spelling.specs.Grammar.{Grammar, ◌⨟◌, Num, Sign}
use Rattle.spelling.specs.Reading.{ahead, MayTake, Takes}
use Rattle.spelling.proofs.Bounds.{refused_deep}
use Rattle.spelling.proofs.InLines.{stop_line_open}
use Rattle.spelling.proofs.Limits.{opens_or, past_opening, want_or}
use Rattle.spelling.proofs.Only.{after_one, alone, fact_of, number_same, of_where, regroup, same_end, split, wants_number, wants_one}
use Rattle.spelling.proofs.Refusals.{refused_line}
use Rattle.spelling.proofs.Taking.{may, may_both, takes_both, takes_bracketed, takes_where}
use Rattle.p4_expr.specs.Parts.{SpellsSlice}
use Rattle.p4_expr.proofs.pieces.bit_range.Goals as goal

abbrev TwoBits : ℕ × ℕ → Grammar
TwoBits bits = Num bits.0 ⨟ Sign (codes ":") ⨟ Num bits.1

-- behind the opening bracket
bits_ahead : (inner : ℕ) {depth : ℕ} (more : ℕ) (bits : ℕ × ℕ) {a b rest : List Word} → depth ≡ inner + 1 → Takes (Sign (codes "[")) a b → MayTake (SpellsSlice more bits) a rest → MayTake (Num bits.0 ⨟ Sign (codes ":") ⨟ Num bits.1 ⨟ Sign (codes "]")) b rest
bits_ahead inner {depth = depth} more bits e opened m =
    let s = split (regroup (past_opening (codes "[") (codes "]") more depth inner (λ _. TwoBits bits) e opened (of_where m)).parts) in
    may_both s.first (regroup s.second)

pub returns-in_err-_inner : goal.returns-in_err-_inner
returns-in_err-_inner c =
    refused_line _ c.from_residual.ensures.1
    (λ more bits rest m. opens_or (codes "[") (codes "]") more c.args.depth (λ _. TwoBits bits) _ _ _ (λ few. few) (of_where m) c.in_err-_inner.ensures.refused)
    (stop_line_open c.args.depth (codes "[") _ _ refl (ap ahead c.in_err-_inner.ensures.left) c.in_err-_inner.ensures.refused)

pub returns-in_err-high : goal.returns-in_err-high
returns-in_err-high c =
    refused_line _ c.from_residual-in_err-high.ensures.1
    (λ more bits rest m.
    want_or _ _ (wants_number _ _ (omega (arith, (fact_of m).0)) (bits_ahead _ more bits c.in_ok-_inner.ensures.depth c.in_ok-_inner.ensures.taken m) c.in_err-high.ensures.refused))
    (refused_deep _ _ _ _ c.in_err-high.ensures.refused)

pub returns-in_err-sign : goal.returns-in_err-sign
returns-in_err-sign c =
    refused_line _ c.from_residual-in_err-sign.ensures.1
    (λ more bits rest m.
    let m1 = after_one (bits_ahead _ more bits c.in_ok-_inner.ensures.depth c.in_ok-_inner.ensures.taken m) c.in_ok-high.ensures.taken in
    want_or _ _ (wants_one _ _ m1 c.in_err-sign.ensures.refused))
    (refused_deep _ _ _ _ c.in_err-sign.ensures.refused)

pub returns-in_err-low : goal.returns-in_err-low
returns-in_err-low c =
    refused_line _ c.from_residual-in_err-low.ensures.1
    (λ more bits rest m.
    let m1 = after_one (bits_ahead _ more bits c.in_ok-_inner.ensures.depth c.in_ok-_inner.ensures.taken m) c.in_ok-high.ensures.taken in
    want_or _ _ (wants_number _ _ (omega (arith, (fact_of m).1)) (after_one m1 c.in_ok-sign.ensures.taken) c.in_err-low.ensures.refused))
    (refused_deep _ _ _ _ c.in_err-low.ensures.refused)

pub returns-in_err-sign-2 : goal.returns-in_err-sign-2
returns-in_err-sign-2 c =
    refused_line _ c.from_residual-in_err-sign-2.ensures.1
    (λ more bits rest m.
    let m1 = after_one (bits_ahead _ more bits c.in_ok-_inner.ensures.depth c.in_ok-_inner.ensures.taken m) c.in_ok-high.ensures.taken in
    want_or _ _ (wants_one _ _ (alone (after_one (after_one m1 c.in_ok-sign.ensures.taken) c.in_ok-low.ensures.taken)) c.in_err-sign-2.ensures.refused))
    (refused_deep _ _ _ _ c.in_err-sign-2.ensures.refused)

pub returns : goal.returns
returns c =
    record {
      taken = takes_where (omega (arith, c.in_ok-high.ensures.within), omega (arith, c.in_ok-low.ensures.within))
          (takes_bracketed (codes "[") (codes "]") c.args.depth c.in_ok-_inner._inner (λ _. TwoBits (c.in_ok-high.high, c.in_ok-low.low)) c.in_ok-_inner.ensures.depth c.in_ok-_inner.ensures.taken (may (takes_both c.in_ok-high.ensures.taken (takes_both c.in_ok-sign.ensures.taken c.in_ok-low.ensures.taken))) c.in_ok-sign-2.ensures.taken);
      only = λ more bits rest m.
          let m1 = bits_ahead _ more bits c.in_ok-_inner.ensures.depth c.in_ok-_inner.ensures.taken m in
          let m3 = after_one (after_one m1 c.in_ok-high.ensures.taken) c.in_ok-sign.ensures.taken in
          (ap (λ n. (n, c.in_ok-low.low)) (number_same m1 c.in_ok-high.ensures.taken) ∙ ap (λ n. (bits.0, n)) (number_same m3 c.in_ok-low.ensures.taken), same_end (after_one m3 c.in_ok-low.ensures.taken) c.in_ok-sign-2.ensures.taken);
      deep = tt;
    }
