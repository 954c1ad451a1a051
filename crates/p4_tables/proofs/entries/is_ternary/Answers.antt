use Rattle.spelling.proofs.Refusals.{refused_reads}
use Rattle.spelling.proofs.Bounds.{refused_deep}
use Rattle.std.proofs.Common.{refl}
use Rattle.spelling.proofs.Only.{alone, not_there, same_end, wants_one}
use Rattle.p4_tables.proofs.EntrySpelling.{match_false, match_true}
use Rattle.p4_tables.proofs.entries.is_ternary.Goals as goal

pub returns-then-is_at_name : goal.returns-then-is_at_name
returns-then-is_at_name c =
    record {
      taken = c.in_ok-fixed_name.ensures.taken;
      only = λ ternary rest m. let t = match_true ternary m (c.if-is_at_name.ensures.0 refl) in (t.0, same_end t.1 c.in_ok-fixed_name.ensures.taken);
      shallow = tt;
    }

pub returns-in_err-fixed_name-2 : goal.returns-in_err-fixed_name-2
returns-in_err-fixed_name-2 c =
    refused_reads _ c.from_residual-in_err-fixed_name-2.ensures.1
    (λ ternary rest m. let t = match_false ternary m (not_there c.if-is_at_name.ensures.1) in wants_one _ _ (alone t.1) c.in_err-fixed_name-2.ensures.refused)
    (refused_deep _ _ _ _ c.in_err-fixed_name-2.ensures.refused)

pub returns : goal.returns
returns c =
    record {
      taken = c.in_ok-fixed_name-2.ensures.taken;
      only = λ ternary rest m. let t = match_false ternary m (not_there c.if-is_at_name.ensures.1) in (t.0, same_end t.1 c.in_ok-fixed_name-2.ensures.taken);
      shallow = tt;
    }
