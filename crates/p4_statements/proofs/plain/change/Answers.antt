use Rattle.spelling.proofs.Bounds.{refused_deep}
use Rattle.spelling.proofs.Refusals.{refused_reads}
use Rattle.std.proofs.Common.{refl}
use Rattle.spelling.proofs.Only.{not_there}
use Rattle.p4_statements.proofs.Validity.{set_taken, unset_taken, unset_wants}
use Rattle.p4_statements.proofs.plain.change.Goals as goal

pub returns-then-is_at_name : goal.returns-then-is_at_name
returns-then-is_at_name c =
    record {
      taken = c.in_ok-fixed_name.ensures.taken;
      only = λ on rest m. set_taken on m (c.if-is_at_name.ensures.0 refl) c.in_ok-fixed_name.ensures.taken;
      shallow = tt;
    }

pub returns-in_err-fixed_name-2 : goal.returns-in_err-fixed_name-2
returns-in_err-fixed_name-2 c =
    refused_reads _ c.from_residual-in_err-fixed_name-2.ensures.1 (λ on rest m. (unset_wants on _ _ m (not_there c.if-is_at_name.ensures.1) c.in_err-fixed_name-2.ensures.refused))
    ((refused_deep _ _ _ _ c.in_err-fixed_name-2.ensures.refused))

pub returns : goal.returns
returns c =
    record {
      taken = c.in_ok-fixed_name-2.ensures.taken;
      only = λ on rest m. unset_taken on m (not_there c.if-is_at_name.ensures.1) c.in_ok-fixed_name-2.ensures.taken;
      shallow = tt;
    }
