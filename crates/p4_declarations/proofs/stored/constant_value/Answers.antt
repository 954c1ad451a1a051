use Rattle.std.proofs.Common.{Some, None, inl, inr}
use Rattle.spelling.proofs.Only.{which}
use Rattle.spelling.proofs.Refusals.{refused_reads}
use Rattle.p4_declarations.proofs.stored.constant_value.Goals as goal

pub returns-in_err-own_width : goal.returns-in_err-own_width
returns-in_err-own_width c =
    refused_reads _ c.from_residual.ensures.1
    (λ value rest m. elim (which m) [ inl n ↦ c.in_err-own_width.ensures.only (None, value) rest n | inr n ↦ c.in_err-own_width.ensures.only (Some c.args.width, value) rest n ])
    c.in_err-own_width.ensures.shallow
