use Rattle.std.proofs.Common.{ap, sym, ◌∙◌, arith}
use Rattle.std.proofs.lemmas.Nat.{pow_pos}
use Rattle.elastic_ast.specs.Typing.Demand.{fits_type}
use Rattle.expr_types.specs.Placed.{seen_type}
use Rattle.stmt_check.proofs.PowerLaws.{shifted_out, wide_enough}
use Rattle.stmt_check.proofs.expressions.fits.Goals as goal

pub returns-then-width-lt128 : goal.returns-then-width-lt128
returns-then-width-lt128 c = shifted_out _ _ (pow_pos c.in-Bits.width) ∙ sym (ap (λ z. fits_type c.args.number (seen_type z)) c.in-Bits.is)

pub returns-else-width-lt128 : goal.returns-else-width-lt128
returns-else-width-lt128 c = sym (wide_enough c.args.number c.in-Bits.width (omega arith) (omega arith)) ∙ sym (ap (λ z. fits_type c.args.number (seen_type z)) c.in-Bits.is)
