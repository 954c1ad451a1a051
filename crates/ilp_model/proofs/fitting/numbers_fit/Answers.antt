use Rattle.std.proofs.Common.{subst, All, ◌<◌, ◌^◌}
use Rattle.std.proofs.lemmas.List.Elements.{All-map}
use Rattle.elastic_ast.specs.Units.SeenUnits.{seen_unit}
use Rattle.ilp_model.specs.InLimits.{FitsUnit}
use Rattle.ilp_model.proofs.fitting.numbers_fit.Goals as goal

pub returns : goal.returns
returns c = record { list = All-map FitsUnit seen_unit c.args.units.now.list (subst (All (λ unit. FitsUnit (seen_unit unit))) c.as_slice.ensures c.all_fit.ensures); fixed_bits = search; symbol_bits = subst (All (λ bits. bits < 2 ^ 64)) c.as_slice-2.ensures c.bits_fit.ensures }
