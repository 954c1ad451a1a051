use Rattle.std.proofs.Common.{refl}
use Rattle.std.specs.Fmt.{digits}
use Rattle.elastic_laws.proofs.unit_examples.flat_names.Goals as goal

pub returns : goal.returns
unfolding digits
returns c = record {
  first = refl;
  two_digits = refl;
  scalar = refl;
  registers = refl;
}
