use Rattle.elastic_laws.proofs.Typing.TypedRegisters.{registers_apart, registers_alone, looped_is_array}
use Rattle.elastic_laws.proofs.typing_laws.registers_are_apart.Goals as goal

pub returns : goal.returns
returns c allow decls typed = record {
  apart = registers_apart allow decls typed;
  alone = registers_alone allow decls typed;
  looped = looped_is_array allow decls typed;
}
