use Rattle.elastic_ast.proofs.Containers.RegisterLaws.{read_same, read_other, commute}
use Rattle.elastic_laws.proofs.register_laws.cells_are_apart.Goals as goal

pub returns : goal.returns
returns c = record {
  read_back = read_same;
  others_stay = read_other;
  commute = commute;
}
