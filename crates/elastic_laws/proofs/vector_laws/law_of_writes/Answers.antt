use Rattle.elastic_laws.proofs.Containers.WriteLaws.{commute, read, stay}
use Rattle.elastic_laws.proofs.vector_laws.law_of_writes.Goals as goal

pub returns : goal.returns
returns c = record { commute = commute; read = read; stay = stay }
