use Rattle.elastic_ast.specs.Packets.MainParts.{main_in}
use Rattle.program_names.proofs.TopLaws.{giving_number}
use Rattle.program_names.proofs.names.Names.main.Goals as goal

pub returns : goal.returns
returns c = λ decls are. giving_number main_in decls c.args.self.now.main are.main
