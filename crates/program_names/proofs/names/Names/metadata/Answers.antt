use Rattle.elastic_ast.specs.Typing.LookUps.{meta_in}
use Rattle.program_names.proofs.TopLaws.{giving_number}
use Rattle.program_names.proofs.names.Names.metadata.Goals as goal

pub returns : goal.returns
returns c = λ decls are. giving_number meta_in decls c.args.self.now.metadata are.metadata
