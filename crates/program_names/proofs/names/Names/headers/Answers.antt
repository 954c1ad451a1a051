use Rattle.elastic_ast.specs.Typing.LookUps.{members_in}
use Rattle.program_names.proofs.TopLaws.{giving_number}
use Rattle.program_names.proofs.names.Names.headers.Goals as goal

pub returns : goal.returns
returns c = λ decls are. giving_number members_in decls c.args.self.now.headers are.headers
