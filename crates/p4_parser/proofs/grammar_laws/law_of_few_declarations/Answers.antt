use Rattle.p4_parser.proofs.FewDeclarations.{few_declarations}
use Rattle.p4_parser.proofs.grammar_laws.law_of_few_declarations.Goals as goal

pub returns : goal.returns
returns c = few_declarations
