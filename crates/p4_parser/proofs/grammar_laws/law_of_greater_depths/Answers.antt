use Rattle.p4_parser.proofs.StatementsDeeper.{stmts_deeper}
use Rattle.p4_parser.proofs.DeclarationsDeeper.{program_deeper}
use Rattle.p4_parser.proofs.grammar_laws.law_of_greater_depths.Goals as goal

pub returns : goal.returns
returns c = record { statements = λ depth more stmts ws le h. stmts_deeper more le h; programs = λ depth more program ws le. program_deeper depth more program le ws }
