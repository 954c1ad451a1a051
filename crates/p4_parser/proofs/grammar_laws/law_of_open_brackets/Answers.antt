use Rattle.spelling.proofs.Balance.{most_within}
use Rattle.p4_statements.proofs.StatementsWithin.{stmts_within}
use Rattle.p4_parser.proofs.DeclarationsWithin.{program_stays}
use Rattle.p4_parser.proofs.grammar_laws.law_of_open_brackets.Goals as goal

pub returns : goal.returns
returns c = record { statements = λ depth stmts ws h. most_within (stmts_within h); programs = λ depth program ws h. most_within (program_stays depth program ws h) }
