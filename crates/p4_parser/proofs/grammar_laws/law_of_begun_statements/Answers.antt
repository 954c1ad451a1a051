use Rattle.p4_parser.proofs.BegunLaws.{begun_counts, begun_opens}
use Rattle.p4_parser.proofs.grammar_laws.law_of_begun_statements.Goals as goal

pub returns : goal.returns
returns c = record { at_most = λ after ws count before s. begun_opens before s; without_if = λ after ws count none s. begun_counts none s }
