use Rattle.p4_expr.proofs.ManyPrefixes.{prefixes_spelled, few_prefixes, no_more_prefixes}
use Rattle.p4_expr.proofs.examples.most_operators_are_few.Goals as goal

pub returns : goal.returns
returns c = record { spelled = prefixes_spelled; few = few_prefixes; no_more = no_more_prefixes }
