use Rattle.std.proofs.Common.{arith}
use Rattle.spelling.proofs.Refusals.{of_refusal}
use Rattle.p4_expr.specs.Readings.{ReadsWhole}
use Rattle.p4_expr.proofs.StepsLeft.{ends_all}
use Rattle.p4_expr.proofs.reading.read_expr.Goals as goal

pub returns-in_err-e : goal.returns-in_err-e
returns-in_err-e c =
    of_refusal (λ r. ReadsWhole c.args.depth c.args.reader.now c.level.new.reader r) c.from_residual.ensures.1
    record { taken = tt; few = tt; only = λ more e rest m ends. c.in_err-e.ensures.only more e rest m (ends_all rest ends); longest = tt; whole = tt; deep = c.in_err-e.ensures.deep }

pub returns : goal.returns
returns c =
    let read = c.in_ok-e.ensures in
    record { taken = read.taken; few = omega (arith, read.count); only = λ more e rest m ends. read.only more e rest m (ends_all rest ends); longest = read.longest; whole = read.whole; deep = tt }
