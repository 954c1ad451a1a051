use Rattle.std.proofs.Common.{sym, subst}
use Rattle.std.proofs.lemmas.Result.{IfOk-weaker}
use Rattle.elastic_ast.specs.Units.SeenUnits.{seen_units}
use Rattle.int_program.specs.Limits.{IsInLimits}
use Rattle.ilp_model.proofs.LimitLaws.{programs_are_in_limits}
use Rattle.ilp_model.proofs.modelling.model.Goals as goal

pub returns-clause-limits : goal.returns-clause-limits
returns-clause-limits c =
    IfOk-weaker c.program_of.result _ IsInLimits
    (λ ip e. subst IsInLimits (sym e)
    (programs_are_in_limits (seen_units c.args.units.now) c.args.target.now c.args.bounds.now c.requires.sound c.numbers_fit.ensures c.requires.range c.requires.within))
    c.program_of.ensures
