use Rattle.std.proofs.Common.{arith, codes, refl}
use Rattle.spelling.specs.Readers.{InCurly}
use Rattle.spelling.proofs.Taking.{takes_both}
use Rattle.p4_parser.proofs.Reaching.{reaches_past, reaches_stop}
use Rattle.p4_parser.specs.declared.parameters.Owner.TheVariants as owner
use Rattle.p4_parser.specs.Declarations.{SpellsContents}
use Rattle.p4_parser.proofs.Heads.{declared, refused_block, refused_parameters}
use Rattle.p4_parser.proofs.controls.control.Goals as goal

pub returns-in_err-parameters : goal.returns-in_err-parameters
returns-in_err-parameters c = refused_parameters owner.Control (codes "control") c.in_ok-name.name c.reserved.new.self c.name.new.self (InCurly SpellsContents) c.in_ok-reserved.ensures.taken c.in_ok-name.ensures.taken (λ more decl rest m. m) _ c.from_residual-in_err-parameters.ensures.1 c.in_err-parameters.ensures reaches_stop

pub returns-in_err-locals : goal.returns-in_err-locals
returns-in_err-locals c = refused_block owner.Control (codes "control") c.in_ok-name.name c.reserved.new.self c.name.new.self (InCurly SpellsContents) c.in_ok-reserved.ensures.taken c.in_ok-name.ensures.taken (λ more decl rest m. m) _ c.parameters.new.reader c.from_residual-in_err-locals.ensures.1 c.in_ok-parameters.ensures (λ more decl rest m. c.in_err-locals.ensures.only more decl.1 rest m) c.in_err-locals.ensures.deep (λ front p. reaches_past c.args.depth 0 c.args.depth 2 2 (omega arith) (omega arith) front p)

pub returns : goal.returns
returns c = declared owner.Control (codes "control") c.in_ok-name.name c.reserved.new.self c.name.new.self (InCurly SpellsContents) c.in_ok-reserved.ensures.taken c.in_ok-name.ensures.taken (λ more decl rest m. m) _ _ c.parameters.new.reader refl (takes_both c.in_ok-reserved.ensures.taken (takes_both c.in_ok-name.ensures.taken (takes_both c.in_ok-parameters.ensures.taken c.in_ok-locals.ensures.taken))) c.in_ok-locals.ensures.few c.in_ok-parameters.ensures (λ more x rest m. c.in_ok-locals.ensures.only more x rest m)
