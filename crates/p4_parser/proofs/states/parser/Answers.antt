use Rattle.std.proofs.Common.{arith, codes, inl, refl}
use Rattle.spelling.specs.Readers.{InCurly}
use Rattle.spelling.proofs.Taking.{takes_both}
use Rattle.p4_expr.proofs.Bound.{bound_opens}
use Rattle.p4_parser.specs.declared.parameters.Owner.TheVariants as owner
use Rattle.p4_parser.specs.Declarations.{SpellsStates}
use Rattle.p4_parser.proofs.Heads.{declared, refused_block, refused_parameters}
use Rattle.p4_parser.proofs.states.parser.Goals as goal

pub returns-in_err-parameters : goal.returns-in_err-parameters
returns-in_err-parameters c = refused_parameters owner.Parser (codes "parser") c.in_ok-name.name c.reserved.new.self c.name.new.self (InCurly SpellsStates) c.in_ok-reserved.ensures.taken c.in_ok-name.ensures.taken (λ more decl rest m. m) _ c.from_residual-in_err-parameters.ensures.1 c.in_err-parameters.ensures (λ s. inl s)

pub returns-in_err-states : goal.returns-in_err-states
returns-in_err-states c = refused_block owner.Parser (codes "parser") c.in_ok-name.name c.reserved.new.self c.name.new.self (InCurly SpellsStates) c.in_ok-reserved.ensures.taken c.in_ok-name.ensures.taken (λ more decl rest m. m) _ c.parameters.new.reader c.from_residual-in_err-states.ensures.1 c.in_ok-parameters.ensures (λ more decl rest m. c.in_err-states.ensures.only more decl.1 rest m) c.in_err-states.ensures.deep (λ front p. bound_opens c.args.depth 0 c.args.depth 2 2 (omega arith) (omega arith) front p)

pub returns : goal.returns
returns c = declared owner.Parser (codes "parser") c.in_ok-name.name c.reserved.new.self c.name.new.self (InCurly SpellsStates) c.in_ok-reserved.ensures.taken c.in_ok-name.ensures.taken (λ more decl rest m. m) _ _ c.parameters.new.reader refl (takes_both c.in_ok-reserved.ensures.taken (takes_both c.in_ok-name.ensures.taken (takes_both c.in_ok-parameters.ensures.taken c.in_ok-states.ensures.taken))) c.in_ok-states.ensures.few c.in_ok-parameters.ensures (λ more x rest m. c.in_ok-states.ensures.only more x rest m)
