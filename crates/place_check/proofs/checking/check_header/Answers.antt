use Rattle.std.proofs.Common.{sym, ap, ◌∙◌, ◌≡◌, ℕ, subst, arith}
use Rattle.elastic_ast.specs.Units.SeenUnits.{seen_units}
use Rattle.place_check.specs.declared.fault.PlaceFault.TheVariants as fault
use Rattle.place_check.specs.FirstFault.{FirstFault, Header}
use Rattle.place_check.specs.UseTables.{header_use}
use Rattle.place_check.proofs.checking.check_header.Goals as goal

pub returns-then-used-from : goal.returns-then-used-from
returns-then-used-from c =
    let same : c.header_use-used.result ≡ header_use (seen_units c.args.units.now) c.args.sizes.now.values =
    c.header_use-used.ensures ∙ ap (header_use (seen_units c.args.units.now)) c.as_slice.ensures in
    subst (λ (n : ℕ). FirstFault (seen_units c.args.units.now) c.args.target.now c.args.sizes.now.values c.args.placement.now.at (fault.Header n c.args.target.now.header_bits)) (sym same)
    (Header c.requires.before (omega (arith, same)))
