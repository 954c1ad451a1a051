use Rattle.std.proofs.Common.{[], take, flat_map, sym, ap, ◌∙◌, subst}
use Rattle.register_uses.specs.Uses.{use_in_units}
use Rattle.register_uses.specs.Walks.{Adds}
use Rattle.register_uses.proofs.ListLaws.{decl_given, decls_given, given_more, given_all}
use Rattle.register_uses.proofs.UseLaws.{adds_both, adds_none}
use Rattle.register_uses.proofs.program.uses_of.Goals as goal

pub loop-decl-init : goal.loop-decl-init
loop-decl-init c = subst (λ z. Adds [] z []) (sym c.new-uses.ensures.empty) (adds_none [])

pub loop-decl-preserved : goal.loop-decl-preserved
loop-decl-preserved c =
    subst (Adds [] c.in_ok-uses.uses.entries) (sym (given_more decl_given c.args.decls.now c.loop-decl.decl-index c.decl-item.result c.loop-decl-test.true c.decl-item.is))
    (adds_both [] c.loop-decl.uses.entries c.in_ok-uses.uses.entries (flat_map decl_given (take c.loop-decl.decl-index c.args.decls.now)) (decl_given c.decl-item.result) c.loop-decl.invariant c.in_ok-uses.ensures)

pub returns : goal.returns
returns c register = c.loop-decl.invariant register ∙ ap (λ z. use_in_units z register) (given_all decl_given c.args.decls.now c.loop-decl.decl-index c.loop-decl-test.false ∙ decls_given c.args.decls.now)
