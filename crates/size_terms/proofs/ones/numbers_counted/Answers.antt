use Rattle.std.proofs.Common.{◌≡◌, ℕ, List, subst}
use Rattle.std.specs.Prelude.{IfOk}
use Rattle.elastic_ast.specs.Seen.{seen_decls}
use Rattle.size_terms.proofs.OneLaws.{ones_are}
use Rattle.size_terms.proofs.ones.numbers_counted.Goals as goal

pub returns : goal.returns
returns c =
    subst (λ (z : List ℕ). IfOk c.numbers_of.result (λ ones. ones ≡ z))
    (ones_are c.args.places.now (seen_decls c.args.decls.now) c.args.marks.now c.mark_decls.new.marks c.requires.given c.requires.unset c.mark_decls.ensures) c.numbers_of.ensures
