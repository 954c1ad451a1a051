use Rattle.std.proofs.Common.{◌≡◌, ◌≤◌, List, length, true, sym, ap, subst, ◌∙◌}
use Rattle.std.specs.List.{list_all}
use Rattle.elastic_ast.specs.declared.declarations.UtilTerm.{UtilTerm}
use Rattle.elastic_ast.specs.Tree.{Name, PlainDecl}
use Rattle.elastic_ast.specs.Seen.{seen_decls}
use Rattle.elastic_ast.specs.Sizes.SizeSums.{symbols_of, utility_terms}
use Rattle.width_check.specs.Sound.{IsSound, most_declarations}
use Rattle.size_terms.specs.Building.{is_near_util, IsLinearPart}
use Rattle.size_terms.specs.Tables.{tables_in}
use Rattle.size_terms.proofs.BuildLaws.{sound_short, sound_few, sound_near, sound_symbols}
use Rattle.size_terms.proofs.TableLaws.{utility_is}
use Rattle.size_terms.proofs.building.parts_of.Goals as goal

near : (places : List Name) (decls : List PlainDecl) (terms : List UtilTerm) → places ≡ symbols_of decls → terms ≡ utility_terms decls → IsSound decls → list_all (is_near_util places) terms ≡ true
near places decls terms p t sound = ap (λ z. list_all (is_near_util z) terms) p ∙ ap (list_all (is_near_util (symbols_of decls))) t ∙ sound_near decls sound

pub assume_rows-requires-clause-short : goal.assume_rows-requires-clause-short
assume_rows-requires-clause-short c = sound_short (seen_decls c.args.decls.now) c.requires.sound

pub utility_sum-requires-clause-few : goal.utility_sum-requires-clause-few
utility_sum-requires-clause-few c = subst (λ (z : List UtilTerm). length z ≤ 64) (sym c.util_terms_of-terms.ensures) (sound_few (seen_decls c.args.decls.now) c.requires.sound)

pub utility_sum-requires-clause-near : goal.utility_sum-requires-clause-near
utility_sum-requires-clause-near c = near _ (seen_decls c.args.decls.now) _ (c.in_ok-places.ensures ∙ c.requires.given) c.util_terms_of-terms.ensures c.requires.sound

pub step_tables-requires-clause-few : goal.step_tables-requires-clause-few
step_tables-requires-clause-few c = subst (λ (z : List Name). length z ≤ most_declarations) (sym (c.in_ok-places.ensures ∙ c.requires.given)) (sound_symbols (seen_decls c.args.decls.now) c.requires.sound)

pub step_tables-requires-clause-near : goal.step_tables-requires-clause-near
step_tables-requires-clause-near c = near _ (seen_decls c.args.decls.now) _ (c.in_ok-places.ensures ∙ c.requires.given) c.util_terms_of-terms.ensures c.requires.sound

pub returns-clause-utility : goal.returns-clause-utility
returns-clause-utility c =
    let terms = utility_terms (seen_decls c.args.decls.now) in
    utility_is c.args.symbols.now (seen_decls c.args.decls.now) _ c.requires.given c.requires.sound
    (subst (λ (z : List Name). IsLinearPart z terms c.in_ok-sum.sum) c.in_ok-places.ensures (subst (λ (z : List UtilTerm). IsLinearPart c.in_ok-places.places z c.in_ok-sum.sum) c.util_terms_of-terms.ensures c.in_ok-sum.ensures))
    (c.in_ok-tables.ensures ∙ ap (tables_in c.in_ok-places.places) c.util_terms_of-terms.ensures ∙ ap (λ z. tables_in z terms) c.in_ok-places.ensures)

pub ones-requires-clause-few : goal.ones-requires-clause-few
ones-requires-clause-few c = subst (λ (z : List Name). length z ≤ most_declarations) (sym (c.in_ok-places.ensures ∙ c.requires.given)) (sound_symbols (seen_decls c.args.decls.now) c.requires.sound)
