use Rattle.std.proofs.Common.{codes, refl, rules}
use Rattle.elastic_ast.specs.Seen.{seen_entry}
use Rattle.spelling.proofs.Balance.{stays_both, stays_sign}
use Rattle.spelling.proofs.ByParts.{both_parts, no_first, no_second, with_sign_before}
use Rattle.spelling.proofs.Only.{takes_regroup, ungroup}
use Rattle.p4_tables.specs.GoesOn.{EndsSet}
use Rattle.p4_tables.specs.Seen.{seen_sets}
use Rattle.p4_tables.specs.Tables.{SpellsActionCall, SpellsEntry, SpellsSets}
use Rattle.p4_tables.proofs.EntrySpelling.{colon_is_no_set, same_entry}
use Rattle.p4_tables.proofs.TablesWithin.{sets_stay}
use Rattle.p4_tables.proofs.entries.entry.Goals as goal

pub returns-in_err-keys : goal.returns-in_err-keys
returns-in_err-keys c =
    no_first SpellsActionCall (λ entry. entry.keys) (λ entry. (entry.action, entry.args)) _ (λ more x a b m. ungroup m) c.from_residual.ensures.1
    (with_sign_before {Follows = EndsSet} {Of = SpellsSets} {seen = seen_sets} colon_is_no_set (λ old new r call. search rules) c.in_err-keys.ensures)

pub returns-in_err-action : goal.returns-in_err-action
returns-in_err-action c =
    no_second (λ entry. entry.keys) (λ entry. (entry.action, entry.args)) c.then_sign.new.reader c.in_ok-keys.keys _ (λ more x a b m. ungroup m) c.from_residual-in_err-action.ensures.1 (stays_both (sets_stay c.args.depth (seen_sets c.in_ok-keys.keys)) (stays_sign (codes ":") refl refl))
    (with_sign_before {Follows = EndsSet} {Of = SpellsSets} {seen = seen_sets} colon_is_no_set (λ old new r call. search rules) c.in_ok-keys.ensures) c.in_err-action.ensures

pub returns : goal.returns
returns c =
    both_parts {Of = SpellsEntry} (λ entry. entry.keys) (λ entry. (entry.action, entry.args)) {seen = seen_entry} c.then_sign.new.reader c.in_ok-keys.keys _ _ (λ more x a b m. ungroup m) (λ t. takes_regroup t) (λ x e f. same_entry e f)
    (with_sign_before {Follows = EndsSet} {Of = SpellsSets} {seen = seen_sets} colon_is_no_set (λ old new r call. search rules) c.in_ok-keys.ensures) c.in_ok-action.ensures
