use Rattle.std.proofs.Common.{ap, refl}
use Rattle.p4_tables.specs.Tables.{Property}
use Rattle.spelling.proofs.Bounds.{never_deep}
use Rattle.spelling.proofs.Limits.{want_or}
use Rattle.p4_tables.proofs.PropertySpelling.{refused_of_kind}
use Rattle.p4_tables.proofs.properties.property.Goals as goal

pub returns-in_err-key_block-in-Keys : goal.returns-in_err-key_block-in-Keys
returns-in_err-key_block-in-Keys c = rw c.in-Keys.is (refused_of_kind _ c.from_residual.ensures.1 (λ more says rest m. c.in_err-key_block-in-Keys.ensures.only more says rest m) c.in_err-key_block-in-Keys.ensures.deep)

pub returns-in_err-action_block-in-Actions : goal.returns-in_err-action_block-in-Actions
returns-in_err-action_block-in-Actions c = rw c.in-Actions.is (refused_of_kind _ c.from_residual-in_err-action_block-in-Actions.ensures.1 (λ more says rest m. c.in_err-action_block-in-Actions.ensures.only more says rest m) c.in_err-action_block-in-Actions.ensures.deep)

pub returns-in_err-action-in-Fallback : goal.returns-in_err-action-in-Fallback
returns-in_err-action-in-Fallback c = rw c.in-Fallback.is (refused_of_kind _ c.from_residual-in_err-action-in-Fallback.ensures.1 (λ more says rest m. c.in_err-action-in-Fallback.ensures.only more says rest m) c.in_err-action-in-Fallback.ensures.deep)

pub returns-in_err-entry_block-in-Entries : goal.returns-in_err-entry_block-in-Entries
returns-in_err-entry_block-in-Entries c = rw c.in-Entries.is (refused_of_kind _ c.from_residual-in_err-entry_block-in-Entries.ensures.1 (λ more says rest m. c.in_err-entry_block-in-Entries.ensures.only more says rest m) c.in_err-entry_block-in-Entries.ensures.deep)

pub returns-in_err-size-in-Size : goal.returns-in_err-size-in-Size
returns-in_err-size-in-Size c = rw c.in-Size.is (refused_of_kind _ c.from_residual-in_err-size-in-Size.ensures.1 (λ more says rest m. want_or _ _ (c.in_err-size-in-Size.ensures.only says rest m)) (never_deep _ _ c.in_err-size-in-Size.ensures.shallow))

pub returns-in_ok-key_block-in-Keys : goal.returns-in_ok-key_block-in-Keys
returns-in_ok-key_block-in-Keys c = rw c.in-Keys.is record { taken = c.in_ok-key_block-in-Keys.ensures.taken; is_of_it = refl; only = λ more says rest m. let r = c.in_ok-key_block-in-Keys.ensures.only more says rest m in (ap Property.Keys r.0, r.1); deep = tt }

pub returns-in_ok-action_block-in-Actions : goal.returns-in_ok-action_block-in-Actions
returns-in_ok-action_block-in-Actions c = rw c.in-Actions.is record { taken = c.in_ok-action_block-in-Actions.ensures.taken; is_of_it = refl; only = λ more says rest m. let r = c.in_ok-action_block-in-Actions.ensures.only more says rest m in (ap Property.Actions r.0, r.1); deep = tt }

pub returns-in_ok-action-in-Fallback : goal.returns-in_ok-action-in-Fallback
returns-in_ok-action-in-Fallback c = rw c.in-Fallback.is record { taken = c.in_ok-action-in-Fallback.ensures.taken; is_of_it = refl; only = λ more says rest m. let r = c.in_ok-action-in-Fallback.ensures.only more says rest m in (ap (λ call. Property.Fallback call.0 call.1) r.0, r.1); deep = tt }

pub returns-in_ok-entry_block-in-Entries : goal.returns-in_ok-entry_block-in-Entries
returns-in_ok-entry_block-in-Entries c = rw c.in-Entries.is record { taken = c.in_ok-entry_block-in-Entries.ensures.taken; is_of_it = refl; only = λ more says rest m. let r = c.in_ok-entry_block-in-Entries.ensures.only more says rest m in (ap Property.Entries r.0, r.1); deep = tt }
