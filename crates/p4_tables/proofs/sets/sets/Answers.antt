use Rattle.spelling.specs.Reading.{Ends}
use Rattle.spelling.proofs.InLines.{before_up_to}
use Rattle.spelling.proofs.Only.{ends_sign, not_there}
use Rattle.std.proofs.Common.{codes, inl, inr, refl, rules, ◌≤◌}
use Rattle.p4_tables.proofs.SetSpelling.{brackets_there, one_there}
use Rattle.p4_tables.specs.Seen.{seen_sets}
use Rattle.spelling.proofs.Bounds.{deep_as}
use Rattle.spelling.proofs.ByParts.{around}
use Rattle.p4_tables.specs.GoesOn.{set_list_signs}
use Rattle.p4_tables.specs.Tables.{SpellsSetList}
use Rattle.spelling.proofs.Limits.{answer_reading}
use Rattle.spelling.proofs.Taking.{takes_as}
use Rattle.std.proofs.lemmas.Result.{IfOk-weaker}
use Rattle.p4_tables.proofs.sets.sets.Goals as goal

pub returns-then-not-is_at_sign : goal.returns-then-not-is_at_sign
returns-then-not-is_at_sign c =
    record {
      taken = IfOk-weaker c.one_set.result _ _ (λ sets t. takes_as (λ ws. inl) t) c.one_set.ensures.taken;
      only = λ more sets rest m ends. answer_reading (more ≤ c.args.depth) _ _ _ _ _ (c.one_set.ensures.only sets rest (one_there more sets m (not_there c.if-not-is_at_sign.ensures.1)) ends);
      deep = deep_as c.one_set.result (λ no. absurd no) c.one_set.ensures.shallow;
    }

pub returns : goal.returns
returns c =
    let r = around {Of = λ _. SpellsSetList} {seen = seen_sets} refl (λ inner old new r call. before_up_to {Follows = Ends set_list_signs} (λ rest at. ends_sign set_list_signs (codes ")") rest refl at) (search rules)) c.around.ensures in
    record {
      taken = IfOk-weaker c.around.result _ _ (λ sets t. takes_as (λ ws. inr) t) r.taken;
      only = λ more sets rest m ends. r.only more sets rest (brackets_there more sets m (c.if-not-is_at_sign.ensures.0 refl));
      deep = r.deep;
    }
