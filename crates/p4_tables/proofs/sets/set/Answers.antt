use Rattle.spelling.proofs.Refusals.{refused_before}
use Rattle.p4_tables.proofs.SetSpelling.{any_there, mask_missing, mask_there, masked, value_there}
use Rattle.spelling.proofs.Only.{after, after_one, begins, not_there, same_end, wants}
use Rattle.elastic_ast.specs.Tree.{PlainKeyset}
use Rattle.spelling.specs.Reading.{ahead}
use Rattle.elastic_ast.specs.Seen.{seen_expr}
use Rattle.spelling.proofs.Taking.{may, takes_both}
use Rattle.std.proofs.Common.{ap, refl, sym, ◌∙◌}
use Rattle.p4_tables.proofs.sets.set.Goals as goal

pub returns-then-is_at_reserved : goal.returns-then-is_at_reserved
returns-then-is_at_reserved c =
    record {
      taken = c.in_ok-reserved.ensures.taken;
      only = λ set rest m ends. let a = any_there set m (c.if-is_at_reserved.ensures.0 refl) in (a.0, same_end a.1 c.in_ok-reserved.ensures.taken);
      shallow = tt;
    }

pub returns-in_err-first : goal.returns-in_err-first
returns-in_err-first c =
    refused_before _ c.from_residual-in_err-first.ensures.1
    (λ set rest m ends. let v = value_there set m (not_there c.if-is_at_reserved.ensures.1) in wants v.ahead (λ b f s. c.in_err-first.ensures.only v.value b f)) c.in_err-first.ensures.shallow

pub returns-then-not-eat_sign : goal.returns-then-not-eat_sign
returns-then-not-eat_sign c =
    record {
      taken = rw (c.if-not-eat_sign.ensures.left refl) c.in_ok-first.ensures.taken;
      only = λ set rest m ends.
          let v = value_there set m (not_there c.if-is_at_reserved.ensures.1) in
          let r1 = after v.ahead (λ b f s. c.in_ok-first.ensures.only v.value b f) in
          let k = mask_missing v.mask r1.1 (not_there c.if-not-eat_sign.ensures.at.1) in
          (ap PlainKeyset.One r1.0 ∙ ap (masked v.value) k.0 ∙ sym v.is, ap ahead (c.if-not-eat_sign.ensures.left refl) ∙ k.1);
      shallow = tt;
    }

pub returns-in_err-mask : goal.returns-in_err-mask
returns-in_err-mask c =
    refused_before _ c.from_residual-in_err-mask.ensures.1
    (λ set rest m ends.
    let v = value_there set m (not_there c.if-is_at_reserved.ensures.1) in
    let r1 = after v.ahead (λ b f s. c.in_ok-first.ensures.only v.value b f) in
    let sign = c.if-not-eat_sign.ensures.taken refl in
    let k = mask_there v.mask r1.1 ends (begins (may sign)) in
    c.in_err-mask.ensures.only k.of rest (after_one k.ahead sign))
    c.in_err-mask.ensures.shallow

pub returns : goal.returns
returns c =
    let sign = c.if-not-eat_sign.ensures.taken refl in
    record {
      taken = takes_both c.in_ok-first.ensures.taken (takes_both sign c.in_ok-mask.ensures.taken);
      only = λ set rest m ends.
          let v = value_there set m (not_there c.if-is_at_reserved.ensures.1) in
          let r1 = after v.ahead (λ b f s. c.in_ok-first.ensures.only v.value b f) in
          let k = mask_there v.mask r1.1 ends (begins (may sign)) in
          let r2 = c.in_ok-mask.ensures.only k.of rest (after_one k.ahead sign) in
          (ap (λ value. PlainKeyset.Masked value (seen_expr c.in_ok-mask.mask)) r1.0 ∙ ap (PlainKeyset.Masked v.value) r2.0 ∙ ap (masked v.value) (sym k.is) ∙ sym v.is, r2.1);
      shallow = tt;
    }
