-- What is refused where one part is asked after another.
use Rattle.std.proofs.Common.{◌≡◌, Option, None, sym, ap, ◌∙◌}
use Rattle.std.specs.Prelude.{Result, Ok, Err, OnOk, IfErr}
use Rattle.elastic_ast.specs.declared.rule.Rule.{Rule}
use Rattle.elastic_ast.specs.Typing.Scope.{or_else}
use Rattle.decl_check.specs.Refusals.{IsRefusal}
use Rattle.decl_check.specs.declared.refusal.Refusal.{Refusal}
use Rattle.decl_check.specs.declared.refusal.Refusal.TheVariants as refusal

-- two parts, one after the other
pub fine_both : {T : Type 0} (r : Result T Refusal) (a b whole : Option Rule) → OnOk r (b ≡ None) → a ≡ None → whole ≡ or_else a b → OnOk r (whole ≡ None)
fine_both (Ok x) a b whole p q e = e ∙ ap (λ z. or_else z b) q ∙ p
fine_both (Err x) a b whole p q e = p

refusal_along : (r : Refusal) (a b : Option Rule) → IsRefusal r a → a ≡ b → IsRefusal r b
refusal_along refusal.Memory a b p e = tt
refusal_along (refusal.Broken rule) a b p e = sym e ∙ p

pub refused_second : {T : Type 0} (r : Result T Refusal) (a b whole : Option Rule) → IfErr r (λ w. IsRefusal w b) → a ≡ None → whole ≡ or_else a b → IfErr r (λ w. IsRefusal w whole)
refused_second (Ok x) a b whole p q e = p
refused_second (Err w) a b whole p q e = refusal_along w b whole p (sym (e ∙ ap (λ z. or_else z b) q))

pub refused_first : (r : Refusal) (a b whole : Option Rule) → IsRefusal r a → whole ≡ or_else a b → IsRefusal r whole
refused_first refusal.Memory a b whole p e = tt
refused_first (refusal.Broken rule) a b whole p e = e ∙ ap (λ z. or_else z b) p
