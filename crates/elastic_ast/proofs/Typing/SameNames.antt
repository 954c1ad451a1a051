-- Two names are the same exactly where the test says so.
use Rattle.std.proofs.Common.{◌≡◌, true, false, refl}
use Rattle.std.proofs.lemmas.Bool.{false_from_ne_true}
use Rattle.std.proofs.lemmas.Slice.Eq.{bytes_eq-Decides}
use Rattle.elastic_ast.specs.Tree.{Name}
use Rattle.elastic_ast.specs.Typing.Scope.{same}

pub same_if : (one other : Name) → one ≡ other → same one other ≡ true
same_if one other e = (bytes_eq-Decides one other).1 e

pub same_self : (name : Name) → same name name ≡ true
same_self name = same_if name name refl

pub same_told : (one other : Name) → same one other ≡ true → one ≡ other
same_told one other e = (bytes_eq-Decides one other).0 e

pub not_same : (one other : Name) → (one ≡ other → ⊥) → same one other ≡ false
not_same one other differ = false_from_ne_true (same one other) (λ e. differ (same_told one other e))
