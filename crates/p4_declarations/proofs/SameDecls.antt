-- Declarations whose parts are the same are the same.
use Rattle.std.proofs.Common.{◌≡◌, ℕ, List, Option, ap, ◌∙◌}
use Rattle.elastic_ast.specs.Tree.{PlainDecl}
use Rattle.elastic_ast.specs.declared.declarations.Field.{Field}
use Rattle.elastic_ast.specs.declared.statements.Amount.{Amount}

pub same_steps : {n k : List ℕ} {s t : List (ℕ × ℕ)} → n ≡ k → s ≡ t → ◌≡◌ {A = List ℕ × List (ℕ × ℕ)} (n, s) (k, t)
same_steps {k = k} {s = s} e f = ap (λ x. (x, s)) e ∙ ap (λ x. (k, x)) f

pub same_constant : {n k : List ℕ} {w v a b : ℕ} → n ≡ k → w ≡ v → a ≡ b → PlainDecl.Const n w a ≡ PlainDecl.Const k v b
same_constant {k = k} {w = w} {v = v} {a = a} e f g = ap (λ x. PlainDecl.Const x w a) e ∙ ap (λ x. PlainDecl.Const k x a) f ∙ ap (PlainDecl.Const k v) g

pub same_header : {n k : List ℕ} {f g : List Field} → n ≡ k → f ≡ g → PlainDecl.Header n f ≡ PlainDecl.Header k g
same_header {k = k} {f = f} e h = ap (λ x. PlainDecl.Header x f) e ∙ ap (PlainDecl.Header k) h

pub same_register : {n k : List ℕ} {w v : ℕ} {a b : Amount} {s t : Option (List ℕ)} → n ≡ k → w ≡ v → a ≡ b → s ≡ t → PlainDecl.Register n w a s ≡ PlainDecl.Register k v b t
same_register {k = k} {w = w} {v = v} {a = a} {b = b} {s = s} e f g h = ap (λ x. PlainDecl.Register x w a s) e ∙ ap (λ x. PlainDecl.Register k x a s) f ∙ ap (λ x. PlainDecl.Register k v x s) g ∙ ap (PlainDecl.Register k v b) h

pub same_deparser : {n k : List ℕ} {s t : List (List ℕ)} → n ≡ k → s ≡ t → PlainDecl.Deparser n s ≡ PlainDecl.Deparser k t
same_deparser {k = k} {s = s} e f = ap (λ x. PlainDecl.Deparser x s) e ∙ ap (PlainDecl.Deparser k) f
