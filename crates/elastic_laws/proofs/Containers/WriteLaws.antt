-- What is read after writes to a vector.
use Rattle.std.proofs.Common.{◌≡◌, ℕ, Bool, cond, List, Option, Some, unwrap_or, refl, sym, ap, ◌∙◌}
use Rattle.std.specs.FinMap.{get, insert, get-insert, same_map}
use Rattle.std.specs.Cmp.Lexicographic.{nat_list_cmp_total}
use Rattle.elx_bits.specs.Words.{BitWord}
use Rattle.elastic_ast.specs.Containers.Vectors.{Vectored, WritesCommute, WritesAreRead, WritesStay}
use Rattle.elastic_ast.proofs.Containers.EntryLaws.{tied, tied_same, tied_apart, told, swapped}

twice : (vector : Vectored) (p q : List ℕ) (v w : BitWord) (x : List ℕ) → get (insert (insert vector p v) q w) x ≡ cond (tied x q) (Some w) (cond (tied x p) (Some v) (get vector x))
twice vector p q v w x =
    get-insert nat_list_cmp_total (insert vector p v) q w x
    ∙ ap (cond (tied x q) (Some w)) (get-insert nat_list_cmp_total vector p v x)

pub commute : WritesCommute
commute vector p q v w apart = same_map nat_list_cmp_total told _ _ (λ x.
    twice vector p q v w x
    ∙ swapped x q p (Some w) (Some v) (get vector x) (λ e. apart (sym e)) _ _ refl refl
    ∙ sym (twice vector q p w v x))

pub read : WritesAreRead
read vector p w =
    ap (λ (o : Option BitWord). unwrap_or o (0, 0)) (get-insert nat_list_cmp_total vector p w p ∙ ap (λ (b : Bool). cond b (Some w) (get vector p)) (tied_same p p refl))

pub stay : WritesStay
stay vector p q w apart =
    ap (λ (o : Option BitWord). unwrap_or o (0, 0)) (get-insert nat_list_cmp_total vector p w q ∙ ap (λ (b : Bool). cond b (Some w) (get vector q)) (tied_apart q p (λ e. apart (sym e))))
