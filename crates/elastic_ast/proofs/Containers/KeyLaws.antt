-- Whether two names and indices are the same, and their hash.
use Rattle.std.proofs.Common.{◌≡◌, ◌≢◌, ℕ, Bool, true, false, nat_eq, List, Option, Some, None, refl, ap, ◌∙◌}
use Rattle.std.specs.Option.{option_eq}
use Rattle.std.specs.Str.{bytes_eq}
use Rattle.std.specs.Int.{to_le_bytes, w64}
use Rattle.std.proofs.lemmas.Bool.{eqb-true, eq-eqb, and_parts, and_from}
use Rattle.std.proofs.lemmas.Slice.Eq.{bytes_eq-Decides}
use Rattle.elastic_ast.specs.Containers.Fnv.{fnv, fnv_start}
use Rattle.elastic_ast.specs.Containers.KeyHash.{hash_of, index_number}
use Rattle.elastic_ast.specs.Containers.RegisterLists.{Key, same_key}

same_option : (x y : Option ℕ) → option_eq nat_eq x y ≡ true → x ≡ y
same_option None None e = refl
same_option None (Some y) e = cc
same_option (Some x) None e = cc
same_option (Some x) (Some y) e = ap Some (eqb-true x y e)

option_same : (x : Option ℕ) → option_eq nat_eq x x ≡ true
option_same None = refl
option_same (Some x) = eq-eqb x x refl

abbrev key : List ℕ → Option ℕ → Key
key name index = (name, index)

pub same_is : (a b : Key) → same_key a b ≡ true → a ≡ b
same_is a b e =
    let parts = and_parts (bytes_eq a.0 b.0) (option_eq nat_eq a.1 b.1) e in
    let names : a.0 ≡ b.0 = (bytes_eq-Decides a.0 b.0).0 parts.0 in
    let indices : a.1 ≡ b.1 = same_option a.1 b.1 parts.1 in
    ap (λ n. key n a.1) names ∙ ap (λ i. key b.0 i) indices

pub same_self : (a : Key) → same_key a a ≡ true
same_self a = and_from (bytes_eq a.0 a.0) (option_eq nat_eq a.1 a.1) ((bytes_eq-Decides a.0 a.0).1 refl) (option_same a.1)

pub not_same : (a b : Key) → a ≢ b → same_key a b ≡ false
not_same a b ne = by (same_key a b) refl
  where
    by : (t : Bool) → same_key a b ≡ t → t ≡ false
    by true e = absurd (ne (same_is a b e))
    by false e = refl

pub hash_of_parts : (name : List ℕ) (index : Option ℕ) (state number : ℕ) → state ≡ fnv fnv_start name → number ≡ index_number index → fnv state (to_le_bytes w64 number) ≡ hash_of (key name index)
unfolding hash_of
hash_of_parts name index state number e f = ap (λ s. fnv s (to_le_bytes w64 number)) e ∙ ap (λ n. fnv (fnv fnv_start name) (to_le_bytes w64 n)) f
