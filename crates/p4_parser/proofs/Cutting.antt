-- Words that are known one by one, cut into those of the first and those of the second of two things; and properties whose kinds
-- are told apart by computing.
use Rattle.std.proofs.Common.{◌≡◌, ◌≢◌, ℕ, Bool, true, false, cond, List, [], ◌∷◌, ◌++◌, All, AllPairs, nat_eq, refl, arith, ap}
use Rattle.std.proofs.lemmas.Bool.{eqb-false}
use Rattle.std.proofs.lemmas.List.Elements.{All-cons}
use Rattle.std.proofs.lemmas.List.Kept.{AllPairs-cons}
use Rattle.spelling.specs.Words.{Word}
use Rattle.spelling.specs.Grammar.{Grammar, ◌⨟◌}
use Rattle.p4_tables.specs.declared.properties.Kind.{Kind}
use Rattle.p4_tables.specs.declared.properties.Kind.TheVariants as kind
use Rattle.p4_tables.specs.Tables.{Property, kind_of}

pub cut : {P Q : Grammar} (front back : List Word) → P front → Q back → (P ⨟ Q) (front ++ back)
cut front back p q = record { front = front; back = back; joined = refl; first = p; second = q }

abbrev pub rank : Kind → ℕ
rank kind.Keys = 0
rank kind.Actions = 1
rank kind.Fallback = 2
rank kind.Size = 3
rank kind.Entries = 4

abbrev pub no_kind : ℕ → List Property → Bool
no_kind k [] = true
no_kind k (p ∷ ps) = cond (nat_eq k (rank (kind_of p))) false (no_kind k ps)

abbrev pub apart : List Property → Bool
apart [] = true
apart (p ∷ ps) = cond (no_kind (rank (kind_of p)) ps) (apart ps) false

split_false : (a b : Bool) → cond a false b ≡ true → (a ≡ false) × (b ≡ true)
split_false true b h = let e : false ≡ true = h in absurd cc
split_false false b h = (refl, h)

split_true : (a b : Bool) → cond a b false ≡ true → (a ≡ true) × (b ≡ true)
split_true true b h = (refl, h)
split_true false b h = let e : false ≡ true = h in absurd cc

others : (k : Kind) (ps : List Property) → no_kind (rank k) ps ≡ true → All (λ p. k ≢ kind_of p) ps
others k [] h = λ i d lt. absurd (omega (arith, lt))
others k (p ∷ ps) h =
    let s = split_false (nat_eq (rank k) (rank (kind_of p))) (no_kind (rank k) ps) h in
    All-cons (λ q. k ≢ kind_of q) p ps (λ e. eqb-false (rank k) (rank (kind_of p)) s.0 (ap rank e)) (others k ps s.1)

pub apart_pairs : (ps : List Property) → apart ps ≡ true → AllPairs (λ one other. kind_of one ≢ kind_of other) ps
apart_pairs [] h = λ i j d lt within. absurd (omega (arith, within))
apart_pairs (p ∷ ps) h =
    let s = split_true (no_kind (rank (kind_of p)) ps) (apart ps) h in
    AllPairs-cons (λ one other. kind_of one ≢ kind_of other) p ps (others (kind_of p) ps s.0) (apart_pairs ps s.1)
