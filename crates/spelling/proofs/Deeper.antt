-- What a grammar spells, another spells too: each grammar of the algebra, with a greater depth where it has one.
use Rattle.std.proofs.Common.{ℕ, zero, suc, ◌≤◌, List, [], ◌∷◌, inl, inr, codes, arith}
use Rattle.spelling.specs.Words.{Word}
use Rattle.spelling.specs.Grammar.{Grammar, Either, Where, ◌⨟◌, Each, FirstThenEach, Separated, Commas, Sign, Bracketed}

abbrev pub Under : Grammar → Grammar → Type 0
Under P Q = (ws : List Word) → P ws → Q ws

pub itself : (P : Grammar) → Under P P
itself P ws h = h

pub under_both : {P Q R S : Grammar} → Under P Q → Under R S → Under (P ⨟ R) (Q ⨟ S)
under_both f g ws h = record { front = h.front; back = h.back; joined = h.joined; first = f h.front h.first; second = g h.back h.second }

pub under_either : {P Q R S : Grammar} → Under P Q → Under R S → Under (Either P R) (Either Q S)
under_either f g ws (inl h) = inl (f ws h)
under_either f g ws (inr h) = inr (g ws h)

pub under_where : {fact : Type 0} {P Q : Grammar} → Under P Q → Under (Where fact P) (Where fact Q)
under_where f ws h = (h.0, f ws h.1)

pub under_each : {A : Type 0} (P Q : A → Grammar) → ((x : A) → Under (P x) (Q x)) → (xs : List A) → Under (Each P xs) (Each Q xs)
under_each P Q f [] = itself (Each P [])
under_each P Q f (x ∷ xs) = under_both (f x) (under_each P Q f xs)

pub under_first : {A : Type 0} (P Q R S : A → Grammar) → ((x : A) → Under (P x) (Q x)) → ((x : A) → Under (R x) (S x)) → (xs : List A) → Under (FirstThenEach P R xs) (FirstThenEach Q S xs)
under_first P Q R S f g [] = itself (FirstThenEach P R [])
under_first P Q R S f g (x ∷ xs) = under_both (f x) (under_each R S g xs)

pub under_separated : {A : Type 0} (Separator : Grammar) (P Q : A → Grammar) → ((x : A) → Under (P x) (Q x)) → (xs : List A) → Under (Separated Separator P xs) (Separated Separator Q xs)
under_separated Separator P Q f = under_first P Q (λ x. Separator ⨟ P x) (λ x. Separator ⨟ Q x) f (λ x. under_both (itself Separator) (f x))

pub under_commas : {A : Type 0} (P Q : A → Grammar) → ((x : A) → Under (P x) (Q x)) → (xs : List A) → Under (Commas P xs) (Commas Q xs)
under_commas P Q f [] = itself (Commas P [])
under_commas P Q f (x ∷ xs) = under_separated (Sign (codes ",")) P Q f (x ∷ xs)

-- what stands between two brackets, with a greater depth
pub under_bracketed : (opening closing : List ℕ) (depth more : ℕ) (P Q : ℕ → Grammar) → depth ≤ more → ((inner outer : ℕ) → inner ≤ outer → Under (P inner) (Q outer)) → Under (Bracketed opening closing depth P) (Bracketed opening closing more Q)
under_bracketed opening closing zero more P Q le f ws h = absurd h
under_bracketed opening closing (suc depth) zero P Q le f ws h = absurd (omega (arith, le))
under_bracketed opening closing (suc depth) (suc more) P Q le f ws h = under_both (itself (Sign opening)) (under_both (f depth more (omega (arith, le))) (itself (Sign closing))) ws h
