-- Words that are known one by one, taken from the front of what spells something.
use Rattle.std.proofs.Common.{◌≡◌, ℕ, zero, suc, List, [], ◌∷◌, drop, refl, sym, subst, add-one}
use Rattle.spelling.specs.Words.{Word}
use Rattle.spelling.specs.Grammar.{Grammar, Empty, Where, ◌⨟◌, One, Sign, Begins, Bracketed}
use Rattle.spelling.specs.Reading.{MayTake}
use Rattle.spelling.proofs.Only.{after_one, begins_first, empty_same, fact_of, of_where, split, within}
use Rattle.spelling.proofs.Places.{takes_word}
use Rattle.spelling.proofs.Taking.{may_both}

-- the first word, and what follows it
pub first_is : {P : Word → Type 0} {Q : Grammar} {w : Word} {ws c : List Word} → MayTake (One P ⨟ Q) (w ∷ ws) c → P w
first_is m = begins_first m

pub peel : {P : Word → Type 0} {Q : Grammar} {w : Word} {ws c : List Word} → MayTake (One P ⨟ Q) (w ∷ ws) c → MayTake Q ws c
peel {P = P} m = after_one {G = P} m (takes_word {IsThis = P} refl (begins_first m))

-- what stands under a fact, first
pub under_fact : {fact : Type 0} {P Q : Grammar} {a c : List Word} → MayTake (Where fact P ⨟ Q) a c → fact × MayTake (P ⨟ Q) a c
under_fact m = let s = split m in (fact_of s.first, may_both (of_where s.first) s.second)

pub past_none : {Q : Grammar} {a c : List Word} → MayTake (Empty ⨟ Q) a c → MayTake Q a c
past_none {Q = Q} {c = c} m = let s = split m in subst (λ ws. MayTake Q ws c) (sym (empty_same s.first)) s.second

-- a pair of brackets, which some depth allows
pub record Opened (opening closing : List ℕ) (depth : ℕ) (Between : ℕ → Grammar) (Q : Grammar) (a c : List Word) : Type 0 where
  pub inner : ℕ
  pub more : depth ≡ suc inner
  pub ahead : MayTake (Sign opening ⨟ Between inner ⨟ Sign closing ⨟ Q) a c

pub opened : (opening closing : List ℕ) (depth : ℕ) (Between : ℕ → Grammar) {Q : Grammar} {a c : List Word} → MayTake (Bracketed opening closing depth Between ⨟ Q) a c → Opened opening closing depth Between Q a c
opened opening closing zero Between m = absurd (split m).first.spelled
opened opening closing (suc depth) Between m = record { inner = depth; more = refl; ahead = within opening closing (suc depth) depth Between (sym (add-one depth)) m }

-- the second word
pub begins_second : {F G : Word → Type 0} {Q : Grammar} {c : List Word} (a : List Word) → MayTake (One F ⨟ One G ⨟ Q) a c → Begins G (drop 1 a)
begins_second [] m = absurd (begins_first m)
begins_second (word ∷ ws) m = begins_first (peel m)
