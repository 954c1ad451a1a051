-- An algebra of grammars, this project's own: a grammar says which lists of words spell one thing. A word's kind is part
-- of what it spells, so no word is both a sign and a name, whatever its bytes are.
use Rattle.std.specs.Prelude.{◌≡◌, ℕ, zero, suc, Bool, true, false, IsTrue, List, [], ◌∷◌, ◌++◌, Option, None, codes, ◌⊎◌}
use Rattle.p4_lexer.specs.declared.token.Kind.{Kind}
use Rattle.p4_lexer.specs.declared.token.Kind.TheVariants as kind
use Rattle.spelling.specs.Words.{Word, Touch}

abbrev pub Grammar : Type 1
Grammar = List Word → Type 0

-- no words at all
abbrev pub Empty : Grammar
Empty ws = ws ≡ []

-- nothing spells it
abbrev pub Nothing : Grammar
Nothing ws = ⊥

abbrev pub is_sign : Kind → Bool
is_sign (kind.Sign code) = true
is_sign other = false

abbrev pub is_reserved : Kind → Bool
is_reserved (kind.Reserved code) = true
is_reserved other = false

abbrev pub is_number : Kind → Bool
is_number (kind.Number width value) = true
is_number other = false

-- one word with a property
pub record One (IsThis : Word → Type 0) (ws : List Word) : Type 0 where
  pub word : Word
  pub alone : ws ≡ word ∷ []
  pub is_this : IsThis word

-- two words, each with a property, that touch
pub record TwoTouching (IsFirst : Word → Type 0) (IsSecond : Word → Type 0) (ws : List Word) : Type 0 where
  pub one : Word
  pub other : Word
  pub both : ws ≡ one ∷ other ∷ []
  pub is_first : IsFirst one
  pub is_second : IsSecond other
  pub touch : Touch one other

-- first the one, then the other
pub record Sequence (First : Grammar) (Second : Grammar) (ws : List Word) : Type 0 where
  pub front : List Word
  pub back : List Word
  pub joined : ws ≡ front ++ back
  pub first : First front
  pub second : Second back

infixr 8 ◌⨟◌
abbrev pub ◌⨟◌ : Grammar → Grammar → Grammar
First ⨟ Second = Sequence First Second

abbrev pub Either : Grammar → Grammar → Grammar
Either This That ws = This ws ⊎ That ws

-- only where a fact holds
abbrev pub Where : Type 0 → Grammar → Grammar
Where fact This ws = fact × This ws

-- each thing of a list, one after the other
abbrev pub Each : {A : Type 0} → (A → Grammar) → List A → Grammar
Each Of [] = Empty
Each Of (x ∷ xs) = Of x ⨟ Each Of xs

-- the things of a list, at least one; the first is spelled otherwise than those after it
abbrev pub FirstThenEach : {A : Type 0} → (A → Grammar) → (A → Grammar) → List A → Grammar
FirstThenEach First Later [] = Nothing
FirstThenEach First Later (x ∷ xs) = First x ⨟ Each Later xs

-- the things of a list, at least one, with a separator between each two
abbrev pub Separated : {A : Type 0} → Grammar → (A → Grammar) → List A → Grammar
Separated Separator Of = FirstThenEach Of (λ x. Separator ⨟ Of x)

abbrev pub IsSign : List ℕ → Word → Type 0
IsSign sign word = IsTrue (is_sign word.kind) × (word.piece ≡ sign)

abbrev pub IsReserved : List ℕ → Word → Type 0
IsReserved text word = IsTrue (is_reserved word.kind) × (word.piece ≡ text)

abbrev pub IsNamed : List ℕ → Word → Type 0
IsNamed name word = (word.kind ≡ kind.Name) × (word.piece ≡ name)

abbrev pub IsNum : ℕ → Word → Type 0
IsNum value word = word.kind ≡ kind.Number None value

-- one word that is this sign
abbrev pub Sign : List ℕ → Grammar
Sign sign = One (IsSign sign)

-- one word that is this reserved word
abbrev pub Reserved : List ℕ → Grammar
Reserved text = One (IsReserved text)

-- one word that is this name; also a fixed one that isn't reserved, as `assume`
abbrev pub Named : List ℕ → Grammar
Named name = One (IsNamed name)

-- one word that is this number without a width
abbrev pub Num : ℕ → Grammar
Num value = One (IsNum value)

-- the things of a list with a comma between each two, perhaps none
abbrev pub Commas : {A : Type 0} → (A → Grammar) → List A → Grammar
Commas Of [] = Empty
Commas Of (x ∷ xs) = Separated (Sign (codes ",")) Of (x ∷ xs)

-- the first word has a property
abbrev pub Begins : (Word → Type 0) → Grammar
Begins IsThis [] = ⊥
Begins IsThis (word ∷ ws) = IsThis word

-- the first two words have a property each, and they touch
abbrev pub BeginTouching : (Word → Type 0) → (Word → Type 0) → Grammar
BeginTouching IsFirst IsSecond [] = ⊥
BeginTouching IsFirst IsSecond (one ∷ []) = ⊥
BeginTouching IsFirst IsSecond (one ∷ other ∷ ws) = IsFirst one × IsSecond other × Touch one other

-- A pair of brackets and what stands between them. The depth is how many brackets may be open at a word; a bracket
-- counts from its opening word on, so what stands between may open one fewer.
abbrev pub Bracketed : List ℕ → List ℕ → ℕ → (ℕ → Grammar) → Grammar
Bracketed opening closing zero Between = Nothing
Bracketed opening closing (suc depth) Between = Sign opening ⨟ Between depth ⨟ Sign closing

-- a word is a name, or a number with a width or without
abbrev pub IsName : Word → Type 0
IsName word = word.kind ≡ kind.Name

abbrev pub IsAnyNumber : Word → Type 0
IsAnyNumber word = IsTrue (is_number word.kind)

-- one word that is this number with this width
abbrev pub NumberOf : Option ℕ × ℕ → Grammar
NumberOf number = One (λ word. word.kind ≡ kind.Number number.0 number.1)

-- one word that is the include of this file
abbrev pub IncludeOf : ℕ → Grammar
IncludeOf file = One (λ word. word.kind ≡ kind.Include file)

-- two signs that touch
abbrev pub TwoSigns : List ℕ → List ℕ → Grammar
TwoSigns one other = TwoTouching (IsSign one) (IsSign other)

abbrev pub BeginSigns : List ℕ → List ℕ → Grammar
BeginSigns one other = BeginTouching (IsSign one) (IsSign other)
