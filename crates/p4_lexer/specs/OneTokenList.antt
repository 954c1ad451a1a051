-- A text has at most one list of tokens and one bad place, and not both; this project's own.
use Rattle.p4_lexer.specs.declared.token.Token.{Token}
use Rattle.std.specs.Prelude.{◌≡◌, ℕ, List}
use Rattle.p4_lexer.specs.BadPlaces.{IsBadPlace}
use Rattle.p4_lexer.specs.Tokens.{TokensOf}

-- a text has at most one list of tokens
abbrev pub HasOneTokenList : Type 0
HasOneTokenList = (text : List ℕ) (tokens other : List Token) → TokensOf text tokens → TokensOf text other → tokens ≡ other

-- a text with a bad place has no list of tokens
abbrev pub HasNoTokensWhereBad : Type 0
HasNoTokensWhereBad = (text : List ℕ) (at : ℕ) → IsBadPlace text at → (tokens : List Token) → TokensOf text tokens → ⊥

-- a text has at most one bad place
abbrev pub HasOneBadPlace : Type 0
HasOneBadPlace = (text : List ℕ) (at other : ℕ) → IsBadPlace text at → IsBadPlace text other → at ≡ other
