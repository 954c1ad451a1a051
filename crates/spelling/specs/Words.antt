-- The words of a text, this project's own: its tokens, each with its kind, its bytes and its place.
use Rattle.std.specs.Prelude.{◌≡◌, ℕ, ◌-◌, List, map, take, drop}
use Rattle.p4_lexer.specs.declared.token.Kind.{Kind}
use Rattle.p4_lexer.specs.declared.token.Token.{Token}

-- a word, and the places of its first byte and after its last one
pub record Word : Type 0 where
  pub kind : Kind
  pub piece : List ℕ
  pub at : ℕ
  pub end : ℕ

-- the bytes of a text from where a token begins to where it ends
abbrev pub piece_of : List ℕ → Token → List ℕ
piece_of text token = take (token.end - token.at) (drop token.at text)

abbrev pub word_of : List ℕ → Token → Word
word_of text token = record { kind = token.kind; piece = piece_of text token; at = token.at; end = token.end }

abbrev pub words : List ℕ → List Token → List Word
words text tokens = map (word_of text) tokens

-- nothing stands between the two
abbrev pub Touch : Word → Word → Type 0
Touch first second = first.end ≡ second.at
