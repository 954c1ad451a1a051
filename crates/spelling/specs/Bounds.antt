-- Where a bound of a reader is passed, this project's own: a reader that refuses as too deep stops before the word that passes it.
use Rattle.std.specs.Prelude.{◌≡◌, ℕ, ◌+◌, ◌-◌, ◌^◌, ◌≤◌, min, IsTrue, List, [], ◌∷◌, ◌++◌, codes, drop, length}
use Rattle.p4_lexer.specs.declared.token.Token.{Token}
use Rattle.spelling.specs.Words.{Word, words}
use Rattle.spelling.specs.Grammar.{Grammar, Begins, IsSign}
use Rattle.spelling.specs.Brackets.{opens, open_behind}
use Rattle.spelling.specs.declared.error.SyntaxError.{SyntaxError}
use Rattle.spelling.specs.declared.error.SyntaxError.TheVariants as error

-- a refusal as too deep comes only where this holds
abbrev pub IfTooDeep : Type 0 → SyntaxError → Type 0
IfTooDeep Passed error.Memory = Unit {0}
IfTooDeep Passed (error.NotProgram token) = Unit {0}
IfTooDeep Passed (error.TooDeep token) = Passed

-- the same of the token that it names
abbrev pub IfTooDeepAt : (ℕ → Type 0) → SyntaxError → Type 0
IfTooDeepAt Passed error.Memory = Unit {0}
IfTooDeepAt Passed (error.NotProgram token) = Unit {0}
IfTooDeepAt Passed (error.TooDeep token) = Passed token

-- a refusal that isn't as too deep
abbrev pub IsNeverDeep : SyntaxError → Type 0
IsNeverDeep = IfTooDeep ⊥

-- words behind which so many brackets more are open than before them
pub record Opens (count : ℕ) (ws : List Word) : Type 0 where
  pub counted : (before : ℕ) → open_behind before ws ≡ before + count

-- no end of a statement, and no bracket of a block
abbrev pub IsInLine : Word → Type 0
IsInLine word = (IsSign (codes ";") word → ⊥) × (IsSign (codes "{") word → ⊥) × (IsSign (codes "}") word → ⊥)

abbrev pub AreInLine : List Word → Type 0
AreInLine [] = Unit {0}
AreInLine (word ∷ ws) = IsInLine word × AreInLine ws

-- words within one statement without statements in it, behind which so many brackets more are open
pub record Line (count : ℕ) (ws : List Word) : Type 0 where
  pub opened : Opens count ws
  pub in_line : AreInLine ws

-- what stands between two places, and what stands first behind them
pub record Stops (Begun Next : Grammar) (before after : List Word) : Type 0 where
  pub front : List Word
  pub joined : before ≡ front ++ after
  pub begun : Begun front
  pub next : Next after

-- an opening bracket stands first
abbrev pub OpensNext : Grammar
OpensNext = Begins (λ word. IsTrue (opens word))

-- what holds of the words of a text from one place and from the place of a token on; the number of a token is at most that of 32 bits
pub record PassedAt (Passed : List Word → List Word → Type 0) (text : List ℕ) (tokens : List Token) (at token : ℕ) : Type 0 where
  pub next : ℕ
  pub within : next ≤ length tokens
  pub named : token ≡ min next (2 ^ 32 - 1)
  pub passed : Passed (words text (drop at tokens)) (words text (drop next tokens))
