-- Which words spell sums of numbers times symbols, comparisons of sums and several comparisons, this project's own. A number
-- that doesn't fit its place in the tree spells nothing.
use Rattle.std.specs.Prelude.{◌≡◌, ℕ, ◌<◌, ◌^◌, Bool, true, false, List, Option, None, Some, IfSome, codes}
use Rattle.elastic_ast.specs.declared.declarations.LinTerm.{LinTerm}
use Rattle.elastic_ast.specs.declared.declarations.Rel.{Rel}
use Rattle.elastic_ast.specs.declared.declarations.Rel.TheVariants as rel
use Rattle.elastic_ast.specs.declared.declarations.Comp.{Comp}
use Rattle.spelling.specs.Words.{Word}
use Rattle.spelling.specs.Reading.{ahead, MayTake, Takes}
use Rattle.spelling.specs.declared.reader.Reader.{Reader}
use Rattle.spelling.specs.Grammar.{Grammar, ◌⨟◌, Either, Where, FirstThenEach, Separated, Sign, Named, Num}

-- lterm := K | N | K '*' N, a name standing for 1 times it
abbrev pub SpellsProduct : ℕ → Option (List ℕ) → Grammar
SpellsProduct by None = Where (by < 2 ^ 64) (Num by)
SpellsProduct by (Some symbol) = Either (Where (by ≡ 1) (Named symbol)) (Where (by < 2 ^ 64) (Num by ⨟ Sign (codes "*") ⨟ Named symbol))

-- the sign before each term of a sum but the first
abbrev pub SpellsSign : Bool → Grammar
SpellsSign true = Sign (codes "-")
SpellsSign false = Sign (codes "+")

-- what the reader of a sign answers: the sign that stands first, and none where none does
abbrev pub TakesSign : Reader → Reader → Option Bool → Type 0
TakesSign before after result = IfSome result (λ minus. Takes (SpellsSign minus) (ahead before) (ahead after))

abbrev pub ReadsSign : Reader → Reader → Option Bool → Type 0
ReadsSign before after result = (minus : Bool) (rest : List Word) → MayTake (SpellsSign minus) (ahead before) rest → (result ≡ Some minus) × (ahead after ≡ rest)

-- a term without its sign, which stands before
abbrev pub SpellsTerm : Bool → LinTerm → Grammar
SpellsTerm minus term = Where (term.minus ≡ minus) (SpellsProduct term.by term.symbol)

-- the first term of a sum has no sign
abbrev pub SpellsFirstTerm : LinTerm → Grammar
SpellsFirstTerm = SpellsTerm false

abbrev pub SpellsLaterTerm : LinTerm → Grammar
SpellsLaterTerm term = SpellsSign term.minus ⨟ SpellsProduct term.by term.symbol

-- lin := lterm (('+' | '-') lterm)*
abbrev pub SpellsSum : List LinTerm → Grammar
SpellsSum = FirstThenEach SpellsFirstTerm SpellsLaterTerm

abbrev pub SpellsRelation : Rel → Grammar
SpellsRelation rel.Le = Sign (codes "<=")
SpellsRelation rel.Lt = Sign (codes "<")
SpellsRelation rel.Ge = Sign (codes ">=")
SpellsRelation rel.Gt = Sign (codes ">")
SpellsRelation rel.Eq = Sign (codes "==")

-- comp := lin ('<=' | '<' | '>=' | '>' | '==') lin
abbrev pub SpellsComparison : Comp → Grammar
SpellsComparison comp = SpellsSum comp.left ⨟ SpellsRelation comp.rel ⨟ SpellsSum comp.right

-- comp ('&&' comp)*
abbrev pub SpellsComparisons : List Comp → Grammar
SpellsComparisons = Separated (Sign (codes "&&")) SpellsComparison
