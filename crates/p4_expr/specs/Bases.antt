-- A primary expression without the slices behind it, by its form; this project's own.
use Rattle.std.specs.Prelude.{◌≡◌, ℕ, codes}
use Rattle.elastic_ast.specs.Tree.{PlainExpr}
use Rattle.spelling.specs.Grammar.{Grammar, Nothing, Either, ◌⨟◌, Sign, Named, Bracketed, Where}
use Rattle.p4_expr.specs.Parts.{SpellsNumber, SpellsTruth, SpellsAmount, SpellsLval, SpellsIsValid}
use Rattle.p4_expr.specs.Expressions.{SpellsExpr}
use Rattle.p4_expr.specs.declared.forms.Form.{Form}
use Rattle.p4_expr.specs.declared.forms.Form.TheVariants as form

-- what is spelled by words of its own, that is without brackets around it
abbrev pub SpellsOwn : ℕ → PlainExpr → Grammar
SpellsOwn depth (PlainExpr.Num width value) = SpellsNumber width value
SpellsOwn depth (PlainExpr.Truth which) = SpellsTruth which
SpellsOwn depth (PlainExpr.Named name) = Named name
SpellsOwn depth (PlainExpr.At lval) = SpellsLval depth lval
SpellsOwn depth (PlainExpr.IsValid header) = SpellsIsValid depth header
SpellsOwn depth (PlainExpr.Unary op of) = Nothing
SpellsOwn depth (PlainExpr.Binary op left right) = Nothing
SpellsOwn depth (PlainExpr.Cast width of) = Nothing
SpellsOwn depth (PlainExpr.Slice of high low) = Nothing
SpellsOwn depth (PlainExpr.Hash number of modulus) =
    Named (codes "hash") ⨟ Bracketed (codes "(") (codes ")") depth (λ inner. (SpellsAmount number ⨟ Sign (codes ",")) ⨟ SpellsExpr inner of ⨟ Sign (codes ",") ⨟ SpellsAmount modulus)

-- the form of what is spelled by words of its own
abbrev pub form_of : PlainExpr → Form
form_of (PlainExpr.Num width value) = form.Number
form_of (PlainExpr.Truth which) = form.Truth
form_of (PlainExpr.Named name) = form.Name
form_of (PlainExpr.At lval) = form.Place
form_of (PlainExpr.IsValid header) = form.Validity
form_of (PlainExpr.Unary op of) = form.Other
form_of (PlainExpr.Binary op left right) = form.Other
form_of (PlainExpr.Cast width of) = form.Other
form_of (PlainExpr.Slice of high low) = form.Other
form_of (PlainExpr.Hash number of modulus) = form.Hash

-- a hash
abbrev pub SpellsHash : ℕ → PlainExpr → Grammar
SpellsHash depth e = Where (form.Hash ≡ form_of e) (SpellsOwn depth e)

-- any expression in brackets
abbrev pub SpellsInBrackets : ℕ → PlainExpr → Grammar
SpellsInBrackets depth e = Bracketed (codes "(") (codes ")") depth (λ inner. SpellsExpr inner e)

abbrev pub SpellsBase : ℕ → PlainExpr → Grammar
SpellsBase depth e = Either (SpellsOwn depth e) (SpellsInBrackets depth e)
