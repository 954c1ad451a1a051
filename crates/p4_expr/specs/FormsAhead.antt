-- Which form of primary expressions the words ahead tell, and what the reader of one answers; this project's own.
use Rattle.std.specs.Prelude.{◌≡◌, ℕ, ◌≤◌, IfOk, List, codes, length, ◌⊎◌}
use Rattle.elastic_ast.specs.Tree.{PlainExpr}
use Rattle.spelling.specs.Words.{Word}
use Rattle.spelling.specs.Grammar.{Begins, IsSign}
use Rattle.spelling.specs.Reading.{ahead, MayTake}
use Rattle.spelling.specs.declared.reader.Reader.{Reader}
use Rattle.p4_expr.specs.Bases.{SpellsInBrackets, SpellsOwn, form_of}
use Rattle.p4_expr.specs.GoesOn.{EndsIndex}
use Rattle.p4_expr.specs.Readings.{BeginsTest, Counted, CountsOperators, IsCountedRead, RefusesPast, TakesExpr}
use Rattle.p4_expr.specs.Standing.{StandsHash}
use Rattle.p4_expr.specs.declared.forms.Form.{Form}
use Rattle.p4_expr.specs.declared.forms.Form.TheVariants as form

-- One form is told, and one is that of what is spelled there, with `rest` behind it: they are the same, or what is spelled ends
-- sooner, and what is told goes on there. So they are the same where nothing goes on (EndsBase).
abbrev pub Told : (told spelled : Form) (rest : List Word) → Type 0
Told form.Place spelled rest = (form.Place ≡ spelled) ⊎ ((form.Name ≡ spelled) × Begins (IsSign (codes ".")) rest)
Told form.Validity spelled rest = (form.Validity ≡ spelled) ⊎ ((form.Name ≡ spelled) × Begins (IsSign (codes ".")) rest) ⊎ ((form.Place ≡ spelled) × Begins (IsSign (codes "(")) rest)
Told form.Hash spelled rest = (form.Hash ≡ spelled) ⊎ ((form.Name ≡ spelled) × Begins (IsSign (codes "(")) rest)
Told told spelled rest = told ≡ spelled

-- The form of what may be spelled by these words, by words of its own or in brackets.
pub record TellsForm (ws : List Word) (result : Form) : Type 0 where
  pub told : (depth : ℕ) (e : PlainExpr) (rest : List Word) → MayTake (SpellsOwn depth e) ws rest → Told result (form_of e) rest
  pub bracketed : (depth : ℕ) (e : PlainExpr) (rest : List Word) → MayTake (SpellsInBrackets depth e) ws rest → result ≡ form.Bracketed
  pub hash : result ≡ form.Hash → StandsHash ws
  pub test : result ≡ form.Validity → BeginsTest ws

-- what is read of a form is at least as long as every front that is spelled where the form is told
abbrev pub ReadsLongestForm : Form → Reader → Reader → Counted → Type 0
ReadsLongestForm told before after result = IfOk result (λ _. (more : ℕ) (e : PlainExpr) (rest : List Word) → MayTake (SpellsOwn more e) (ahead before) rest → Told told (form_of e) rest → length (ahead after) ≤ length rest)

-- A reader of one form of what has words of its own, with as many operators as may be: it reads what is of the form, and no less than
-- what the form may be told for.
pub record ReadsForm (which : Form) (depth left : ℕ) (before after : Reader) (result : Counted) : Type 0 where
  pub taken : TakesExpr (SpellsOwn depth) before after result
  pub count : CountsOperators left result
  pub only : (more : ℕ) (e : PlainExpr) (rest : List Word) → MayTake (SpellsOwn more e) (ahead before) rest → EndsIndex rest → which ≡ form_of e → (which ≡ form.Hash → ⊥) → IsCountedRead depth left more e rest after result
  pub longest : ReadsLongestForm which before after result
  pub deep : (which ≡ form.Validity → BeginsTest (ahead before)) → RefusesPast depth left before after result
