use Rattle.std.proofs.Common.{Bool, codes, refl, rules, ℕ}
use Rattle.p4_expr.proofs.PartsWithin.{lval_stays}
use Rattle.p4_expr.specs.GoesOn.{EndsIndex}
use Rattle.p4_expr.specs.Parts.{SpellsLval}
use Rattle.spelling.specs.Grammar.{Grammar, ◌⨟◌, Sign}
use Rattle.elastic_ast.specs.declared.statements.Lval.{Lval}
use Rattle.spelling.specs.Readers.{itself}
use Rattle.spelling.proofs.Balance.{stays_both, stays_sign}
use Rattle.spelling.proofs.ByParts.{both_parts, no_first, no_second, with_sign, with_sign_before, words_within}
use Rattle.spelling.proofs.Only.{takes_regroup, ungroup}
use Rattle.p4_tables.specs.Tables.{SpellsKey, SpellsMatch}
use Rattle.p4_tables.proofs.EntrySpelling.{colon_is_no_index, place_within, same_key}
use Rattle.p4_tables.proofs.entries.key.Goals as goal

-- a field with its colon, and how it matches with its semicolon
abbrev FieldThen : ℕ → Lval → Grammar
FieldThen depth field = SpellsLval depth field ⨟ Sign (codes ":")

abbrev MatchThen : ℕ → Bool → Grammar
MatchThen depth ternary = SpellsMatch ternary ⨟ Sign (codes ";")

pub returns-in_err-field : goal.returns-in_err-field
returns-in_err-field c =
    no_first {First = FieldThen} MatchThen (λ key. key.field) (λ key. key.ternary) _ (λ more x a b m. ungroup m) c.from_residual.ensures.1
    (with_sign_before {Follows = EndsIndex} {Of = SpellsLval} {seen = itself} colon_is_no_index (λ old new r call. place_within (search rules)) c.in_err-field.ensures)

pub returns-in_err-ternary : goal.returns-in_err-ternary
returns-in_err-ternary c =
    no_second {First = FieldThen} {Then = MatchThen} (λ key. key.field) (λ key. key.ternary) {seen = itself} {first_seen = itself} {then_seen = itself} c.then_sign.new.reader c.in_ok-field.field _ (λ more x a b m. ungroup m) c.from_residual-in_err-ternary.ensures.1 (stays_both (lval_stays c.args.depth c.in_ok-field.field) (stays_sign (codes ":") refl refl))
    (with_sign_before {Follows = EndsIndex} {Of = SpellsLval} {seen = itself} colon_is_no_index (λ old new r call. place_within (search rules)) c.in_ok-field.ensures)
    (with_sign {Of = λ _. SpellsMatch} {seen = itself} (λ old new r call. words_within (search rules)) c.in_err-ternary.ensures)

pub returns : goal.returns
returns c =
    both_parts {Of = SpellsKey} {First = FieldThen} {Then = MatchThen} (λ key. key.field) (λ key. key.ternary) {seen = itself} {first_seen = itself} {then_seen = itself} c.then_sign.new.reader c.in_ok-field.field c.in_ok-ternary.ternary _ (λ more x a b m. ungroup m) (λ t. takes_regroup t) (λ x e f. same_key _ x e f)
    (with_sign_before {Follows = EndsIndex} {Of = SpellsLval} {seen = itself} colon_is_no_index (λ old new r call. place_within (search rules)) c.in_ok-field.ensures)
    (with_sign {Of = λ _. SpellsMatch} {seen = itself} (λ old new r call. words_within (search rules)) c.in_ok-ternary.ensures)
