use Rattle.std.proofs.lemmas.Result.{IfOk-weaker}
use Rattle.std.proofs.lemmas.Bool.{false≢true}
use Rattle.std.proofs.Common.{◌≡◌, codes, refl}
use Rattle.spelling.specs.Reading.{Takes, IsReading, ahead}
use Rattle.p4_statements.specs.Statements.{SpellsPlain}
use Rattle.p4_statements.specs.Reading.{HasFew, a_call}
use Rattle.elastic_ast.specs.Tree.{PlainStmt}
use Rattle.p4_statements.proofs.FewReading.{any_form}
use Rattle.std.proofs.Common.{◌≤◌, drop, inl, inr}
use Rattle.elastic_ast.specs.Seen.{seen_stmt}
use Rattle.spelling.proofs.Only.{no_sign, not_there}
use Rattle.spelling.proofs.Taking.{takes_as}
use Rattle.p4_statements.proofs.Ahead.{apply_words, by_simple, call_words, plain_none, plain_simple}
use Rattle.p4_statements.proofs.simple.simple_statement.Goals as goal

pub returns-then-is_at_call : goal.returns-then-is_at_call
returns-then-is_at_call c =
    any_form a_call c.call.ensures (λ more stmt rest m.
    by_simple more (λ s. (of : _) × (a_call of ≡ s)) stmt m
    (λ action index args f. ((action, index, args), refl))
    (λ table f. let w = apply_words more table f in absurd (c.if-is_at_call.ensures.none refl (λ at. no_sign (codes ".") (codes "(") (drop 1 (ahead c.args.reader.now)) refl w.0 at) (λ at _. no_sign (codes ".") (codes "[") (drop 1 (ahead c.args.reader.now)) refl w.0 at)))
    (λ plain f. let n = plain_none more plain f in absurd (c.if-is_at_call.ensures.none refl n.plain n.index)))

pub returns-then-is_at_apply : goal.returns-then-is_at_apply
returns-then-is_at_apply c =
    let at = c.if-is_at_apply.ensures.0 refl in
    any_form PlainStmt.Apply c.apply.ensures (λ more stmt rest m.
    by_simple more (λ s. (of : _) × (PlainStmt.Apply of ≡ s)) stmt m
    (λ action index args f. let w = call_words more action index args f in absurd (elim w.told [ inl h ↦ false≢true (c.if-is_at_call.ensures.plain h) | inr h ↦ false≢true (c.if-is_at_call.ensures.index h.0 h.1) ]))
    (λ table f. (table, refl))
    (λ plain f. absurd ((plain_none more plain f).apply at.0 at.1)))

pub returns-else-is_at_apply : goal.returns-else-is_at_apply
returns-else-is_at_apply c =
    record {
      taken = IfOk-weaker _ (λ s. Takes (SpellsPlain c.args.depth (seen_stmt s)) (ahead c.args.reader.now) (ahead c.plain_statement.new.reader)) _ (λ s t. takes_as (plain_simple c.args.depth (seen_stmt s)) t) c.plain_statement.ensures.taken;
      few = c.plain_statement.ensures.few;
      only = λ more stmt rest m.
          by_simple more (λ s. IsReading ((more ≤ c.args.depth) × HasFew s) seen_stmt s rest (ahead c.plain_statement.new.reader) c.plain_statement.result) stmt m
          (λ action index args f. let w = call_words more action index args f in absurd (elim w.told [ inl h ↦ false≢true (c.if-is_at_call.ensures.plain h) | inr h ↦ false≢true (c.if-is_at_call.ensures.index h.0 h.1) ]))
          (λ table f. let w = apply_words more table f in absurd (not_there c.if-is_at_apply.ensures.1 (w.1, w.2)))
          (λ plain f. c.plain_statement.ensures.only more plain rest f);
      deep = c.plain_statement.ensures.deep;
    }
