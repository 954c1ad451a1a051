use Rattle.std.proofs.lemmas.Result.{IfOk-weaker}
use Rattle.std.proofs.lemmas.Bool.{false≢true}
use Rattle.elastic_ast.specs.Tree.{PlainStmt}
use Rattle.p4_statements.proofs.FewReading.{any_form}
use Rattle.spelling.proofs.Refusals.{refused_few}
use Rattle.std.proofs.Common.{◌≡◌, codes, refl, sym, subst, [], ◌≤◌, inl}
use Rattle.std.proofs.lemmas.List.Elements.{All-cons, All-head, All-nil}
use Rattle.elastic_ast.specs.Tree.{PlainStmt}
use Rattle.spelling.specs.Reading.{Takes, IsReading, ahead, WantsOr}
use Rattle.spelling.proofs.Only.{after, after_one, begins_first, wants, wants_one, not_there}
use Rattle.spelling.proofs.Taking.{takes_both, may}
use Rattle.spelling.proofs.Limits.{or_as, want_or, reading_as}
use Rattle.p4_expr.specs.Expressions.{HasFewOperators}
use Rattle.p4_expr.proofs.PartSpelling.{ends_index}
use Rattle.p4_statements.specs.Statements.{SpellsPlain}
use Rattle.p4_statements.specs.Reading.{Assigns, HasFew, ReadsInto, a_change, a_write}
use Rattle.elastic_ast.specs.Seen.{seen_stmt}
use Rattle.p4_statements.proofs.Ahead.{by_plain, no_write, place_ahead, place_no_call, place_no_index, place_no_validity, read_ahead, reads_on, validity_ahead, validity_no_call, validity_no_index}
use Rattle.p4_statements.proofs.NoRead.{no_read_of}
use Rattle.spelling.proofs.Bounds.{deep_as, in_both, in_sign, if_deep, refused_deep}
use Rattle.spelling.proofs.Balance.{stays_both, stays_sign}
use Rattle.p4_expr.proofs.PartsWithin.{lval_stays}
use Rattle.p4_expr.proofs.InLines.{lval_in_line}
use Rattle.p4_statements.proofs.Lines.{past}
use Rattle.p4_statements.proofs.plain.plain_statement.Goals as goal

pub returns-then-is_at_write : goal.returns-then-is_at_write
returns-then-is_at_write c =
    any_form a_write c.write.ensures (λ more stmt rest m.
    by_plain more (λ s. (of : _) × (a_write of ≡ s)) stmt m
    (λ to value f. let p = place_ahead more to f in absurd (c.if-is_at_write.ensures.none refl (place_no_index p) (place_no_call p)))
    (λ to reg cell f. let p = place_ahead more to f in absurd (c.if-is_at_write.ensures.none refl (place_no_index p) (place_no_call p)))
    (λ reg cell value f. ((reg, cell, value), refl))
    (λ header on f. let v = validity_ahead more header on f in absurd (c.if-is_at_write.ensures.none refl (validity_no_index v) (validity_no_call v))))

pub returns-then-is_at_validity : goal.returns-then-is_at_validity
returns-then-is_at_validity c =
    let at = c.if-is_at_validity.ensures.0 refl in
    any_form a_change c.validity.ensures (λ more stmt rest m.
    by_plain more (λ s. (of : _) × (a_change of ≡ s)) stmt m
    (λ to value f. absurd (place_no_validity (place_ahead more to f) at.0 at.1))
    (λ to reg cell f. absurd (place_no_validity (place_ahead more to f) at.0 at.1))
    (λ reg cell value f. absurd (no_write more reg cell value f (λ at. false≢true (c.if-is_at_write.ensures.index at)) (λ at. false≢true (c.if-is_at_write.ensures.call at))))
    (λ header on f. ((header, on), refl)))

pub returns-in_err-to : goal.returns-in_err-to
returns-in_err-to c =
    refused_few c.in_err-to.field-0.0 c.from_residual.ensures.1 (λ more stmt rest m.
    by_plain more (λ s. WantsOr ((more ≤ c.args.depth) × HasFew s) c.in_err-to.field-0.0) stmt m
    (λ to value f. (wants f (λ b f s. or_as _ _ _ (λ few. few.0) (c.in_err-to.ensures.only more to b f (ends_index (codes "=") b refl (begins_first s))))))
    (λ to reg cell f. (wants f (λ b f s. or_as _ _ _ (λ few. few.0) (c.in_err-to.ensures.only more to b f (ends_index (codes "=") b refl (begins_first s))))))
    (λ reg cell value f. absurd (no_write more reg cell value f (λ at. false≢true (c.if-is_at_write.ensures.index at)) (λ at. false≢true (c.if-is_at_write.ensures.call at))))
    (λ header on f. let v = validity_ahead more header on f in absurd (not_there c.if-is_at_validity.ensures.1 (v.third, v.call))))
    (if_deep _ (λ s. inl s) c.in_err-to.ensures.deep)

pub returns-in_err-sign : goal.returns-in_err-sign
returns-in_err-sign c =
    refused_few c.in_err-sign.field-0.0 c.from_residual-in_err-sign.ensures.1 (λ more stmt rest m.
    by_plain more (λ s. WantsOr ((more ≤ c.args.depth) × HasFew s) c.in_err-sign.field-0.0) stmt m
    (λ to value f. let m1 = after f (λ b f s. c.in_ok-to.ensures.only more to b f (ends_index (codes "=") b refl (begins_first s))) in (want_or _ _ (wants_one _ _ m1.1 c.in_err-sign.ensures.refused)))
    (λ to reg cell f. let m1 = after f (λ b f s. c.in_ok-to.ensures.only more to b f (ends_index (codes "=") b refl (begins_first s))) in (want_or _ _ (wants_one _ _ m1.1 c.in_err-sign.ensures.refused)))
    (λ reg cell value f. absurd (no_write more reg cell value f (λ at. false≢true (c.if-is_at_write.ensures.index at)) (λ at. false≢true (c.if-is_at_write.ensures.call at))))
    (λ header on f. let v = validity_ahead more header on f in absurd (not_there c.if-is_at_validity.ensures.1 (v.third, v.call))))
    (refused_deep _ _ _ _ c.in_err-sign.ensures.refused)

pub returns-then-is_at_read : goal.returns-then-is_at_read
returns-then-is_at_read c =
    record {
      taken = IfOk-weaker _ (λ s. ReadsInto c.args.depth c.in_ok-to.to (ahead c.sign.new.self) (ahead c.read.new.reader) (seen_stmt s)) _ (λ s r. subst (λ p. Takes (SpellsPlain c.args.depth p) (ahead c.args.reader.now) (ahead c.read.new.reader)) (sym r.is) (takes_both c.in_ok-to.ensures.taken (takes_both c.in_ok-sign.ensures.taken r.taken))) c.read.ensures.taken;
      few = IfOk-weaker _ (λ s. ReadsInto c.args.depth c.in_ok-to.to (ahead c.sign.new.self) (ahead c.read.new.reader) (seen_stmt s)) _ (λ s r. subst HasFew (sym r.is) (All-cons HasFewOperators r.cell [] r.few (All-nil HasFewOperators))) c.read.ensures.taken;
      only = λ more stmt rest m.
          by_plain more (λ s. IsReading ((more ≤ c.args.depth) × HasFew s) seen_stmt s rest (ahead c.read.new.reader) c.read.result) stmt m
          (λ to value f. let m1 = after f (λ b f s. c.in_ok-to.ensures.only more to b f (ends_index (codes "=") b refl (begins_first s))) in let m2 = after_one m1.1 c.in_ok-sign.ensures.taken in absurd (no_read_of more value m2 (c.if-is_at_read.ensures.none refl)))
          (λ to reg cell f. let m1 = after f (λ b f s. c.in_ok-to.ensures.only more to b f (ends_index (codes "=") b refl (begins_first s))) in let m2 = after_one m1.1 c.in_ok-sign.ensures.taken in subst (λ t. IsReading ((more ≤ c.args.depth) × HasFew (PlainStmt.Read t reg cell)) seen_stmt (PlainStmt.Read t reg cell) rest (ahead c.read.new.reader) c.read.result) m1.0 (reading_as _ _ _ _ _ _ _ (λ few. (few.0, All-head HasFewOperators cell [] few.1)) (c.read.ensures.only more reg cell rest m2)))
          (λ reg cell value f. absurd (no_write more reg cell value f (λ at. false≢true (c.if-is_at_write.ensures.index at)) (λ at. false≢true (c.if-is_at_write.ensures.call at))))
          (λ header on f. let v = validity_ahead more header on f in absurd (not_there c.if-is_at_validity.ensures.1 (v.third, v.call)));
      deep = deep_as c.read.result (λ p. past c.args.depth (may (takes_both c.in_ok-to.ensures.taken c.in_ok-sign.ensures.taken)) (stays_both (lval_stays c.args.depth c.in_ok-to.to) (stays_sign (codes "=") refl refl)) (in_both (lval_in_line c.args.depth c.in_ok-to.to) (in_sign (codes "=") refl refl refl)) p) c.read.ensures.deep;
    }

pub returns : goal.returns
returns c =
    record {
      taken = IfOk-weaker _ (λ s. Assigns c.args.depth c.in_ok-to.to (ahead c.sign.new.self) (ahead c.assign.new.reader) (seen_stmt s)) _ (λ s r. subst (λ p. Takes (SpellsPlain c.args.depth p) (ahead c.args.reader.now) (ahead c.assign.new.reader)) (sym r.is) (takes_both c.in_ok-to.ensures.taken (takes_both c.in_ok-sign.ensures.taken r.taken))) c.assign.ensures.taken;
      few = IfOk-weaker _ (λ s. Assigns c.args.depth c.in_ok-to.to (ahead c.sign.new.self) (ahead c.assign.new.reader) (seen_stmt s)) _ (λ s r. subst HasFew (sym r.is) (All-cons HasFewOperators r.value [] r.few (All-nil HasFewOperators))) c.assign.ensures.taken;
      only = λ more stmt rest m.
          by_plain more (λ s. IsReading ((more ≤ c.args.depth) × HasFew s) seen_stmt s rest (ahead c.assign.new.reader) c.assign.result) stmt m
          (λ to value f. let m1 = after f (λ b f s. c.in_ok-to.ensures.only more to b f (ends_index (codes "=") b refl (begins_first s))) in let m2 = after_one m1.1 c.in_ok-sign.ensures.taken in subst (λ t. IsReading ((more ≤ c.args.depth) × HasFew (PlainStmt.Assign t value)) seen_stmt (PlainStmt.Assign t value) rest (ahead c.assign.new.reader) c.assign.result) m1.0 (reading_as _ _ _ _ _ _ _ (λ few. (few.0, All-head HasFewOperators value [] few.1)) (c.assign.ensures.only more value rest m2)))
          (λ to reg cell f. let m1 = after f (λ b f s. c.in_ok-to.ensures.only more to b f (ends_index (codes "=") b refl (begins_first s))) in let m2 = after_one m1.1 c.in_ok-sign.ensures.taken in let r = read_ahead more reg cell m2 in absurd (reads_on _ r (λ at next. false≢true (c.if-is_at_read.ensures.index r.0 at next)) (λ at next call. false≢true (c.if-is_at_read.ensures.call r.0 at next call))))
          (λ reg cell value f. absurd (no_write more reg cell value f (λ at. false≢true (c.if-is_at_write.ensures.index at)) (λ at. false≢true (c.if-is_at_write.ensures.call at))))
          (λ header on f. let v = validity_ahead more header on f in absurd (not_there c.if-is_at_validity.ensures.1 (v.third, v.call)));
      deep = deep_as c.assign.result (λ p. past c.args.depth (may (takes_both c.in_ok-to.ensures.taken c.in_ok-sign.ensures.taken)) (stays_both (lval_stays c.args.depth c.in_ok-to.to) (stays_sign (codes "=") refl refl)) (in_both (lval_in_line c.args.depth c.in_ok-to.to) (in_sign (codes "=") refl refl refl)) p) c.assign.ensures.deep;
    }
