use Rattle.std.proofs.Common.{◌≡◌, ◌≤◌, ap, arith, inl, inr, refl}
use Rattle.elastic_ast.proofs.SeenLaws.{seen_expr-valid}
use Rattle.elastic_ast.specs.Tree.{PlainExpr}
use Rattle.spelling.specs.Reading.{ahead, WantsOr}
use Rattle.spelling.proofs.Bounds.{holds_deep, if_deep}
use Rattle.spelling.proofs.Limits.{or_as}
use Rattle.p4_expr.specs.Operators.{operators_in}
use Rattle.p4_expr.proofs.Counting.{test_counted}
use Rattle.p4_expr.proofs.FormCases.{test_there}
use Rattle.p4_expr.proofs.OneForm.{form_read, refused_form, test_longest}
use Rattle.p4_expr.proofs.PassingLaws.{first_passed}
use Rattle.p4_expr.proofs.Refusing.{too_deep_or}
use Rattle.p4_expr.proofs.reading.test_of.Goals as goal

pub returns-then-left-eq0 : goal.returns-then-left-eq0
returns-then-left-eq0 c =
    record {
      taken = tt;
      count = tt;
      only = λ more x rest m ends is no.
          test_there (λ x. WantsOr ((more ≤ c.args.depth) × (operators_in x ≤ c.args.left)) c.too_deep.result) more x is m
          (λ header n. too_deep_or _ _ _ c.too_deep.ensures (λ few. omega (arith, few.1, test_counted header, c.if-left-eq0.true)));
      longest = tt;
      deep = λ at. holds_deep c.too_deep.result (first_passed c.args.left c.args.depth _ c.if-left-eq0.true (inr (inr (inr (at refl)))));
    }

pub returns-in_err-header : goal.returns-in_err-header
returns-in_err-header c =
    refused_form _ c.from_residual.ensures.1
    (λ more x rest m ends is. test_there (λ x. WantsOr ((more ≤ c.args.depth) × (operators_in x ≤ c.args.left)) c.in_err-header.field-0.0) more x is m (λ header n. or_as _ _ _ (λ few. few.0) (c.in_err-header.ensures.only more header rest n)))
    (if_deep _ (λ s. inl s) c.in_err-header.ensures.deep)

pub returns : goal.returns
returns c =
    let header = c.in_ok-header.header in
    form_read (PlainExpr.IsValid header) (seen_expr-valid header) (test_counted header) (omega (arith, c.if-left-eq0.false)) c.in_ok-header.ensures.taken
    (λ more x rest m ends is. test_there (λ x. (PlainExpr.IsValid header ≡ x) × (ahead c.validity.new.reader ≡ rest)) more x is m (λ other n. let r = c.in_ok-header.ensures.only more other rest n in (ap PlainExpr.IsValid r.0, r.1)))
    (λ more x rest m t. test_longest c.args.depth more header x c.in_ok-header.ensures.taken m t (λ other n. (c.in_ok-header.ensures.only more other rest n).1))
