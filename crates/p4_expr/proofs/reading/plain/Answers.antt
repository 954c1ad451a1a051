use Rattle.std.proofs.Common.{◌≡◌, ◌≤◌, ap, arith, inl, rules, sym, ◌∙◌}
use Rattle.elastic_ast.proofs.SeenLaws.{seen_expr-num, seen_expr-bool, seen_expr-named, seen_expr-field}
use Rattle.elastic_ast.specs.Tree.{PlainExpr}
use Rattle.spelling.specs.Reading.{ahead, IsWant, WantsOr}
use Rattle.spelling.proofs.Bounds.{if_deep, never_deep, refused_deep}
use Rattle.spelling.proofs.Limits.{or_as, want_or}
use Rattle.spelling.proofs.Only.{alone, same_end, same_name, wants_name}
use Rattle.p4_expr.specs.Operators.{operators_in}
use Rattle.p4_expr.proofs.Counting.{number_counted, truth_counted, name_counted, place_counted}
use Rattle.p4_expr.proofs.FormCases.{number_there, truth_there, name_there, place_there, none_there}
use Rattle.p4_expr.proofs.OneForm.{form_exact, form_read, of_form, place_longest, refused_form}
use Rattle.p4_expr.proofs.reading.plain.Goals as goal

pub returns-in_err-width-in-Number : goal.returns-in_err-width-in-Number
returns-in_err-width-in-Number c =
    of_form c.in-Number.is (refused_form _ c.from_residual.ensures.1
    (λ more x rest m ends is. want_or _ _ (number_there (λ _. IsWant c.in_err-width-in-Number.field-0.0) more x is m (λ width value n. c.in_err-width-in-Number.ensures.only (width, value) rest n)))
    (never_deep _ _ c.in_err-width-in-Number.ensures.shallow))

pub returns-in_ok-width-in-Number : goal.returns-in_ok-width-in-Number
returns-in_ok-width-in-Number c =
    let read = c.in_ok-width-in-Number in
    let tree = PlainExpr.Num read.width read.value in
    of_form c.in-Number.is (form_exact tree (λ spelled rest t. t) (seen_expr-num read.width read.value) (number_counted read.width read.value) read.ensures.taken
    (λ more x rest m is. number_there (λ x. (tree ≡ x) × (ahead c.number.new.reader ≡ rest)) more x is m (λ width value n. let r = read.ensures.only (width, value) rest n in (ap (λ p. PlainExpr.Num p.0 p.1) r.0, r.1))))

pub returns-in_err-which-in-Truth : goal.returns-in_err-which-in-Truth
returns-in_err-which-in-Truth c =
    of_form c.in-Truth.is (refused_form _ c.from_residual-in_err-which-in-Truth.ensures.1
    (λ more x rest m ends is. want_or _ _ (truth_there (λ _. IsWant c.in_err-which-in-Truth.field-0.0) more x is m (λ which n. c.in_err-which-in-Truth.ensures.only which rest n)))
    (never_deep _ _ c.in_err-which-in-Truth.ensures.shallow))

pub returns-in_ok-which-in-Truth : goal.returns-in_ok-which-in-Truth
returns-in_ok-which-in-Truth c =
    let read = c.in_ok-which-in-Truth in
    of_form c.in-Truth.is (form_exact (PlainExpr.Truth read.which) (λ spelled rest t. t) (seen_expr-bool read.which) (truth_counted read.which) read.ensures.taken
    (λ more x rest m is. truth_there (λ x. (PlainExpr.Truth read.which ≡ x) × (ahead c.truth.new.reader ≡ rest)) more x is m (λ which n. let r = read.ensures.only which rest n in (ap PlainExpr.Truth r.0, r.1))))

pub returns-in_err-name-in-Name : goal.returns-in_err-name-in-Name
returns-in_err-name-in-Name c =
    of_form c.in-Name.is (refused_form _ c.from_residual-in_err-name-in-Name.ensures.1
    (λ more x rest m ends is. want_or _ _ (name_there (λ _. IsWant c.in_err-name-in-Name.field-0.0) more x is m (λ name n. wants_name _ _ (alone n) c.in_err-name-in-Name.ensures.refused)))
    (refused_deep _ _ _ _ c.in_err-name-in-Name.ensures.refused))

pub returns-in_ok-name-in-Name : goal.returns-in_ok-name-in-Name
returns-in_ok-name-in-Name c =
    let read = c.in_ok-name-in-Name in
    of_form c.in-Name.is (form_exact (PlainExpr.Named read.name) (λ spelled rest t. t) (seen_expr-named read.name) (name_counted read.name) read.ensures.taken
    (λ more x rest m is. name_there (λ x. (PlainExpr.Named read.name ≡ x) × (ahead c.name.new.self ≡ rest)) more x is m (λ name n. (ap PlainExpr.Named (same_name n read.ensures.taken), same_end n read.ensures.taken))))

pub returns-in_err-place-in-Place : goal.returns-in_err-place-in-Place
returns-in_err-place-in-Place c =
    of_form c.in-Place.is (refused_form _ c.from_residual-in_err-place-in-Place.ensures.1
    (λ more x rest m ends is. place_there (λ x. WantsOr ((more ≤ c.args.depth) × (operators_in x ≤ c.args.left)) c.in_err-place-in-Place.field-0.0) more x is m (λ place n. or_as _ _ _ (λ few. few.0) (c.in_err-place-in-Place.ensures.only more place rest n ends)))
    (if_deep _ (λ s. inl s) c.in_err-place-in-Place.ensures.deep))

pub returns-in_ok-place-in-Place : goal.returns-in_ok-place-in-Place
returns-in_ok-place-in-Place c =
    let read = c.in_ok-place-in-Place in
    of_form c.in-Place.is (form_read (PlainExpr.At read.place) (seen_expr-field read.place) (place_counted read.place) (omega arith) read.ensures.taken
    (λ more x rest m ends is. place_there (λ x. (PlainExpr.At read.place ≡ x) × (ahead c.lval.new.reader ≡ rest)) more x is m (λ place n. let r = read.ensures.only more place rest n ends in (ap PlainExpr.At r.0, r.1)))
    (λ more x rest m t. place_longest more x read.ensures.taken m t (λ place n. read.ensures.longest more place rest n)))

pub returns-in-Validity : goal.returns-in-Validity
returns-in-Validity c = of_form c.in-Validity.is c.test_of.ensures

pub returns-in_default : goal.returns-in_default
returns-in_default c =
    record {
      taken = tt;
      count = tt;
      only = λ more x rest m ends is no.
          none_there (λ x. WantsOr ((more ≤ c.args.depth) × (operators_in x ≤ c.args.left)) c.refusal.result) more x
          (λ h. c.in_default.not-Number (is ∙ sym h))
          (λ h. c.in_default.not-Truth (is ∙ sym h))
          (λ h. c.in_default.not-Name (is ∙ sym h))
          (λ h. c.in_default.not-Place (is ∙ sym h))
          (λ h. c.in_default.not-Validity (is ∙ sym h))
          (λ h. no (is ∙ sym h)) m;
      longest = tt;
      deep = λ at. search rules;
    }
