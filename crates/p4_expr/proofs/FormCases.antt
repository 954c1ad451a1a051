-- What is spelled where the form of a primary expression is known.
use Rattle.std.proofs.Common.{◌≡◌, ℕ, Bool, List, Option, refl}
use Rattle.elastic_ast.specs.declared.statements.Amount.{Amount}
use Rattle.elastic_ast.specs.declared.statements.Lval.{Lval}
use Rattle.elastic_ast.specs.Tree.{PlainExpr}
use Rattle.spelling.specs.Words.{Word}
use Rattle.spelling.specs.Grammar.{Named}
use Rattle.spelling.specs.Reading.{MayTake}
use Rattle.p4_expr.specs.Parts.{SpellsNumber, SpellsTruth, SpellsLval, SpellsIsValid}
use Rattle.p4_expr.specs.Bases.{SpellsOwn, form_of}
use Rattle.p4_expr.specs.declared.forms.Form.TheVariants as form

pub number_there : (P : PlainExpr → Type 0) (depth : ℕ) (e : PlainExpr) {a c : List Word} → form.Number ≡ form_of e → MayTake (SpellsOwn depth e) a c → ((width : Option ℕ) (value : ℕ) → MayTake (SpellsNumber width value) a c → P (PlainExpr.Num width value)) → P e
number_there P depth (PlainExpr.Num width value) is m h = h width value m
number_there P depth _ is m h = absurd cc

pub truth_there : (P : PlainExpr → Type 0) (depth : ℕ) (e : PlainExpr) {a c : List Word} → form.Truth ≡ form_of e → MayTake (SpellsOwn depth e) a c → ((which : Bool) → MayTake (SpellsTruth which) a c → P (PlainExpr.Truth which)) → P e
truth_there P depth (PlainExpr.Truth which) is m h = h which m
truth_there P depth _ is m h = absurd cc

pub name_there : (P : PlainExpr → Type 0) (depth : ℕ) (e : PlainExpr) {a c : List Word} → form.Name ≡ form_of e → MayTake (SpellsOwn depth e) a c → ((name : List ℕ) → MayTake (Named name) a c → P (PlainExpr.Named name)) → P e
name_there P depth (PlainExpr.Named name) is m h = h name m
name_there P depth _ is m h = absurd cc

pub place_there : (P : PlainExpr → Type 0) (depth : ℕ) (e : PlainExpr) {a c : List Word} → form.Place ≡ form_of e → MayTake (SpellsOwn depth e) a c → ((lval : Lval) → MayTake (SpellsLval depth lval) a c → P (PlainExpr.At lval)) → P e
place_there P depth (PlainExpr.At lval) is m h = h lval m
place_there P depth _ is m h = absurd cc

pub test_there : (P : PlainExpr → Type 0) (depth : ℕ) (e : PlainExpr) {a c : List Word} → form.Validity ≡ form_of e → MayTake (SpellsOwn depth e) a c → ((header : List ℕ) → MayTake (SpellsIsValid depth header) a c → P (PlainExpr.IsValid header)) → P e
test_there P depth (PlainExpr.IsValid header) is m h = h header m
test_there P depth _ is m h = absurd cc

pub hash_there : (P : PlainExpr → Type 0) (depth : ℕ) (e : PlainExpr) {a c : List Word} → form.Hash ≡ form_of e → MayTake (SpellsOwn depth e) a c → ((number : Amount) (of : PlainExpr) (modulus : Amount) → MayTake (SpellsOwn depth (PlainExpr.Hash number of modulus)) a c → P (PlainExpr.Hash number of modulus)) → P e
hash_there P depth (PlainExpr.Hash number of modulus) is m h = h number of modulus m
hash_there P depth _ is m h = absurd cc

-- there are no more forms
pub none_there : (P : PlainExpr → Type 0) (depth : ℕ) (e : PlainExpr) {a c : List Word} → (form.Number ≡ form_of e → ⊥) → (form.Truth ≡ form_of e → ⊥) → (form.Name ≡ form_of e → ⊥) → (form.Place ≡ form_of e → ⊥) → (form.Validity ≡ form_of e → ⊥) → (form.Hash ≡ form_of e → ⊥) → MayTake (SpellsOwn depth e) a c → P e
none_there P depth (PlainExpr.Num width value) no_number no_truth no_name no_place no_test no_hash m = absurd (no_number refl)
none_there P depth (PlainExpr.Truth which) no_number no_truth no_name no_place no_test no_hash m = absurd (no_truth refl)
none_there P depth (PlainExpr.Named name) no_number no_truth no_name no_place no_test no_hash m = absurd (no_name refl)
none_there P depth (PlainExpr.At lval) no_number no_truth no_name no_place no_test no_hash m = absurd (no_place refl)
none_there P depth (PlainExpr.IsValid header) no_number no_truth no_name no_place no_test no_hash m = absurd (no_test refl)
none_there P depth (PlainExpr.Hash number of modulus) no_number no_truth no_name no_place no_test no_hash m = absurd (no_hash refl)
none_there P depth _ no_number no_truth no_name no_place no_test no_hash m = absurd m.spelled
