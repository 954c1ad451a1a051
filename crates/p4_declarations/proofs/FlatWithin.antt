-- A declaration without expressions opens no more brackets than its depth allows, and closes those that it opens.
use Rattle.std.proofs.Common.{ℕ, Bool, true, false, List, Option, None, Some, codes, refl}
use Rattle.p4_lexer.specs.declared.token.Kind.TheVariants as kind
use Rattle.elastic_ast.specs.declared.declarations.Field.{Field}
use Rattle.elastic_ast.specs.declared.declarations.Comp.{Comp}
use Rattle.elastic_ast.specs.declared.declarations.LinTerm.{LinTerm}
use Rattle.elastic_ast.specs.declared.declarations.Rel.{Rel}
use Rattle.elastic_ast.specs.declared.declarations.Rel.TheVariants as rel
use Rattle.elastic_ast.specs.declared.declarations.UtilTerm.{UtilTerm}
use Rattle.elastic_ast.specs.declared.declarations.UtilTerm.TheVariants as util
use Rattle.elastic_ast.specs.Tree.{Name, PlainDecl}
use Rattle.spelling.specs.Grammar.{◌⨟◌, Each, FirstThenEach, Separated, Sign, Named, Bracketed}
use Rattle.spelling.proofs.Balance.{Stays, stays_sign, stays_reserved, stays_named, stays_kind, stays_both, stays_either, stays_where, stays_each, stays_first, stays_separated, stays_round, stays_curly}
use Rattle.p4_expr.specs.Parts.{SpellsAmount, SpellsHeader}
use Rattle.p4_expr.proofs.PartsWithin.{number_stays, num_stays, bits_stays, amount_stays, index_stays, header_stays, no_arguments_stays}
use Rattle.p4_declarations.specs.Sums.{SpellsProduct, SpellsSign, SpellsFirstTerm, SpellsLaterTerm, SpellsSum, SpellsRelation, SpellsComparison, SpellsComparisons}
use Rattle.p4_declarations.specs.Flat.{SpellsStep, SpellsSteps, SpellsFirstGain, SpellsLaterGain, SpellsHeaderField, SpellsMetaField, SpellsMember, SpellsEmit, SpellsDeparserParameters, SpellsPart, SpellsFlat}

pub product_stays : {depth : ℕ} (by : ℕ) (symbol : Option Name) → Stays depth (SpellsProduct by symbol)
product_stays by None = stays_where (num_stays by)
product_stays by (Some symbol) = stays_either (stays_where (stays_named symbol)) (stays_where (stays_both (num_stays by) (stays_both (stays_sign (codes "*") refl refl) (stays_named symbol))))

pub plus_or_minus_stays : {depth : ℕ} (minus : Bool) → Stays depth (SpellsSign minus)
plus_or_minus_stays true = stays_sign (codes "-") refl refl
plus_or_minus_stays false = stays_sign (codes "+") refl refl

pub first_term_stays : {depth : ℕ} (term : LinTerm) → Stays depth (SpellsFirstTerm term)
first_term_stays term = stays_where (product_stays term.by term.symbol)

pub later_term_stays : {depth : ℕ} (term : LinTerm) → Stays depth (SpellsLaterTerm term)
later_term_stays term = stays_both (plus_or_minus_stays term.minus) (product_stays term.by term.symbol)

pub sum_stays : {depth : ℕ} (terms : List LinTerm) → Stays depth (SpellsSum terms)
sum_stays terms = stays_first SpellsFirstTerm SpellsLaterTerm (λ term. first_term_stays term) (λ term. later_term_stays term) terms

pub relation_stays : {depth : ℕ} (r : Rel) → Stays depth (SpellsRelation r)
relation_stays rel.Le = stays_sign (codes "<=") refl refl
relation_stays rel.Lt = stays_sign (codes "<") refl refl
relation_stays rel.Ge = stays_sign (codes ">=") refl refl
relation_stays rel.Gt = stays_sign (codes ">") refl refl
relation_stays rel.Eq = stays_sign (codes "==") refl refl

pub comparison_stays : {depth : ℕ} (comp : Comp) → Stays depth (SpellsComparison comp)
comparison_stays comp = stays_both (sum_stays comp.left) (stays_both (relation_stays comp.rel) (sum_stays comp.right))

pub comparisons_stay : {depth : ℕ} (comps : List Comp) → Stays depth (SpellsComparisons comps)
comparisons_stay comps = stays_separated (Sign (codes "&&")) SpellsComparison (stays_sign (codes "&&") refl refl) (λ comp. comparison_stays comp) comps

pub step_stays : {depth : ℕ} (step : ℕ × ℕ) → Stays depth (SpellsStep step)
step_stays step = stays_where (stays_both (num_stays step.0) (stays_both (stays_sign (codes ":") refl refl) (num_stays step.1)))

pub steps_stay : (depth : ℕ) (symbol : Name) (steps : List (ℕ × ℕ)) → Stays depth (SpellsSteps depth symbol steps)
steps_stay depth symbol steps = stays_both (stays_reserved (codes "table")) (stays_both (stays_round depth (λ _. Named symbol) (λ _. stays_named symbol)) (stays_curly depth (λ _. Separated (Sign (codes ",")) SpellsStep steps) (λ _. stays_separated (Sign (codes ",")) SpellsStep (stays_sign (codes ",") refl refl) (λ step. step_stays step) steps)))

pub first_gain_stays : (depth : ℕ) (term : UtilTerm) → Stays depth (SpellsFirstGain depth term)
first_gain_stays depth (util.Lin term) = first_term_stays term
first_gain_stays depth (util.Steps minus symbol steps) = stays_where (steps_stay depth symbol steps)

pub later_gain_stays : (depth : ℕ) (term : UtilTerm) → Stays depth (SpellsLaterGain depth term)
later_gain_stays depth (util.Lin term) = later_term_stays term
later_gain_stays depth (util.Steps minus symbol steps) = stays_both (plus_or_minus_stays minus) (steps_stay depth symbol steps)

pub header_field_stays : {depth : ℕ} (field : Field) → Stays depth (SpellsHeaderField field)
header_field_stays field = stays_where (stays_both (bits_stays field.width) (stays_both (stays_named field.name) (stays_sign (codes ";") refl refl)))

pub meta_field_stays : (depth : ℕ) (field : Field) → Stays depth (SpellsMetaField depth field)
meta_field_stays depth field = stays_both (bits_stays field.width) (stays_both (index_stays depth field.size) (stays_both (stays_named field.name) (stays_sign (codes ";") refl refl)))

pub member_stays : {depth : ℕ} (member : Name × Name) → Stays depth (SpellsMember member)
member_stays member = stays_both (stays_named member.0) (stays_both (stays_named member.1) (stays_sign (codes ";") refl refl))

pub emit_stays : (depth : ℕ) (header : Name) → Stays depth (SpellsEmit depth header)
emit_stays depth header = stays_both (stays_named (codes "pkt")) (stays_both (stays_sign (codes ".") refl refl) (stays_both (stays_named (codes "emit")) (stays_both (stays_round depth (λ _. SpellsHeader header) (λ _. header_stays header)) (stays_sign (codes ";") refl refl))))

pub deparser_parameters_stay : {depth : ℕ} → Stays depth SpellsDeparserParameters
deparser_parameters_stay = stays_both (stays_named (codes "packet_out")) (stays_both (stays_named (codes "pkt")) (stays_both (stays_sign (codes ",") refl refl) (stays_both (stays_reserved (codes "in")) (stays_both (stays_named (codes "headers_t")) (stays_named (codes "hdr"))))))

pub part_stays : (depth : ℕ) (name : Name) → Stays depth (SpellsPart depth name)
part_stays depth name = stays_both (stays_named name) (no_arguments_stays depth)

pub flat_stays : (depth : ℕ) (decl : PlainDecl) → Stays depth (SpellsFlat depth decl)
flat_stays depth (PlainDecl.Include file) = stays_where (stays_kind (kind.Include file) refl)
flat_stays depth (PlainDecl.Symbol symbol) = stays_both (stays_reserved (codes "symbolic")) (stays_both (stays_reserved (codes "int")) (stays_both (stays_named symbol) (stays_sign (codes ";") refl refl)))
flat_stays depth (PlainDecl.Assume comps) = stays_both (stays_named (codes "assume")) (stays_both (stays_round depth (λ _. SpellsComparisons comps) (λ _. comparisons_stay comps)) (stays_sign (codes ";") refl refl))
flat_stays depth (PlainDecl.Maximize terms) = stays_both (stays_named (codes "maximize")) (stays_both (stays_round depth (λ inner. FirstThenEach (SpellsFirstGain inner) (SpellsLaterGain inner) terms) (λ inner. stays_first (SpellsFirstGain inner) (SpellsLaterGain inner) (first_gain_stays inner) (later_gain_stays inner) terms)) (stays_sign (codes ";") refl refl))
flat_stays depth (PlainDecl.Const name width value) = stays_both (stays_reserved (codes "const")) (stays_both (bits_stays width) (stays_both (stays_named name) (stays_both (stays_sign (codes "=") refl refl) (stays_both (stays_either (number_stays None value) (number_stays (Some width) value)) (stays_sign (codes ";") refl refl)))))
flat_stays depth (PlainDecl.Header name fields) = stays_both (stays_reserved (codes "header")) (stays_both (stays_named name) (stays_curly depth (λ _. Each SpellsHeaderField fields) (λ _. stays_each SpellsHeaderField (λ field. header_field_stays field) fields)))
flat_stays depth (PlainDecl.Headers members) = stays_both (stays_reserved (codes "struct")) (stays_both (stays_named (codes "headers_t")) (stays_curly depth (λ _. Each SpellsMember members) (λ _. stays_each SpellsMember (λ member. member_stays member) members)))
flat_stays depth (PlainDecl.Meta fields) = stays_both (stays_reserved (codes "struct")) (stays_both (stays_named (codes "meta_t")) (stays_curly depth (λ inner. Each (SpellsMetaField inner) fields) (λ inner. stays_each (SpellsMetaField inner) (meta_field_stays inner) fields)))
flat_stays depth (PlainDecl.Register name width cells size) = stays_both (stays_named (codes "Register")) (stays_both (stays_sign (codes "<") refl refl) (stays_both (bits_stays width) (stays_both (stays_sign (codes ">") refl refl) (stays_both (stays_round depth (λ _. SpellsAmount cells) (λ _. amount_stays cells)) (stays_both (index_stays depth size) (stays_both (stays_named name) (stays_sign (codes ";") refl refl)))))))
flat_stays depth (PlainDecl.Parser name states) = λ ws h. absurd h
flat_stays depth (PlainDecl.Control name locals body) = λ ws h. absurd h
flat_stays depth (PlainDecl.Deparser name emits) = stays_both (stays_reserved (codes "control")) (stays_both (stays_named name) (stays_both (stays_round depth (λ _. SpellsDeparserParameters) (λ _. deparser_parameters_stay)) (stays_curly depth (λ inner. Named (codes "apply") ⨟ Bracketed (codes "{") (codes "}") inner (λ innermost. Each (SpellsEmit innermost) emits)) (λ inner. stays_both (stays_named (codes "apply")) (stays_curly inner (λ innermost. Each (SpellsEmit innermost) emits) (λ innermost. stays_each (SpellsEmit innermost) (emit_stays innermost) emits))))))
flat_stays depth (PlainDecl.Main parser control deparser) = stays_both (stays_named (codes "Pisa")) (stays_both (stays_round depth (λ inner. SpellsPart inner parser ⨟ Sign (codes ",") ⨟ SpellsPart inner control ⨟ Sign (codes ",") ⨟ SpellsPart inner deparser) (λ inner. stays_both (part_stays inner parser) (stays_both (stays_sign (codes ",") refl refl) (stays_both (part_stays inner control) (stays_both (stays_sign (codes ",") refl refl) (part_stays inner deparser)))))) (stays_both (stays_named (codes "main")) (stays_sign (codes ";") refl refl)))
