-- Tables, declarations and programs that are spelled within a depth are spelled within each greater one.
use Rattle.std.proofs.Common.{ℕ, ◌≤◌, List, Option, None, Some, codes}
use Rattle.elastic_ast.specs.declared.declarations.Key.{Key}
use Rattle.elastic_ast.specs.declared.declarations.Field.{Field}
use Rattle.elastic_ast.specs.declared.declarations.UtilTerm.{UtilTerm}
use Rattle.elastic_ast.specs.declared.declarations.UtilTerm.TheVariants as util
use Rattle.elastic_ast.specs.Tree.{Name, PlainExpr, PlainKeyset, PlainEntry, PlainTable, PlainLocal, PlainNext, PlainState, PlainDecl, PlainProgram}
use Rattle.spelling.specs.Grammar.{Empty, Either, ◌⨟◌, Each, FirstThenEach, Separated, Commas, Sign, Reserved, Named, Bracketed}
use Rattle.spelling.proofs.Deeper.{Under, itself, under_both, under_either, under_where, under_each, under_first, under_bracketed}
use Rattle.p4_expr.specs.Parts.{SpellsBits, SpellsAmount, SpellsHeader}
use Rattle.p4_expr.specs.Expressions.{SpellsExpr}
use Rattle.p4_expr.proofs.ExprDeeper.{index_deeper, no_arguments_deeper, lval_deeper, expr_deeper}
use Rattle.p4_declarations.specs.Sums.{SpellsFirstTerm, SpellsLaterTerm, SpellsSign, SpellsComparisons}
use Rattle.p4_declarations.specs.Flat.{SpellsStep, SpellsSteps, SpellsFirstGain, SpellsLaterGain, SpellsHeaderField, SpellsMetaField, SpellsMember, SpellsEmit, SpellsDeparserParameters, SpellsPart, SpellsFlat}
use Rattle.p4_tables.specs.Tables.{Property, SpellsValue, SpellsSet, SpellsOneSet, SpellsSets, SpellsValues, SpellsEntry, SpellsMatch, SpellsKey, SpellsProperty, SpellsTable}
use Rattle.p4_statements.specs.Statements.{SpellsPlains, SpellsStmts}
use Rattle.p4_parser.specs.Declarations.{SpellsActionIndex, SpellsParam, SpellsLocal, SpellsExtract, SpellsCase, SpellsNext, SpellsState, SpellsParserParameters, SpellsControlParameters, SpellsDeclaration, SpellsProgram}
use Rattle.p4_parser.proofs.StatementsDeeper.{plains_deeper, stmts_deeper}

pub values_deeper : (depth more : ℕ) (values : List PlainExpr) → depth ≤ more → Under (SpellsValues depth values) (SpellsValues more values)
values_deeper depth more values le = under_bracketed (codes "(") (codes ")") depth more (λ _. Commas SpellsValue values) (λ _. Commas SpellsValue values) le (λ i j k. itself (Commas SpellsValue values))

pub sets_deeper : (depth more : ℕ) (sets : List PlainKeyset) → depth ≤ more → Under (SpellsSets depth sets) (SpellsSets more sets)
sets_deeper depth more sets le = under_either (itself (SpellsOneSet sets)) (under_bracketed (codes "(") (codes ")") depth more (λ _. Separated (Sign (codes ",")) SpellsSet sets) (λ _. Separated (Sign (codes ",")) SpellsSet sets) le (λ i j k. itself (Separated (Sign (codes ",")) SpellsSet sets)))

pub entry_deeper : (depth more : ℕ) (entry : PlainEntry) → depth ≤ more → Under (SpellsEntry depth entry) (SpellsEntry more entry)
entry_deeper depth more entry le = under_both (sets_deeper depth more entry.keys le) (under_both (itself (Sign (codes ":"))) (under_both (itself (Named entry.action)) (under_both (values_deeper depth more entry.args le) (itself (Sign (codes ";"))))))

pub key_deeper : (depth more : ℕ) (key : Key) → depth ≤ more → Under (SpellsKey depth key) (SpellsKey more key)
key_deeper depth more key le = under_both (lval_deeper depth more key.field le) (under_both (itself (Sign (codes ":"))) (under_both (itself (SpellsMatch key.ternary)) (itself (Sign (codes ";")))))

pub property_deeper : (depth more : ℕ) (property : Property) → depth ≤ more → Under (SpellsProperty depth property) (SpellsProperty more property)
property_deeper depth more (Property.Keys keys) le = under_both (itself (Named (codes "key"))) (under_both (itself (Sign (codes "="))) (under_bracketed (codes "{") (codes "}") depth more (λ inner. Each (SpellsKey inner) keys) (λ inner. Each (SpellsKey inner) keys) le (λ i j k. under_each (SpellsKey i) (SpellsKey j) (λ key. key_deeper i j key k) keys)))
property_deeper depth more (Property.Actions names) le = under_both (itself (Named (codes "actions"))) (under_both (itself (Sign (codes "="))) (under_bracketed (codes "{") (codes "}") depth more (λ _. Each (λ name. Named name ⨟ Sign (codes ";")) names) (λ _. Each (λ name. Named name ⨟ Sign (codes ";")) names) le (λ i j k. itself (Each (λ name. Named name ⨟ Sign (codes ";")) names))))
property_deeper depth more (Property.Fallback action arguments) le = under_both (itself (Either Empty (Reserved (codes "const")))) (under_both (itself (Named (codes "default_action"))) (under_both (itself (Sign (codes "="))) (under_both (itself (Named action)) (under_both (values_deeper depth more arguments le) (itself (Sign (codes ";")))))))
property_deeper depth more (Property.Size size) le = λ ws h. h
property_deeper depth more (Property.Entries entries) le = under_both (itself (Reserved (codes "const"))) (under_both (itself (Named (codes "entries"))) (under_both (itself (Sign (codes "="))) (under_bracketed (codes "{") (codes "}") depth more (λ inner. Each (SpellsEntry inner) entries) (λ inner. Each (SpellsEntry inner) entries) le (λ i j k. under_each (SpellsEntry i) (SpellsEntry j) (λ entry. entry_deeper i j entry k) entries))))

pub table_deeper : (depth more : ℕ) (table : PlainTable) → depth ≤ more → Under (SpellsTable depth table) (SpellsTable more table)
table_deeper depth more table le ws h =
    record {
      properties = h.properties;
      spelled = (under_both (itself (Reserved (codes "table"))) (under_both (itself (Named table.name)) (under_bracketed (codes "{") (codes "}") depth more (λ inner. Each (SpellsProperty inner) h.properties) (λ inner. Each (SpellsProperty inner) h.properties) le (λ i j k. under_each (SpellsProperty i) (SpellsProperty j) (λ property. property_deeper i j property k) h.properties)))) ws h.spelled;
      no_two = h.no_two;
      has_them = h.has_them;
    }

pub steps_deeper : (depth more : ℕ) (symbol : Name) (steps : List (ℕ × ℕ)) → depth ≤ more → Under (SpellsSteps depth symbol steps) (SpellsSteps more symbol steps)
steps_deeper depth more symbol steps le = under_both (itself (Reserved (codes "table"))) (under_both (under_bracketed (codes "(") (codes ")") depth more (λ _. Named symbol) (λ _. Named symbol) le (λ i j k. itself (Named symbol))) (under_bracketed (codes "{") (codes "}") depth more (λ _. Separated (Sign (codes ",")) SpellsStep steps) (λ _. Separated (Sign (codes ",")) SpellsStep steps) le (λ i j k. itself (Separated (Sign (codes ",")) SpellsStep steps))))

pub first_gain_deeper : (depth more : ℕ) (term : UtilTerm) → depth ≤ more → Under (SpellsFirstGain depth term) (SpellsFirstGain more term)
first_gain_deeper depth more (util.Lin term) le = itself (SpellsFirstTerm term)
first_gain_deeper depth more (util.Steps minus symbol steps) le = under_where (steps_deeper depth more symbol steps le)

pub later_gain_deeper : (depth more : ℕ) (term : UtilTerm) → depth ≤ more → Under (SpellsLaterGain depth term) (SpellsLaterGain more term)
later_gain_deeper depth more (util.Lin term) le = itself (SpellsLaterTerm term)
later_gain_deeper depth more (util.Steps minus symbol steps) le = under_both (itself (SpellsSign minus)) (steps_deeper depth more symbol steps le)

pub meta_field_deeper : (depth more : ℕ) (field : Field) → depth ≤ more → Under (SpellsMetaField depth field) (SpellsMetaField more field)
meta_field_deeper depth more field le = under_both (itself (SpellsBits field.width)) (under_both (index_deeper field.size le) (under_both (itself (Named field.name)) (itself (Sign (codes ";")))))

pub emit_deeper : (depth more : ℕ) (header : Name) → depth ≤ more → Under (SpellsEmit depth header) (SpellsEmit more header)
emit_deeper depth more header le = under_both (itself (Named (codes "pkt"))) (under_both (itself (Sign (codes "."))) (under_both (itself (Named (codes "emit"))) (under_both (under_bracketed (codes "(") (codes ")") depth more (λ _. SpellsHeader header) (λ _. SpellsHeader header) le (λ i j k. itself (SpellsHeader header))) (itself (Sign (codes ";"))))))

pub part_deeper : (depth more : ℕ) (name : Name) → depth ≤ more → Under (SpellsPart depth name) (SpellsPart more name)
part_deeper depth more name le = under_both (itself (Named name)) (no_arguments_deeper depth more le)

pub flat_deeper : (depth more : ℕ) (decl : PlainDecl) → depth ≤ more → Under (SpellsFlat depth decl) (SpellsFlat more decl)
flat_deeper depth more (PlainDecl.Assume comps) le = under_both (itself (Named (codes "assume"))) (under_both (under_bracketed (codes "(") (codes ")") depth more (λ _. SpellsComparisons comps) (λ _. SpellsComparisons comps) le (λ i j k. itself (SpellsComparisons comps))) (itself (Sign (codes ";"))))
flat_deeper depth more (PlainDecl.Maximize terms) le = under_both (itself (Named (codes "maximize"))) (under_both (under_bracketed (codes "(") (codes ")") depth more (λ inner. FirstThenEach (SpellsFirstGain inner) (SpellsLaterGain inner) terms) (λ inner. FirstThenEach (SpellsFirstGain inner) (SpellsLaterGain inner) terms) le (λ i j k. under_first (SpellsFirstGain i) (SpellsFirstGain j) (SpellsLaterGain i) (SpellsLaterGain j) (λ term. first_gain_deeper i j term k) (λ term. later_gain_deeper i j term k) terms)) (itself (Sign (codes ";"))))
flat_deeper depth more (PlainDecl.Header name fields) le = under_both (itself (Reserved (codes "header"))) (under_both (itself (Named name)) (under_bracketed (codes "{") (codes "}") depth more (λ _. Each SpellsHeaderField fields) (λ _. Each SpellsHeaderField fields) le (λ i j k. itself (Each SpellsHeaderField fields))))
flat_deeper depth more (PlainDecl.Headers members) le = under_both (itself (Reserved (codes "struct"))) (under_both (itself (Named (codes "headers_t"))) (under_bracketed (codes "{") (codes "}") depth more (λ _. Each SpellsMember members) (λ _. Each SpellsMember members) le (λ i j k. itself (Each SpellsMember members))))
flat_deeper depth more (PlainDecl.Meta fields) le = under_both (itself (Reserved (codes "struct"))) (under_both (itself (Named (codes "meta_t"))) (under_bracketed (codes "{") (codes "}") depth more (λ inner. Each (SpellsMetaField inner) fields) (λ inner. Each (SpellsMetaField inner) fields) le (λ i j k. under_each (SpellsMetaField i) (SpellsMetaField j) (λ field. meta_field_deeper i j field k) fields)))
flat_deeper depth more (PlainDecl.Register name width cells size) le = under_both (itself (Named (codes "Register"))) (under_both (itself (Sign (codes "<"))) (under_both (itself (SpellsBits width)) (under_both (itself (Sign (codes ">"))) (under_both (under_bracketed (codes "(") (codes ")") depth more (λ _. SpellsAmount cells) (λ _. SpellsAmount cells) le (λ i j k. itself (SpellsAmount cells))) (under_both (index_deeper size le) (under_both (itself (Named name)) (itself (Sign (codes ";")))))))))
flat_deeper depth more (PlainDecl.Parser name states) le = λ ws h. absurd h
flat_deeper depth more (PlainDecl.Control name locals body) le = λ ws h. absurd h
flat_deeper depth more (PlainDecl.Deparser name emits) le = under_both (itself (Reserved (codes "control"))) (under_both (itself (Named name)) (under_both (under_bracketed (codes "(") (codes ")") depth more (λ _. SpellsDeparserParameters) (λ _. SpellsDeparserParameters) le (λ i j k. itself SpellsDeparserParameters)) (under_bracketed (codes "{") (codes "}") depth more (λ inner. Named (codes "apply") ⨟ Bracketed (codes "{") (codes "}") inner (λ innermost. Each (SpellsEmit innermost) emits)) (λ inner. Named (codes "apply") ⨟ Bracketed (codes "{") (codes "}") inner (λ innermost. Each (SpellsEmit innermost) emits)) le (λ i j k. under_both (itself (Named (codes "apply"))) (under_bracketed (codes "{") (codes "}") i j (λ innermost. Each (SpellsEmit innermost) emits) (λ innermost. Each (SpellsEmit innermost) emits) k (λ a b c. under_each (SpellsEmit a) (SpellsEmit b) (λ header. emit_deeper a b header c) emits))))))
flat_deeper depth more (PlainDecl.Main parser control deparser) le = under_both (itself (Named (codes "Pisa"))) (under_both (under_bracketed (codes "(") (codes ")") depth more (λ inner. SpellsPart inner parser ⨟ Sign (codes ",") ⨟ SpellsPart inner control ⨟ Sign (codes ",") ⨟ SpellsPart inner deparser) (λ inner. SpellsPart inner parser ⨟ Sign (codes ",") ⨟ SpellsPart inner control ⨟ Sign (codes ",") ⨟ SpellsPart inner deparser) le (λ i j k. under_both (part_deeper i j parser k) (under_both (itself (Sign (codes ","))) (under_both (part_deeper i j control k) (under_both (itself (Sign (codes ","))) (part_deeper i j deparser k)))))) (under_both (itself (Named (codes "main"))) (itself (Sign (codes ";")))))
flat_deeper depth more other le = λ ws h. h

pub action_index_deeper : (depth more : ℕ) (index : Option Name) → depth ≤ more → Under (SpellsActionIndex depth index) (SpellsActionIndex more index)
action_index_deeper depth more None le = itself Empty
action_index_deeper depth more (Some index) le = under_bracketed (codes "[") (codes "]") depth more (λ _. Reserved (codes "int") ⨟ Named index) (λ _. Reserved (codes "int") ⨟ Named index) le (λ i j k. itself (Reserved (codes "int") ⨟ Named index))

pub local_deeper : (depth more : ℕ) (part : PlainLocal) → depth ≤ more → Under (SpellsLocal depth part) (SpellsLocal more part)
local_deeper depth more (PlainLocal.OfAction action) le = under_both (itself (Reserved (codes "action"))) (under_both (itself (Named action.name)) (under_both (action_index_deeper depth more action.index le) (under_both (under_bracketed (codes "(") (codes ")") depth more (λ _. Commas SpellsParam action.params) (λ _. Commas SpellsParam action.params) le (λ i j k. itself (Commas SpellsParam action.params))) (under_bracketed (codes "{") (codes "}") depth more (λ inner. SpellsPlains inner action.body) (λ inner. SpellsPlains inner action.body) le (λ i j k. plains_deeper i j action.body k)))))
local_deeper depth more (PlainLocal.OfTable table) le = table_deeper depth more table le

pub extract_deeper : (depth more : ℕ) (header : Name) → depth ≤ more → Under (SpellsExtract depth header) (SpellsExtract more header)
extract_deeper depth more header le = under_both (itself (Named (codes "pkt"))) (under_both (itself (Sign (codes "."))) (under_both (itself (Named (codes "extract"))) (under_both (under_bracketed (codes "(") (codes ")") depth more (λ _. SpellsHeader header) (λ _. SpellsHeader header) le (λ i j k. itself (SpellsHeader header))) (itself (Sign (codes ";"))))))

pub next_deeper : (depth more : ℕ) (next : PlainNext) → depth ≤ more → Under (SpellsNext depth next) (SpellsNext more next)
next_deeper depth more (PlainNext.To state) le = λ ws h. h
next_deeper depth more (PlainNext.Select of cases) le = under_both (itself (Reserved (codes "select"))) (under_both (under_bracketed (codes "(") (codes ")") depth more (λ inner. SpellsExpr inner of) (λ inner. SpellsExpr inner of) le (λ i j k. expr_deeper i j of k)) (under_bracketed (codes "{") (codes "}") depth more (λ _. Each SpellsCase cases) (λ _. Each SpellsCase cases) le (λ i j k. itself (Each SpellsCase cases))))

pub state_deeper : (depth more : ℕ) (state : PlainState) → depth ≤ more → Under (SpellsState depth state) (SpellsState more state)
state_deeper depth more state le = under_both (itself (Reserved (codes "state"))) (under_both (itself (Named state.name)) (under_bracketed (codes "{") (codes "}") depth more (λ inner. Each (SpellsExtract inner) state.extracts ⨟ Reserved (codes "transition") ⨟ SpellsNext inner state.next) (λ inner. Each (SpellsExtract inner) state.extracts ⨟ Reserved (codes "transition") ⨟ SpellsNext inner state.next) le (λ i j k. under_both (under_each (SpellsExtract i) (SpellsExtract j) (λ header. extract_deeper i j header k) state.extracts) (under_both (itself (Reserved (codes "transition"))) (next_deeper i j state.next k)))))

pub declaration_deeper : (depth more : ℕ) (decl : PlainDecl) → depth ≤ more → Under (SpellsDeclaration depth decl) (SpellsDeclaration more decl)
declaration_deeper depth more (PlainDecl.Parser name states) le = under_both (itself (Reserved (codes "parser"))) (under_both (itself (Named name)) (under_both (under_bracketed (codes "(") (codes ")") depth more (λ _. SpellsParserParameters) (λ _. SpellsParserParameters) le (λ i j k. itself SpellsParserParameters)) (under_bracketed (codes "{") (codes "}") depth more (λ inner. Each (SpellsState inner) states) (λ inner. Each (SpellsState inner) states) le (λ i j k. under_each (SpellsState i) (SpellsState j) (λ state. state_deeper i j state k) states))))
declaration_deeper depth more (PlainDecl.Control name locals body) le = under_both (itself (Reserved (codes "control"))) (under_both (itself (Named name)) (under_both (under_bracketed (codes "(") (codes ")") depth more (λ _. SpellsControlParameters) (λ _. SpellsControlParameters) le (λ i j k. itself SpellsControlParameters)) (under_bracketed (codes "{") (codes "}") depth more (λ inner. Each (SpellsLocal inner) locals ⨟ Named (codes "apply") ⨟ Bracketed (codes "{") (codes "}") inner (λ innermost. SpellsStmts innermost body)) (λ inner. Each (SpellsLocal inner) locals ⨟ Named (codes "apply") ⨟ Bracketed (codes "{") (codes "}") inner (λ innermost. SpellsStmts innermost body)) le (λ i j k. under_both (under_each (SpellsLocal i) (SpellsLocal j) (λ part. local_deeper i j part k) locals) (under_both (itself (Named (codes "apply"))) (under_bracketed (codes "{") (codes "}") i j (λ innermost. SpellsStmts innermost body) (λ innermost. SpellsStmts innermost body) k (λ a b c ws h. stmts_deeper b c h)))))))
declaration_deeper depth more (PlainDecl.Include file) le = flat_deeper depth more (PlainDecl.Include file) le
declaration_deeper depth more (PlainDecl.Symbol symbol) le = flat_deeper depth more (PlainDecl.Symbol symbol) le
declaration_deeper depth more (PlainDecl.Assume comps) le = flat_deeper depth more (PlainDecl.Assume comps) le
declaration_deeper depth more (PlainDecl.Maximize terms) le = flat_deeper depth more (PlainDecl.Maximize terms) le
declaration_deeper depth more (PlainDecl.Const name width value) le = flat_deeper depth more (PlainDecl.Const name width value) le
declaration_deeper depth more (PlainDecl.Header name fields) le = flat_deeper depth more (PlainDecl.Header name fields) le
declaration_deeper depth more (PlainDecl.Headers members) le = flat_deeper depth more (PlainDecl.Headers members) le
declaration_deeper depth more (PlainDecl.Meta fields) le = flat_deeper depth more (PlainDecl.Meta fields) le
declaration_deeper depth more (PlainDecl.Register name width cells size) le = flat_deeper depth more (PlainDecl.Register name width cells size) le
declaration_deeper depth more (PlainDecl.Deparser name emits) le = flat_deeper depth more (PlainDecl.Deparser name emits) le
declaration_deeper depth more (PlainDecl.Main parser control deparser) le = flat_deeper depth more (PlainDecl.Main parser control deparser) le

pub program_deeper : (depth more : ℕ) (decls : PlainProgram) → depth ≤ more → Under (SpellsProgram depth decls) (SpellsProgram more decls)
program_deeper depth more decls le = under_each (SpellsDeclaration depth) (SpellsDeclaration more) (λ decl. declaration_deeper depth more decl le) decls
