-- The first word of a declaration says which it is.
use Rattle.std.proofs.Common.{Result, ◌⊎◌, inl, inr, ◌≤◌, ◌≡◌, ℕ, Bool, true, false, IsTrue, List, [], ◌∷◌, Option, codes, bytes_eq, cond, refl, sym, ap, subst, ◌∙◌}
use Rattle.elastic_ast.specs.Seen.{seen_decl}
use Rattle.elastic_ast.specs.Tree.{Name, PlainDecl}
use Rattle.elastic_ast.specs.declared.declarations.Decl.{Decl}
use Rattle.elastic_ast.specs.declared.declarations.Comp.{Comp}
use Rattle.elastic_ast.specs.declared.declarations.Field.{Field}
use Rattle.elastic_ast.specs.declared.declarations.UtilTerm.{UtilTerm}
use Rattle.elastic_ast.specs.declared.statements.Amount.{Amount}
use Rattle.p4_lexer.specs.declared.token.Kind.{Kind}
use Rattle.p4_lexer.specs.declared.token.Kind.TheVariants as kind
use Rattle.spelling.specs.Words.{Word}
use Rattle.spelling.specs.Grammar.{Begins, IsNamed, IsReserved, is_reserved}
use Rattle.spelling.specs.Reading.{IsReading, MayTake, ahead}
use Rattle.spelling.specs.Readers.{ReadsMade, ReadsWithin}
use Rattle.spelling.specs.declared.error.SyntaxError.{SyntaxError}
use Rattle.spelling.specs.declared.reader.Reader.{Reader}
use Rattle.p4_declarations.specs.Made.{a_constant, a_deparser, a_header, a_package, a_register, a_struct}
use Rattle.p4_declarations.specs.declared.package.Parts.{Parts}
use Rattle.spelling.proofs.Only.{begins, begins_both, begins_first, of_where}
use Rattle.p4_declarations.specs.Flat.{SpellsFlat}

-- what a declaration may begin with
pub data First : Type 0 where
  by_inclusion : First
  by_symbolic : First
  by_assume : First
  by_maximize : First
  by_const : First
  by_header : First
  by_struct : First
  by_register : First
  by_control : First
  by_main : First

abbrev pub first_of : PlainDecl → First
first_of (PlainDecl.Include file) = First.by_inclusion
first_of (PlainDecl.Symbol symbol) = First.by_symbolic
first_of (PlainDecl.Assume comps) = First.by_assume
first_of (PlainDecl.Maximize terms) = First.by_maximize
first_of (PlainDecl.Const name width value) = First.by_const
first_of (PlainDecl.Header name fields) = First.by_header
first_of (PlainDecl.Headers members) = First.by_struct
first_of (PlainDecl.Meta fields) = First.by_struct
first_of (PlainDecl.Register name width cells size) = First.by_register
first_of (PlainDecl.Parser name states) = First.by_inclusion
first_of (PlainDecl.Control name locals body) = First.by_control
first_of (PlainDecl.Deparser name emits) = First.by_control
first_of (PlainDecl.Main parser control deparser) = First.by_main

-- its text; that of an include may be any
abbrev pub text_of : First → List ℕ
text_of First.by_inclusion = []
text_of First.by_symbolic = codes "symbolic"
text_of First.by_assume = codes "assume"
text_of First.by_maximize = codes "maximize"
text_of First.by_const = codes "const"
text_of First.by_header = codes "header"
text_of First.by_struct = codes "struct"
text_of First.by_register = codes "Register"
text_of First.by_control = codes "control"
text_of First.by_main = codes "Pisa"

by_text : List ℕ → First
by_text text =
    cond (bytes_eq text (codes "symbolic")) First.by_symbolic
    (cond (bytes_eq text (codes "assume")) First.by_assume
    (cond (bytes_eq text (codes "maximize")) First.by_maximize
    (cond (bytes_eq text (codes "const")) First.by_const
    (cond (bytes_eq text (codes "header")) First.by_header
    (cond (bytes_eq text (codes "struct")) First.by_struct
    (cond (bytes_eq text (codes "Register")) First.by_register
    (cond (bytes_eq text (codes "control")) First.by_control
    (cond (bytes_eq text (codes "Pisa")) First.by_main First.by_inclusion))))))))

by_its_text : (first : First) → by_text (text_of first) ≡ first
unfolding by_text
by_its_text First.by_inclusion = refl
by_its_text First.by_symbolic = refl
by_its_text First.by_assume = refl
by_its_text First.by_maximize = refl
by_its_text First.by_const = refl
by_its_text First.by_header = refl
by_its_text First.by_struct = refl
by_its_text First.by_register = refl
by_its_text First.by_control = refl
by_its_text First.by_main = refl

pub is_include : Kind → Bool
is_include (kind.Include file) = true
is_include other = false

-- a reserved word or a name with this text
pub IsText : List ℕ → Word → Type 0
IsText text word = (is_include word.kind ≡ false) × (word.piece ≡ text)

reserved_other : (k : Kind) → IsTrue (is_reserved k) → is_include k ≡ false
unfolding is_include
reserved_other (kind.Include file) h = sym h
reserved_other other h = refl

pub record StartsWith (text : List ℕ) (a : List Word) : Type 0 where
  pub at : Begins (IsText text) a

pub at_reserved : {text : List ℕ} (a : List Word) → Begins (IsReserved text) a → StartsWith text a
unfolding IsText
at_reserved [] h = absurd h
at_reserved (word ∷ ws) h = record { at = (reserved_other word.kind h.0, h.1) }

pub at_name : {text : List ℕ} (a : List Word) → Begins (IsNamed text) a → StartsWith text a
unfolding IsText is_include
at_name [] h = absurd h
at_name (word ∷ ws) h = record { at = (ap is_include h.0, h.1) }

-- a reserved word or a name has one text
one_text : {F : Word → Type 0} {text : List ℕ} (own : List ℕ) {a : List Word} → ((word : Word) → F word → word.piece ≡ own) → Begins F a → StartsWith text a → own ≡ text
unfolding IsText
one_text own {a = a} is f s =
    let b = begins_both a f s.at in
    sym (is b.0 b.1) ∙ b.2.1

own_text : (more : ℕ) (decl : PlainDecl) (text : List ℕ) {a c : List Word} → MayTake (SpellsFlat more decl) a c → StartsWith text a → text_of (first_of decl) ≡ text
unfolding IsText is_include
own_text more (PlainDecl.Include file) text {a = a} m s =
    let b = begins_both a (begins (of_where m)) s.at in
    let e = b.1 in
    let f = b.2.0 in
    absurd (let g : true ≡ false = sym (ap is_include e) ∙ f in cc)
own_text more (PlainDecl.Parser name states) text m s = absurd m.spelled
own_text more (PlainDecl.Control name locals body) text m s = absurd m.spelled
own_text more other text m s = one_text (text_of (first_of other)) (λ word h. h.1) (begins_first m) s

-- the parts of a declaration that begins so, and the declaration that is made of them
abbrev pub PartsOf : First → Type 0
PartsOf First.by_inclusion = ℕ
PartsOf First.by_symbolic = Name
PartsOf First.by_assume = List Comp
PartsOf First.by_maximize = List UtilTerm
PartsOf First.by_const = Name × ℕ × ℕ
PartsOf First.by_header = Name × List Field
PartsOf First.by_struct = List (Name × Name) ⊎ List Field
PartsOf First.by_register = Name × ℕ × Amount × Option Name
PartsOf First.by_control = Name × List Name
PartsOf First.by_main = Parts

abbrev pub made : (first : First) → PartsOf first → PlainDecl
made First.by_inclusion = PlainDecl.Include
made First.by_symbolic = PlainDecl.Symbol
made First.by_assume = PlainDecl.Assume
made First.by_maximize = PlainDecl.Maximize
made First.by_const = a_constant
made First.by_header = a_header
made First.by_struct = a_struct
made First.by_register = a_register
made First.by_control = a_deparser
made First.by_main = a_package

-- a fact about the declarations that begin so
abbrev pub Forms : (PlainDecl → Type 0) → ℕ → List Word → List Word → First → Type 0
Forms P more a c first = (of : PartsOf first) → MayTake (SpellsFlat more (made first of)) a c → P (made first of)

-- holds of each
pub by_form : (P : PlainDecl → Type 0) (more : ℕ) (decl : PlainDecl) {a c : List Word} → MayTake (SpellsFlat more decl) a c → Forms P more a c (first_of decl) → P decl
by_form P more (PlainDecl.Include file) m f = f file m
by_form P more (PlainDecl.Symbol symbol) m f = f symbol m
by_form P more (PlainDecl.Assume comps) m f = f comps m
by_form P more (PlainDecl.Maximize terms) m f = f terms m
by_form P more (PlainDecl.Const name width value) m f = f (name, width, value) m
by_form P more (PlainDecl.Header name fields) m f = f (name, fields) m
by_form P more (PlainDecl.Headers members) m f = f (inl members) m
by_form P more (PlainDecl.Meta fields) m f = f (inr fields) m
by_form P more (PlainDecl.Register name width cells size) m f = f (name, width, cells, size) m
by_form P more (PlainDecl.Parser name states) m f = absurd m.spelled
by_form P more (PlainDecl.Control name locals body) m f = absurd m.spelled
by_form P more (PlainDecl.Deparser name emits) m f = f (name, emits) m
by_form P more (PlainDecl.Main parser control deparser) m f = f record { parser = parser; control = control; deparser = deparser } m

-- where the text of the first word is known, these are the only ones
pub by_first : (P : PlainDecl → Type 0) (more : ℕ) (decl : PlainDecl) (first : First) {a c : List Word} → MayTake (SpellsFlat more decl) a c → StartsWith (text_of first) a → Forms P more a c first → P decl
by_first P more decl first {a = a} {c = c} m s f =
    let same : first_of decl ≡ first = sym (by_its_text (first_of decl)) ∙ ap by_text (own_text more decl (text_of first) m s) ∙ by_its_text first in
    by_form P more decl m (subst (Forms P more a c) (sym same) f)

-- none of these words is the first
pub record NoneOf (a : List Word) : Type 0 where
  pub symbolic : Begins (IsReserved (codes "symbolic")) a → ⊥
  pub assume : Begins (IsNamed (codes "assume")) a → ⊥
  pub maximize : Begins (IsNamed (codes "maximize")) a → ⊥
  pub const : Begins (IsReserved (codes "const")) a → ⊥
  pub header : Begins (IsReserved (codes "header")) a → ⊥
  pub struct : Begins (IsReserved (codes "struct")) a → ⊥
  pub register : Begins (IsNamed (codes "Register")) a → ⊥
  pub control : Begins (IsReserved (codes "control")) a → ⊥
  pub main : Begins (IsNamed (codes "Pisa")) a → ⊥

-- so only an include is left
pub included : (P : PlainDecl → Type 0) (more : ℕ) (decl : PlainDecl) {a c : List Word} → NoneOf a → MayTake (SpellsFlat more decl) a c → Forms P more a c First.by_inclusion → P decl
included P more (PlainDecl.Include file) none m f = f file m
included P more (PlainDecl.Symbol symbol) none m f = absurd (none.symbolic (begins_first m))
included P more (PlainDecl.Assume comps) none m f = absurd (none.assume (begins_first m))
included P more (PlainDecl.Maximize terms) none m f = absurd (none.maximize (begins_first m))
included P more (PlainDecl.Const name width value) none m f = absurd (none.const (begins_first m))
included P more (PlainDecl.Header name fields) none m f = absurd (none.header (begins_first m))
included P more (PlainDecl.Headers members) none m f = absurd (none.struct (begins_first m))
included P more (PlainDecl.Meta fields) none m f = absurd (none.struct (begins_first m))
included P more (PlainDecl.Register name width cells size) none m f = absurd (none.register (begins_first m))
included P more (PlainDecl.Parser name states) none m f = absurd m.spelled
included P more (PlainDecl.Control name locals body) none m f = absurd m.spelled
included P more (PlainDecl.Deparser name emits) none m f = absurd (none.control (begins_first m))
included P more (PlainDecl.Main parser control deparser) none m f = absurd (none.main (begins_first m))

-- a reader of what begins so reads each declaration, where its first word stands
pub made_flat : {depth : ℕ} {before after : Reader} {result : Result Decl SyntaxError} (first : First) → StartsWith (text_of first) (ahead before) → ReadsMade SpellsFlat seen_decl (made first) depth before after result → ReadsWithin SpellsFlat seen_decl depth before after result
made_flat {depth = depth} {after = end} {result = result} first at r =
    record {
      taken = r.taken;
      only = λ more decl rest m. by_first (λ d. IsReading (more ≤ depth) seen_decl d rest (ahead end) result) more decl first m at (λ of f. r.only more of rest f);
      deep = r.deep;
    }

-- the two structures
pub by_structure : (P : PlainDecl → Type 0) (more : ℕ) {a c : List Word} (of : List (Name × Name) ⊎ List Field) → MayTake (SpellsFlat more (a_struct of)) a c → ((members : List (Name × Name)) → MayTake (SpellsFlat more (PlainDecl.Headers members)) a c → P (PlainDecl.Headers members)) → ((fields : List Field) → MayTake (SpellsFlat more (PlainDecl.Meta fields)) a c → P (PlainDecl.Meta fields)) → P (a_struct of)
by_structure P more (inl members) m headers meta = headers members m
by_structure P more (inr fields) m headers meta = meta fields m
