-- The forms of declarations, told by their first words.
use Rattle.std.proofs.Common.{◌≡◌, ℕ, zero, suc, List, [], ◌∷◌, ◌++◌, codes, drop, refl, subst, true, false, bytes_eq}
use Rattle.std.proofs.lemmas.List.Elements.{All-append, All-nil}
use Rattle.p4_lexer.specs.declared.token.Kind.TheVariants as kind
use Rattle.elastic_ast.specs.Tree.{Name, PlainDecl, PlainLocal, PlainState, PlainStmts, PlainProgram}
use Rattle.spelling.specs.Words.{Word}
use Rattle.spelling.specs.Grammar.{Grammar, ◌⨟◌, One, Begins, Bracketed, IsNamed, IsReserved, Named, Reserved, is_reserved}
use Rattle.spelling.specs.Reading.{MayTake}
use Rattle.spelling.proofs.Only.{begins, begins_both, begins_first, behind_first, of_where, other_text, regroup, split}
use Rattle.p4_declarations.specs.Flat.{SpellsFlat}
use Rattle.p4_expr.specs.Expressions.{HasFewOperators}
use Rattle.p4_statements.proofs.Ahead.{at_third}
use Rattle.spelling.proofs.AllOf.{all_back, all_front}
use Rattle.p4_parser.specs.Declarations.{SpellsDeclaration}
use Rattle.p4_parser.specs.ExpressionsIn.{expressions_of_decl, expressions_in}
use Rattle.p4_parser.specs.Reading.{DeclHasFew, ProgramHasFew}

-- what a declaration that is flat doesn't begin with
pub record FlatWords (a : List Word) : Type 0 where
  pub no_parser : Begins (IsReserved (codes "parser")) a → ⊥
  pub no_control : Begins (IsReserved (codes "control")) a → Begins (IsReserved (codes "inout")) (drop 3 a) → ⊥

first_reserved : (text : List ℕ) {a : List Word} → Begins (IsReserved text) a → bytes_eq text (codes "parser") ≡ false → bytes_eq text (codes "control") ≡ false → FlatWords a
first_reserved text {a = a} at parser control =
    record {
      no_parser = λ p. other_text text (codes "parser") a parser (λ word h. h.1) (λ word h. h.1) at p;
      no_control = λ c _. other_text text (codes "control") a control (λ word h. h.1) (λ word h. h.1) at c;
    }

first_named : (text : List ℕ) {a : List Word} → Begins (IsNamed text) a → bytes_eq text (codes "parser") ≡ false → bytes_eq text (codes "control") ≡ false → FlatWords a
first_named text {a = a} at parser control =
    record {
      no_parser = λ p. other_text text (codes "parser") a parser (λ word h. h.1) (λ word h. h.1) at p;
      no_control = λ c _. other_text text (codes "control") a control (λ word h. h.1) (λ word h. h.1) at c;
    }

include_no_reserved : (file : ℕ) (text : List ℕ) (a : List Word) → Begins (λ word. word.kind ≡ kind.Include file) a → Begins (IsReserved text) a → ⊥
include_no_reserved file text a at reserved =
    let b = begins_both a at reserved in
    let e : is_reserved b.0.kind ≡ true = b.2.0 in
    let f : b.0.kind ≡ kind.Include file = b.1 in
    cc

-- the words of a control or a deparser up to the first of its parameters
third_word : (depth : ℕ) (name : Name) (P : Word → Type 0) (Rest : Grammar) {Q : Grammar} {a c : List Word} → MayTake (Reserved (codes "control") ⨟ Named name ⨟ Bracketed (codes "(") (codes ")") depth (λ _. One P ⨟ Rest) ⨟ Q) a c → Begins P (drop 3 a)
third_word zero name P Rest m = absurd (split (behind_first (behind_first m))).first.spelled
third_word (suc depth) name P Rest {a = a} m =
    let m2 = behind_first (behind_first m) in
    let m3 = behind_first (regroup m2) in
    at_third (Begins P) a (begins_first (regroup (regroup m3)))

named_no_reserved : (s t : List ℕ) (ws : List Word) → Begins (IsNamed s) ws → Begins (IsReserved t) ws → ⊥
named_no_reserved s t ws at reserved =
    let b = begins_both ws at reserved in
    let e : is_reserved b.0.kind ≡ true = b.2.0 in
    let f : b.0.kind ≡ kind.Name = b.1.0 in
    cc

-- a declaration by its form
pub by_form : (more : ℕ) (Answer : PlainDecl → Type 0) (decl : PlainDecl) {a c : List Word} → MayTake (SpellsDeclaration more decl) a c → ((name : Name) (states : List PlainState) → MayTake (SpellsDeclaration more (PlainDecl.Parser name states)) a c → Begins (IsReserved (codes "parser")) a → Answer (PlainDecl.Parser name states)) → ((name : Name) (locals : List PlainLocal) (body : PlainStmts) → MayTake (SpellsDeclaration more (PlainDecl.Control name locals body)) a c → Begins (IsReserved (codes "control")) a → Begins (IsReserved (codes "inout")) (drop 3 a) → Answer (PlainDecl.Control name locals body)) → ((flat : PlainDecl) → MayTake (SpellsFlat more flat) a c → FlatWords a → Answer flat) → Answer decl
by_form more Answer (PlainDecl.Parser name states) m f g h = f name states m (begins_first m)
by_form more Answer (PlainDecl.Control name locals body) m f g h = g name locals body m (begins_first m) (third_word more name _ _ m)
by_form more Answer (PlainDecl.Include file) {a = a} m f g h = h (PlainDecl.Include file) m (let at = begins (of_where m) in record { no_parser = include_no_reserved file (codes "parser") a at; no_control = λ c _. include_no_reserved file (codes "control") a at c })
by_form more Answer (PlainDecl.Symbol symbol) m f g h = h (PlainDecl.Symbol symbol) m (first_reserved (codes "symbolic") (begins_first m) refl refl)
by_form more Answer (PlainDecl.Assume comps) m f g h = h (PlainDecl.Assume comps) m (first_named (codes "assume") (begins_first m) refl refl)
by_form more Answer (PlainDecl.Maximize terms) m f g h = h (PlainDecl.Maximize terms) m (first_named (codes "maximize") (begins_first m) refl refl)
by_form more Answer (PlainDecl.Const name width value) m f g h = h (PlainDecl.Const name width value) m (first_reserved (codes "const") (begins_first m) refl refl)
by_form more Answer (PlainDecl.Header name fields) m f g h = h (PlainDecl.Header name fields) m (first_reserved (codes "header") (begins_first m) refl refl)
by_form more Answer (PlainDecl.Headers members) m f g h = h (PlainDecl.Headers members) m (first_reserved (codes "struct") (begins_first m) refl refl)
by_form more Answer (PlainDecl.Meta fields) m f g h = h (PlainDecl.Meta fields) m (first_reserved (codes "struct") (begins_first m) refl refl)
by_form more Answer (PlainDecl.Register name width cells size) m f g h = h (PlainDecl.Register name width cells size) m (first_named (codes "Register") (begins_first m) refl refl)
by_form more Answer (PlainDecl.Deparser name emits) {a = a} m f g h =
    h (PlainDecl.Deparser name emits) m
    record {
      no_parser = λ p. other_text (codes "control") (codes "parser") a refl (λ word w. w.1) (λ word w. w.1) (begins_first m) p;
      no_control = λ _ inout. named_no_reserved (codes "packet_out") (codes "inout") (drop 3 a) (third_word more name _ _ m) inout;
    }
by_form more Answer (PlainDecl.Main parser control deparser) m f g h = h (PlainDecl.Main parser control deparser) m (first_named (codes "Pisa") (begins_first m) refl refl)

none_begins : (F : Word → Type 0) {a : List Word} → Begins F a → a ≡ [] → ⊥
none_begins F at e = let h : Begins F [] = subst (Begins F) e at in h

flat_there : (more : ℕ) (decl : PlainDecl) {a c : List Word} → MayTake (SpellsFlat more decl) a c → a ≡ [] → ⊥
flat_there more (PlainDecl.Parser name states) m e = absurd m.spelled
flat_there more (PlainDecl.Control name locals body) m e = absurd m.spelled
flat_there more (PlainDecl.Include file) m e = none_begins _ (begins (of_where m)) e
flat_there more other m e = none_begins _ (begins_first m) e

-- what is flat is a declaration, without expressions
pub flat_declaration : (depth : ℕ) (decl : PlainDecl) (ws : List Word) → SpellsFlat depth decl ws → SpellsDeclaration depth decl ws × DeclHasFew decl
flat_declaration depth (PlainDecl.Parser name states) ws h = absurd h
flat_declaration depth (PlainDecl.Control name locals body) ws h = absurd h
flat_declaration depth other ws h = (h, All-nil HasFewOperators)

-- few operators, of a list of declarations
pub few_push : (decls : PlainProgram) (decl : PlainDecl) → ProgramHasFew decls → DeclHasFew decl → ProgramHasFew (decls ++ decl ∷ [])
few_push [] decl a b = All-append HasFewOperators (expressions_of_decl decl) [] b (All-nil HasFewOperators)
few_push (d ∷ decls) decl a b =
    let first = all_front HasFewOperators (expressions_of_decl d) (expressions_in decls) a in
    let rest = all_back HasFewOperators (expressions_of_decl d) (expressions_in decls) a in
    All-append HasFewOperators (expressions_of_decl d) (expressions_in (decls ++ decl ∷ [])) first (few_push decls decl rest b)

pub few_next : (read : PlainProgram) (one : PlainDecl) (later all : PlainProgram) → all ≡ read ++ one ∷ later → ProgramHasFew all → DeclHasFew one
few_next read one later all e few = next read (subst ProgramHasFew e few)
  where
    next : (read : PlainProgram) → ProgramHasFew (read ++ one ∷ later) → DeclHasFew one
    next [] h = all_front HasFewOperators (expressions_of_decl one) (expressions_in later) h
    next (d ∷ read) h = next read (all_back HasFewOperators (expressions_of_decl d) (expressions_in (read ++ one ∷ later)) h)

-- a declaration takes a word
pub decl_there : (more : ℕ) (decl : PlainDecl) {Q : Grammar} {a c : List Word} → MayTake (SpellsDeclaration more decl ⨟ Q) a c → a ≡ [] → ⊥
decl_there more decl {a = a} m e =
    by_form more (λ _. ⊥) decl (split m).first
    (λ name states f at. none_begins _ at e)
    (λ name locals body f at inout. none_begins _ at e)
    (λ flat f words. flat_there more flat f e)
