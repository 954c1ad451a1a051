-- A program has no more declarations than words, since each declaration begins with a word.
use Rattle.std.proofs.Common.{ℕ, ◌≤◌, List, [], ◌∷◌, length, length-append, ap, ◌∙◌, arith}
use Rattle.elastic_ast.specs.Tree.{PlainDecl, PlainProgram}
use Rattle.spelling.specs.Words.{Word}
use Rattle.spelling.specs.Grammar.{One, ◌⨟◌, Grammar}
use Rattle.p4_declarations.specs.Flat.{SpellsFlat}
use Rattle.p4_parser.specs.Declarations.{SpellsDeclaration, SpellsProgram}

one_word : {IsThis : Word → Type 0} {ws : List Word} → One IsThis ws → 1 ≤ length ws
one_word one = let e = ap length one.alone in omega (arith, e)

first_word : {IsThis : Word → Type 0} {Rest : Grammar} {ws : List Word} → (One IsThis ⨟ Rest) ws → 1 ≤ length ws
first_word s =
    let first = one_word s.first in
    let e = ap length s.joined ∙ length-append s.front s.back in
    omega (arith, e, first)

flat_word : (depth : ℕ) (decl : PlainDecl) (ws : List Word) → SpellsFlat depth decl ws → 1 ≤ length ws
flat_word depth (PlainDecl.Include file) ws s = one_word s.1
flat_word depth (PlainDecl.Parser name states) ws s = absurd s
flat_word depth (PlainDecl.Control name locals body) ws s = absurd s
flat_word depth other ws s = first_word s

declaration_word : (depth : ℕ) (decl : PlainDecl) (ws : List Word) → SpellsDeclaration depth decl ws → 1 ≤ length ws
declaration_word depth (PlainDecl.Parser name states) ws s = first_word s
declaration_word depth (PlainDecl.Control name locals body) ws s = first_word s
declaration_word depth (PlainDecl.Include file) ws s = flat_word depth (PlainDecl.Include file) ws s
declaration_word depth (PlainDecl.Symbol symbol) ws s = flat_word depth (PlainDecl.Symbol symbol) ws s
declaration_word depth (PlainDecl.Assume comps) ws s = flat_word depth (PlainDecl.Assume comps) ws s
declaration_word depth (PlainDecl.Maximize terms) ws s = flat_word depth (PlainDecl.Maximize terms) ws s
declaration_word depth (PlainDecl.Const name width value) ws s = flat_word depth (PlainDecl.Const name width value) ws s
declaration_word depth (PlainDecl.Header name fields) ws s = flat_word depth (PlainDecl.Header name fields) ws s
declaration_word depth (PlainDecl.Headers members) ws s = flat_word depth (PlainDecl.Headers members) ws s
declaration_word depth (PlainDecl.Meta fields) ws s = flat_word depth (PlainDecl.Meta fields) ws s
declaration_word depth (PlainDecl.Register name width cells size) ws s = flat_word depth (PlainDecl.Register name width cells size) ws s
declaration_word depth (PlainDecl.Deparser name emits) ws s = flat_word depth (PlainDecl.Deparser name emits) ws s
declaration_word depth (PlainDecl.Main parser control deparser) ws s = flat_word depth (PlainDecl.Main parser control deparser) ws s

pub few_declarations : (depth : ℕ) (program : PlainProgram) (ws : List Word) → SpellsProgram depth program ws → length program ≤ length ws
few_declarations depth [] ws s = omega arith
few_declarations depth (decl ∷ decls) ws s =
    let first = declaration_word depth decl s.front s.first in
    let rest = few_declarations depth decls s.back s.second in
    let e = ap length s.joined ∙ length-append s.front s.back in
    omega (arith, e, first, rest)
