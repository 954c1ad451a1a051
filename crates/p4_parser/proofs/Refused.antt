-- Texts that no program spells: a constant whose number has another width, and a number too wide for its place.
use Rattle.std.proofs.Common.{◌≡◌, ℕ, ◌<◌, ◌^◌, List, [], ◌∷◌, None, Some, codes, refl, ◌⊎◌, inl, inr, arith}
use Rattle.p4_lexer.specs.declared.token.Kind.TheVariants as kind
use Rattle.elastic_ast.specs.Tree.{PlainDecl, PlainProgram}
use Rattle.spelling.specs.Words.{Word}
use Rattle.spelling.specs.Grammar.{Grammar, ◌⨟◌, Sign, Named}
use Rattle.spelling.specs.Reading.{MayTake}
use Rattle.spelling.proofs.Only.{begins, of_where, regroup, split, which}
use Rattle.p4_expr.specs.Parts.{SpellsNumber, SpellsBits}
use Rattle.p4_declarations.specs.Flat.{SpellsConstant}
use Rattle.p4_parser.specs.Declarations.{SpellsDeclaration, SpellsProgram}
use Rattle.p4_parser.specs.Examples.{wider_number, too_wide}
use Rattle.spelling.proofs.Peeling.{first_is, peel, under_fact}

-- what a constant's words are
abbrev pub SpellsConst : List ℕ → ℕ → ℕ → Grammar
SpellsConst name width value = SpellsBits width ⨟ Named name ⨟ Sign (codes "=") ⨟ SpellsConstant width value ⨟ Sign (codes ";")

-- a declaration whose first word is `const` is a constant
pub only_const : (depth : ℕ) (w : Word) (ws c : List Word) → w.kind ≡ kind.Reserved 2 → w.piece ≡ codes "const" → ((name : List ℕ) (width value : ℕ) → MayTake (SpellsConst name width value) ws c → ⊥) → (decl : PlainDecl) → MayTake (SpellsDeclaration depth decl) (w ∷ ws) c → ⊥
only_const depth w ws c k p none (PlainDecl.Const name width value) m = none name width value (peel m)
only_const depth w ws c k p none (PlainDecl.Include file) m = let e : w.kind ≡ kind.Include file = begins (of_where m) in cc
only_const depth w ws c k p none (PlainDecl.Symbol symbol) m = let e : w.piece ≡ codes "symbolic" = (first_is m).1 in cc
only_const depth w ws c k p none (PlainDecl.Assume comps) m = let e : w.piece ≡ codes "assume" = (first_is m).1 in cc
only_const depth w ws c k p none (PlainDecl.Maximize terms) m = let e : w.piece ≡ codes "maximize" = (first_is m).1 in cc
only_const depth w ws c k p none (PlainDecl.Header name fields) m = let e : w.piece ≡ codes "header" = (first_is m).1 in cc
only_const depth w ws c k p none (PlainDecl.Headers members) m = let e : w.piece ≡ codes "struct" = (first_is m).1 in cc
only_const depth w ws c k p none (PlainDecl.Meta fields) m = let e : w.piece ≡ codes "struct" = (first_is m).1 in cc
only_const depth w ws c k p none (PlainDecl.Register name width cells size) m = let e : w.piece ≡ codes "Register" = (first_is m).1 in cc
only_const depth w ws c k p none (PlainDecl.Parser name states) m = let e : w.piece ≡ codes "parser" = (first_is m).1 in cc
only_const depth w ws c k p none (PlainDecl.Control name locals body) m = let e : w.piece ≡ codes "control" = (first_is m).1 in cc
only_const depth w ws c k p none (PlainDecl.Deparser name emits) m = let e : w.piece ≡ codes "control" = (first_is m).1 in cc
only_const depth w ws c k p none (PlainDecl.Main parser control deparser) m = let e : w.piece ≡ codes "Pisa" = (first_is m).1 in cc

-- words of which no front spells a declaration spell no program
pub no_program : (depth : ℕ) (w : Word) (ws : List Word) → ((decl : PlainDecl) (c : List Word) → MayTake (SpellsDeclaration depth decl) (w ∷ ws) c → ⊥) → (program : PlainProgram) → SpellsProgram depth program (w ∷ ws) → ⊥
no_program depth w ws none [] h = cc
no_program depth w ws none (decl ∷ decls) h = none decl h.back record { front = h.front; joined = h.joined; spelled = h.first }

-- the width of `bit<8>` is 8, and what follows it stands behind it
pub width_is : (width n : ℕ) {Q : Grammar} {a b c d : Word} {ws rest : List Word} → c.kind ≡ kind.Number None n → MayTake (SpellsBits width ⨟ Q) (a ∷ b ∷ c ∷ d ∷ ws) rest → (width ≡ n) × (width < 2 ^ 8) × MayTake Q ws rest
width_is width n {c = c} k m =
    let u = under_fact m in
    let m1 = peel (regroup u.1) in
    let m2 = peel (regroup m1) in
    let m3 = regroup m2 in
    let e : c.kind ≡ kind.Number None width = first_is m3 in
    let same : width ≡ n = cc in
    (same, u.0, peel (peel m3))

number_width : (width value : ℕ) (w : Word) {ws c : List Word} → w.kind ≡ kind.Number (Some 9) 3 → MayTake (SpellsNumber None value) (w ∷ ws) c ⊎ MayTake (SpellsNumber (Some width) value) (w ∷ ws) c → width ≡ 9
number_width width value w k (inl h) = let e : w.kind ≡ kind.Number None value = begins (of_where h) in cc
number_width width value w k (inr h) = let e : w.kind ≡ kind.Number (Some width) value = begins (of_where h) in cc

constant_width : (width value : ℕ) {Q : Grammar} {w : Word} {ws c : List Word} → w.kind ≡ kind.Number (Some 9) 3 → MayTake (SpellsConstant width value ⨟ Q) (w ∷ ws) c → width ≡ 9
constant_width width value {w = w} k m = number_width width value w k (which (split m).first)

pub other_width : (depth : ℕ) (program : PlainProgram) → SpellsProgram depth program wider_number → ⊥
other_width depth =
    no_program depth _ _ (λ decl c. only_const depth _ _ c refl refl
    (λ name width value m. let w = width_is width 8 refl m in let eight : width ≡ 8 = w.0 in let nine : width ≡ 9 = constant_width width value refl (peel (peel w.2)) in omega (arith, nine, eight))
    decl)

pub width_too_wide : (depth : ℕ) (program : PlainProgram) → SpellsProgram depth program too_wide → ⊥
width_too_wide depth =
    no_program depth _ _ (λ decl c. only_const depth _ _ c refl refl
    (λ name width value m. let w = width_is width 256 refl m in let same : width ≡ 256 = w.0 in let fits : width < 2 ^ 8 = w.1 in omega (arith, same, fits))
    decl)
