-- An operator that is weaker than its place allows stands in brackets.
use Rattle.std.proofs.Common.{◌≡◌, ℕ, suc, ◌<◌, Bool, true, false, List, [], ◌∷◌, ◌++◌, codes, refl, sym, ap, subst, ◌∙◌, unwrap_or, arith}
use Rattle.elastic_ast.specs.OperatorSorts.{NoOperator, operator_of}
use Rattle.elastic_ast.specs.Tree.{PlainExpr}
use Rattle.spelling.specs.Words.{Word}
use Rattle.spelling.specs.Grammar.{Begins, IsSign, Sign}
use Rattle.p4_expr.specs.Operators.{level_of}
use Rattle.p4_expr.specs.Expressions.{SpellsLevel, SpellsPrefixed, SpellsPrimary}

abbrev pub strength : PlainExpr → ℕ
strength (PlainExpr.Binary op left right) = level_of (operator_of op)
strength _ = 0

-- no prefix, cast or binary operator stands at the top
abbrev pub is_primary : PlainExpr → Bool
is_primary (PlainExpr.Unary op of) = false
is_primary (PlainExpr.Cast width of) = false
is_primary (PlainExpr.Binary op left right) = false
is_primary _ = true

begins_there : (text : List ℕ) (opening inside closing ws : List Word) → Sign text opening → ws ≡ opening ++ inside ++ closing → Begins (IsSign text) ws
begins_there text opening inside closing ws o e =
    let Opens : List Word → Type 0 = λ l. Begins (IsSign text) (l ++ inside ++ closing) in
    let first : Opens (o.word ∷ []) = o.is_this in
    subst (Begins (IsSign text)) (sym e) (subst Opens (sym o.alone) first)

pub primary_begins : {depth : ℕ} {e : PlainExpr} {ws : List Word} → SpellsPrimary depth e ws → is_primary e ≡ false → Begins (IsSign (codes "(")) ws
primary_begins {ws = ws} (SpellsPrimary.bracketed opening inside closing o h c e) other = begins_there (codes "(") opening inside closing ws o e
primary_begins _ other = absurd cc

stronger_is_binary : (e : PlainExpr) (level : ℕ) → level < strength e → is_primary e ≡ false
stronger_is_binary (PlainExpr.Binary op left right) level lt = refl
stronger_is_binary _ level lt = absurd (omega (arith, lt))

prefixed_begins : {depth : ℕ} {e : PlainExpr} {ws : List Word} → SpellsPrefixed depth e ws → 0 < strength e → Begins (IsSign (codes "(")) ws
prefixed_begins {e = e} (SpellsPrefixed.primary h) lt = primary_begins h (stronger_is_binary e 0 lt)
prefixed_begins (SpellsPrefixed.unary which front back is first second e) lt = absurd (omega (arith, lt))
prefixed_begins (SpellsPrefixed.cast front back first second e) lt = absurd (omega (arith, lt))

pub level_begins : {depth level : ℕ} {e : PlainExpr} {ws : List Word} → SpellsLevel depth level e ws → level < strength e → Begins (IsSign (codes "(")) ws
level_begins (SpellsLevel.prefixed h) lt = prefixed_begins h lt
level_begins (SpellsLevel.stronger h) lt = level_begins h (omega (arith, lt))
level_begins (SpellsLevel.binary {level = level} {op = op} which front sign back is left middle right e) lt =
    let coded : operator_of op ≡ which = ap (λ o. unwrap_or o NoOperator) is.coded in
    let at : level_of (operator_of op) ≡ suc level = ap level_of coded ∙ is.level_is in
    absurd (omega (arith, lt, at))
