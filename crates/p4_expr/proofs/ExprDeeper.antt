-- What is spelled within a depth is spelled within each greater one: the parts of expressions and statements, and expressions.
use Rattle.std.proofs.Common.{ℕ, zero, suc, ◌≤◌, List, Option, None, Some, codes, arith}
use Rattle.elastic_ast.specs.declared.statements.Lval.{Lval}
use Rattle.elastic_ast.specs.declared.statements.Lval.TheVariants as lval
use Rattle.elastic_ast.specs.declared.statements.RegRef.{RegRef}
use Rattle.elastic_ast.specs.Tree.{PlainExpr}
use Rattle.spelling.specs.Words.{Word}
use Rattle.spelling.specs.Grammar.{Empty, ◌⨟◌, Sign, Named, Num}
use Rattle.spelling.proofs.Deeper.{Under, itself, under_both, under_bracketed, under_where}
use Rattle.p4_expr.specs.Parts.{SpellsBits, SpellsIndex, SpellsHeader, SpellsNoArguments, SpellsLval, SpellsRegister, SpellsIsValid, SpellsBitRange, SpellsCast}
use Rattle.p4_expr.specs.Expressions.{SpellsLevel, SpellsPrefixed, SpellsPrimary, SpellsExpr}

pub index_deeper : {depth more : ℕ} (index : Option (List ℕ)) → depth ≤ more → Under (SpellsIndex depth index) (SpellsIndex more index)
index_deeper None le = itself Empty
index_deeper {depth = depth} {more = more} (Some index) le = under_bracketed (codes "[") (codes "]") depth more (λ _. Named index) (λ _. Named index) le (λ i j k. itself (Named index))

pub no_arguments_deeper : (depth more : ℕ) → depth ≤ more → Under (SpellsNoArguments depth) (SpellsNoArguments more)
no_arguments_deeper depth more le = under_bracketed (codes "(") (codes ")") depth more (λ _. Empty) (λ _. Empty) le (λ i j k. itself Empty)

pub lval_deeper : (depth more : ℕ) (place : Lval) → depth ≤ more → Under (SpellsLval depth place) (SpellsLval more place)
lval_deeper depth more (lval.Header header field) le ws h = h
lval_deeper depth more (lval.Meta name index) le ws h = under_both (itself (Named (codes "meta"))) (under_both (itself (Sign (codes "."))) (under_both (itself (Named name)) (index_deeper index le))) ws h
lval_deeper depth more (lval.Std name) le ws h = h

pub register_deeper : (depth more : ℕ) (register : RegRef) → depth ≤ more → Under (SpellsRegister depth register) (SpellsRegister more register)
register_deeper depth more register le = under_both (itself (Named register.name)) (index_deeper register.index le)

pub is_valid_deeper : (depth more : ℕ) (header : List ℕ) → depth ≤ more → Under (SpellsIsValid depth header) (SpellsIsValid more header)
is_valid_deeper depth more header le = under_both (itself (SpellsHeader header)) (under_both (itself (Sign (codes "."))) (under_both (itself (Named (codes "isValid"))) (no_arguments_deeper depth more le)))

pub bit_range_deeper : (depth more high low : ℕ) → depth ≤ more → Under (SpellsBitRange depth high low) (SpellsBitRange more high low)
bit_range_deeper depth more high low le =
    let range = Num high ⨟ Sign (codes ":") ⨟ Num low in
    under_where (under_bracketed (codes "[") (codes "]") depth more (λ _. range) (λ _. range) le (λ i j k. itself range))

pub cast_deeper : (depth more width : ℕ) → depth ≤ more → Under (SpellsCast depth width) (SpellsCast more width)
cast_deeper depth more width le = under_bracketed (codes "(") (codes ")") depth more (λ _. SpellsBits width) (λ _. SpellsBits width) le (λ i j k. itself (SpellsBits width))

mutual
  pub level_deeper : {depth level : ℕ} {e : PlainExpr} {ws : List Word} (more : ℕ) → depth ≤ more → SpellsLevel depth level e ws → SpellsLevel more level e ws
  level_deeper more le (SpellsLevel.prefixed h) = SpellsLevel.prefixed (prefixed_deeper more le h)
  level_deeper more le (SpellsLevel.stronger h) = SpellsLevel.stronger (level_deeper more le h)
  level_deeper more le (SpellsLevel.binary operator front sign back is left middle right e) =
      SpellsLevel.binary operator front sign back is (level_deeper more le left) middle (level_deeper more le right) e

  pub prefixed_deeper : {depth : ℕ} {e : PlainExpr} {ws : List Word} (more : ℕ) → depth ≤ more → SpellsPrefixed depth e ws → SpellsPrefixed more e ws
  prefixed_deeper more le (SpellsPrefixed.primary h) = SpellsPrefixed.primary (primary_deeper more le h)
  prefixed_deeper more le (SpellsPrefixed.unary operator front back is first second e) =
      SpellsPrefixed.unary operator front back is first (prefixed_deeper more le second) e
  prefixed_deeper {depth = depth} more le (SpellsPrefixed.cast {width = width} front back first second e) =
      SpellsPrefixed.cast front back (cast_deeper depth more width le front first) (prefixed_deeper more le second) e

  pub primary_deeper : {depth : ℕ} {e : PlainExpr} {ws : List Word} (more : ℕ) → depth ≤ more → SpellsPrimary depth e ws → SpellsPrimary more e ws
  primary_deeper more le (SpellsPrimary.number h) = SpellsPrimary.number h
  primary_deeper more le (SpellsPrimary.name h) = SpellsPrimary.name h
  primary_deeper more le (SpellsPrimary.truth h) = SpellsPrimary.truth h
  primary_deeper {depth = depth} {ws = ws} more le (SpellsPrimary.place {lval = lval} h) = SpellsPrimary.place (lval_deeper depth more lval le ws h)
  primary_deeper {depth = depth} {ws = ws} more le (SpellsPrimary.is_valid {header = header} h) = SpellsPrimary.is_valid (is_valid_deeper depth more header le ws h)
  primary_deeper zero le (SpellsPrimary.bracketed opening inside closing o h c e) = absurd (omega (arith, le))
  primary_deeper (suc more) le (SpellsPrimary.bracketed opening inside closing o h c e) =
      SpellsPrimary.bracketed opening inside closing o (level_deeper more (omega (arith, le)) h) c e
  primary_deeper zero le (SpellsPrimary.hash name opening front inside back closing n o f h b c e) = absurd (omega (arith, le))
  primary_deeper (suc more) le (SpellsPrimary.hash name opening front inside back closing n o f h b c e) =
      SpellsPrimary.hash name opening front inside back closing n o f (level_deeper more (omega (arith, le)) h) b c e
  primary_deeper {depth = depth} more le (SpellsPrimary.slice {high = high} {low = low} front back first second e) =
      SpellsPrimary.slice front back (primary_deeper more le first) (bit_range_deeper depth more high low le back second) e

pub expr_deeper : (depth more : ℕ) (e : PlainExpr) → depth ≤ more → Under (SpellsExpr depth e) (SpellsExpr more e)
expr_deeper depth more e le ws h = level_deeper more le h
