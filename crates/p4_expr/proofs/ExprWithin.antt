-- An expression opens no more brackets than its depth allows, and closes those that it opens.
use Rattle.std.proofs.Common.{ℕ, suc, List, codes, refl, sym, subst}
use Rattle.elastic_ast.specs.Tree.{PlainExpr}
use Rattle.spelling.specs.Words.{Word}
use Rattle.spelling.proofs.Balance.{Within, Stays, both_within, enclosed, enclosed_after, stays_both, stays_named, stays_sign}
use Rattle.p4_expr.specs.Expressions.{SpellsLevel, SpellsPrefixed, SpellsPrimary, SpellsExpr}
use Rattle.p4_expr.proofs.PartsWithin.{number_stays, truth_stays, amount_stays, lval_stays, is_valid_stays, bit_range_stays, cast_stays, operator_stays}

mutual
  pub level_within : {depth level : ℕ} {e : PlainExpr} {ws : List Word} → SpellsLevel depth level e ws → Within depth ws
  level_within (SpellsLevel.prefixed h) = prefixed_within h
  level_within (SpellsLevel.stronger h) = level_within h
  level_within {depth = depth} (SpellsLevel.binary operator front sign back is left middle right e) =
      subst (Within depth) (sym e) (both_within (both_within (level_within left) (operator_stays operator sign middle)) (level_within right))

  pub prefixed_within : {depth : ℕ} {e : PlainExpr} {ws : List Word} → SpellsPrefixed depth e ws → Within depth ws
  prefixed_within (SpellsPrefixed.primary h) = primary_within h
  prefixed_within {depth = depth} (SpellsPrefixed.unary operator front back is first second e) =
      subst (Within depth) (sym e) (both_within (operator_stays operator front first) (prefixed_within second))
  prefixed_within {depth = depth} (SpellsPrefixed.cast {width = width} front back first second e) =
      subst (Within depth) (sym e) (both_within (cast_stays depth width front first) (prefixed_within second))

  pub primary_within : {depth : ℕ} {e : PlainExpr} {ws : List Word} → SpellsPrimary depth e ws → Within depth ws
  primary_within {ws = ws} (SpellsPrimary.number {width = width} {value = value} h) = number_stays width value ws h
  primary_within {ws = ws} (SpellsPrimary.name {text = text} h) = stays_named text ws h
  primary_within {ws = ws} (SpellsPrimary.truth {which = which} h) = truth_stays which ws h
  primary_within {depth = depth} {ws = ws} (SpellsPrimary.place {lval = lval} h) = lval_stays depth lval ws h
  primary_within {depth = depth} {ws = ws} (SpellsPrimary.is_valid {header = header} h) = is_valid_stays depth header ws h
  primary_within (SpellsPrimary.bracketed {depth = depth} front inside back f h g e) =
      subst (Within (suc depth)) (sym e) (enclosed (codes "(") (codes ")") refl refl refl f (level_within h) g)
  primary_within (SpellsPrimary.hash {depth = depth} {number = number} {modulus = modulus} name opening front inside back closing n o f h b c e) =
      let first = stays_both (amount_stays number) (stays_sign (codes ",") refl refl) front f in
      let last = stays_both (stays_sign (codes ",") refl refl) (amount_stays modulus) back b in
      subst (Within (suc depth)) (sym e) (enclosed_after (codes "(") (codes ")") refl refl refl (stays_named (codes "hash") name n) o (both_within (both_within first (level_within h)) last) c)
  primary_within {depth = depth} (SpellsPrimary.slice {high = high} {low = low} front back first second e) =
      subst (Within depth) (sym e) (both_within (primary_within first) (bit_range_stays depth high low back second))

pub expr_within : {depth : ℕ} {e : PlainExpr} → Stays depth (SpellsExpr depth e)
expr_within ws h = level_within h
