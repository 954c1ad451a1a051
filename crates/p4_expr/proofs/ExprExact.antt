-- What is spelled within some depth is spelled within each depth that the open brackets don't pass: parts of expressions, and
-- expressions.
use Rattle.std.proofs.Common.{◌≡◌, ℕ, ◌+◌, ◌≤◌, List, ◌++◌, Option, None, Some, codes, refl, sym, ap, subst, ◌∙◌, append_assoc, arith}
use Rattle.elastic_ast.specs.declared.statements.Lval.{Lval}
use Rattle.elastic_ast.specs.declared.statements.Lval.TheVariants as lval
use Rattle.elastic_ast.specs.Tree.{PlainExpr}
use Rattle.spelling.specs.Words.{Word}
use Rattle.spelling.specs.Grammar.{Empty, ◌⨟◌, Sign, Named, Num}
use Rattle.spelling.specs.Brackets.{most_open_from, most_open}
use Rattle.spelling.proofs.Balance.{both_within, stays_both, stays_named, stays_sign}
use Rattle.spelling.proofs.Exactly.{Fits, as_parts, first_of_two, fits_both, fits_bracketed, fits_itself, fits_where, inside_brackets, second_after}
use Rattle.p4_expr.specs.Parts.{SpellsBits, SpellsIndex, SpellsHeader, SpellsNoArguments, SpellsLval, SpellsIsValid, SpellsBitRange, SpellsCast}
use Rattle.p4_expr.specs.Expressions.{SpellsLevel, SpellsPrefixed, SpellsPrimary, SpellsExpr}
use Rattle.p4_expr.proofs.PartsWithin.{amount_stays, header_stays, operator_stays, cast_stays}
use Rattle.p4_expr.proofs.ExprWithin.{level_within, primary_within}

index_fits : (depth more : ℕ) (index : Option (List ℕ)) → Fits more (SpellsIndex depth index) (SpellsIndex more index)
index_fits depth more None = fits_itself more Empty
index_fits depth more (Some index) = fits_bracketed (codes "[") (codes "]") depth more (λ _. Named index) (λ _. Named index) refl (λ i j. fits_itself j (Named index))

no_arguments_fit : (depth more : ℕ) → Fits more (SpellsNoArguments depth) (SpellsNoArguments more)
no_arguments_fit depth more = fits_bracketed (codes "(") (codes ")") depth more (λ _. Empty) (λ _. Empty) refl (λ i j. fits_itself j Empty)

lval_fits : (depth more : ℕ) (place : Lval) → Fits more (SpellsLval depth place) (SpellsLval more place)
lval_fits depth more (lval.Header header field) = λ ws n h le. h
lval_fits depth more (lval.Meta name index) = fits_both more (stays_named {depth = 0} (codes "meta")) (fits_itself more (Named (codes "meta"))) (fits_both more (stays_sign {depth = 0} (codes ".") refl refl) (fits_itself more (Sign (codes "."))) (fits_both more (stays_named {depth = 0} name) (fits_itself more (Named name)) (index_fits depth more index)))
lval_fits depth more (lval.Std name) = λ ws n h le. h

is_valid_fits : (depth more : ℕ) (header : List ℕ) → Fits more (SpellsIsValid depth header) (SpellsIsValid more header)
is_valid_fits depth more header = fits_both more (header_stays {depth = 0} header) (fits_itself more (SpellsHeader header)) (fits_both more (stays_sign {depth = 0} (codes ".") refl refl) (fits_itself more (Sign (codes "."))) (fits_both more (stays_named {depth = 0} (codes "isValid")) (fits_itself more (Named (codes "isValid"))) (no_arguments_fit depth more)))

bit_range_fits : (depth more high low : ℕ) → Fits more (SpellsBitRange depth high low) (SpellsBitRange more high low)
bit_range_fits depth more high low = fits_where more (fits_bracketed (codes "[") (codes "]") depth more (λ _. Num high ⨟ Sign (codes ":") ⨟ Num low) (λ _. Num high ⨟ Sign (codes ":") ⨟ Num low) refl (λ i j. fits_itself j (Num high ⨟ Sign (codes ":") ⨟ Num low)))

cast_fits : (depth more width : ℕ) → Fits more (SpellsCast depth width) (SpellsCast more width)
cast_fits depth more width = fits_bracketed (codes "(") (codes ")") depth more (λ _. SpellsBits width) (λ _. SpellsBits width) refl (λ i j. fits_itself j (SpellsBits width))

same_rest : (name opening between closing : List Word) → name ++ (opening ++ between ++ closing) ≡ name ++ (opening ++ (between ++ closing))
same_rest name opening between closing = ap (λ l. name ++ l) (append_assoc opening between closing)

mutual
  pub level_exact : {depth level : ℕ} {e : PlainExpr} {ws : List Word} (more n : ℕ) → SpellsLevel depth level e ws → most_open_from n ws ≤ n + more → SpellsLevel more level e ws
  level_exact more n (SpellsLevel.prefixed h) le = SpellsLevel.prefixed (prefixed_exact more n h le)
  level_exact more n (SpellsLevel.stronger h) le = SpellsLevel.stronger (level_exact more n h le)
  level_exact {depth = depth} more n (SpellsLevel.binary operator front sign back is left middle right e) le =
      let parts = as_parts n (n + more) e le in
      let two = first_of_two n (n + more) (front ++ sign) back parts in
      let last = second_after n (n + more) back (both_within (level_within left) (operator_stays {depth = depth} operator sign middle)) parts in
      SpellsLevel.binary operator front sign back is (level_exact more n left (first_of_two n (n + more) front sign two)) middle (level_exact more n right last) e

  pub prefixed_exact : {depth : ℕ} {e : PlainExpr} {ws : List Word} (more n : ℕ) → SpellsPrefixed depth e ws → most_open_from n ws ≤ n + more → SpellsPrefixed more e ws
  prefixed_exact more n (SpellsPrefixed.primary h) le = SpellsPrefixed.primary (primary_exact more n h le)
  prefixed_exact {depth = depth} more n (SpellsPrefixed.unary operator front back is first second e) le =
      let parts = as_parts n (n + more) e le in
      SpellsPrefixed.unary operator front back is first (prefixed_exact more n second (second_after n (n + more) back (operator_stays {depth = depth} operator front first) parts)) e
  prefixed_exact {depth = depth} more n (SpellsPrefixed.cast {width = width} front back first second e) le =
      let parts = as_parts n (n + more) e le in
      SpellsPrefixed.cast front back (cast_fits depth more width front n first (first_of_two n (n + more) front back parts)) (prefixed_exact more n second (second_after n (n + more) back (cast_stays depth width front first) parts)) e

  pub primary_exact : {depth : ℕ} {e : PlainExpr} {ws : List Word} (more n : ℕ) → SpellsPrimary depth e ws → most_open_from n ws ≤ n + more → SpellsPrimary more e ws
  primary_exact more n (SpellsPrimary.number h) le = SpellsPrimary.number h
  primary_exact more n (SpellsPrimary.name h) le = SpellsPrimary.name h
  primary_exact more n (SpellsPrimary.truth h) le = SpellsPrimary.truth h
  primary_exact {depth = depth} {ws = ws} more n (SpellsPrimary.place {lval = lval} h) le = SpellsPrimary.place (lval_fits depth more lval ws n h le)
  primary_exact {depth = depth} {ws = ws} more n (SpellsPrimary.is_valid {header = header} h) le = SpellsPrimary.is_valid (is_valid_fits depth more header ws n h le)
  primary_exact {e = tree} {ws = ws} more n (SpellsPrimary.bracketed opening inside closing o h c e) le =
      let i = inside_brackets (codes "(") more n opening inside closing refl o (as_parts n (n + more) e le) in
      subst (λ m. SpellsPrimary m tree ws) (sym i.one_more) (SpellsPrimary.bracketed opening inside closing o (level_exact i.inner (n + 1) h i.fits) c e)
  primary_exact {e = tree} {ws = ws} more n (SpellsPrimary.hash {number = number} {modulus = modulus} name opening front inside back closing a o f h b c e) le =
      let between = front ++ inside ++ back in
      let grouped : ws ≡ name ++ (opening ++ between ++ closing) = e ∙ append_assoc (name ++ opening) between closing ∙ append_assoc name opening (between ++ closing) ∙ sym (same_rest name opening between closing) in
      let behind = second_after n (n + more) (opening ++ between ++ closing) (stays_named {depth = 0} (codes "hash") name a) (as_parts n (n + more) grouped le) in
      let i = inside_brackets (codes "(") more n opening between closing refl o behind in
      let two = first_of_two (n + 1) (n + 1 + i.inner) (front ++ inside) back i.fits in
      let middle = second_after (n + 1) (n + 1 + i.inner) inside (stays_both {depth = 0} (amount_stays number) (stays_sign (codes ",") refl refl) front f) two in
      subst (λ m. SpellsPrimary m tree ws) (sym i.one_more) (SpellsPrimary.hash name opening front inside back closing a o f (level_exact i.inner (n + 1) h middle) b c e)
  primary_exact {depth = depth} more n (SpellsPrimary.slice {high = high} {low = low} front back first second e) le =
      let parts = as_parts n (n + more) e le in
      SpellsPrimary.slice front back (primary_exact more n first (first_of_two n (n + more) front back parts)) (bit_range_fits depth more high low back n second (second_after n (n + more) back (primary_within first) parts)) e

pub expr_exact : (depth more : ℕ) (e : PlainExpr) (ws : List Word) → SpellsExpr depth e ws → most_open ws ≤ more → SpellsExpr more e ws
expr_exact depth more e ws h le = level_exact more 0 h (omega (arith, le))
