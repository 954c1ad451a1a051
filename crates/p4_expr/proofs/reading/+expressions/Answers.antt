use Rattle.std.proofs.Common.{rules, ◌≡◌, suc, ◌+◌, ◌-◌, ◌<◌, ◌≤◌, codes, ap, arith, inl, inr, length, refl, subst, sym, ◌∙◌}
use Rattle.elastic_ast.proofs.SeenLaws.{seen_expr-cast, seen_expr-hash, seen_expr-slice, seen_expr-unary}
use Rattle.elastic_ast.specs.Seen.{seen_expr}
use Rattle.elastic_ast.specs.Tree.{PlainExpr}
use Rattle.spelling.specs.Reading.{ahead, Takes, IsWant, WantsOr}
use Rattle.spelling.proofs.Bounds.{if_deep, in_line, stop_line, refused_deep}
use Rattle.spelling.proofs.Limits.{opens_or, or_as, want_or, past_opening}
use Rattle.spelling.proofs.Only.{after, after_one, alone, begins, not_there, same_end, wants, wants_one, fact_of, of_where}
use Rattle.spelling.proofs.Taking.{may, takes_as, takes_bracketed}
use Rattle.p4_expr.specs.Operators.{operators_in}
use Rattle.p4_expr.specs.Expressions.{SpellsExpr, SpellsLevel, SpellsPrefixed, SpellsPrimary}
use Rattle.p4_expr.proofs.Counting.{counted}
use Rattle.p4_expr.proofs.ExprReaders.{before_comma, bracketed_base, exact_expr, made_expr, expr_as, hash_base, hash_behind, hash_past, hash_taken, SpellsHashed, none_at, own_base, passes_at, past_expr, refused_expr, zero_expr}
use Rattle.p4_expr.proofs.LevelParts.{level_ahead}
use Rattle.p4_expr.proofs.Longest.{ends_part}
use Rattle.p4_expr.proofs.ExprWithin.{primary_within}
use Rattle.p4_expr.proofs.InLines.{primary_line}
use Rattle.p4_expr.proofs.PassingLaws.{behind_bracket, behind_cast, behind_hash, behind_operator, behind_prefix, expr_past, first_passed, operand_passed, primary_passed}
use Rattle.p4_expr.proofs.Prefixes.{cast_count, cast_there, hash_count, no_prefix, prefix_passed, takes_cast, takes_unary, unary_count}
use Rattle.p4_expr.proofs.SlicesLeft.{base_few, base_primary, base_read, next_slice, no_slice, primary_ahead, slice_count, slice_few, slice_parts, slice_read, takes_slice}
use Rattle.p4_expr.proofs.StepsLeft.{binary_count, ends_before, first_read, next_operand, next_read, no_step, operand_few, operands_few, passes_stands, step_parts, takes_binary, takes_stronger}
use Rattle.p4_expr.proofs.GoingOn.{further_below, further_none}
use Rattle.p4_expr.proofs.FormCases.{hash_there}
use Rattle.p4_expr.proofs.reading.+expressions.Goals as goal

pub base-returns-in-Bracketed : goal.base-returns-in-Bracketed
base-returns-in-Bracketed t c = bracketed_base c.in-Bracketed.ensures c.in_brackets.ensures

pub base-returns-in-Hash : goal.base-returns-in-Hash
base-returns-in-Hash t c = hash_past c.in-Hash.ensures c.if-left-eq0.true c.too_deep.ensures

pub base-returns-in-Hash-2 : goal.base-returns-in-Hash-2
base-returns-in-Hash-2 t c = hash_base c.in-Hash.ensures c.if-left-eq0.false c.hash_of.ensures

pub base-returns-in_default : goal.base-returns-in_default
base-returns-in_default t c =
    let told = c.form_ahead.ensures in
    let r = c.plain.ensures in
    own_base told c.in_default.not-Bracketed r.taken r.count (λ more x rest m ends is. r.only more x rest m ends.index is c.in_default.not-Hash) r.longest (r.deep told.test)

pub hash_of-returns-in_err-fixed_name : goal.hash_of-returns-in_err-fixed_name
hash_of-returns-in_err-fixed_name t c =
    refused_expr _ c.from_residual.ensures.1
    (λ more x rest m any. want_or _ _ (hash_there (λ _. IsWant c.in_err-fixed_name.field-0.0) more x (fact_of m) (of_where m) (λ number of modulus n. wants_one _ _ n c.in_err-fixed_name.ensures.refused)))
    (refused_deep _ _ _ _ c.in_err-fixed_name.ensures.refused)

pub hash_of-returns-in_err-inner : goal.hash_of-returns-in_err-inner
hash_of-returns-in_err-inner t c =
    refused_expr _ c.from_residual-in_err-inner.ensures.1
    (λ more x rest m any.
    or_as _ (more ≤ c.args.depth) _ (λ few. few.0) (hash_there (λ _. WantsOr (more ≤ c.args.depth) c.in_err-inner.field-0.0) more x (fact_of m) (of_where m) (λ number of modulus n.
    opens_or (codes "(") (codes ")") more c.args.depth (SpellsHashed number modulus of) _ _ _ (λ few. few) (after_one n c.in_ok-fixed_name.ensures.taken) c.in_err-inner.ensures.refused)))
    (search rules)

pub hash_of-returns-in_err-number : goal.hash_of-returns-in_err-number
hash_of-returns-in_err-number t c =
    refused_expr _ c.from_residual-in_err-number.ensures.1
    (λ more x rest m any.
    want_or _ _ (hash_behind (λ _. IsWant c.in_err-number.field-0.0) more c.args.depth c.in_ok-inner.inner x m c.in_ok-fixed_name.ensures.taken c.in_ok-inner.ensures.depth c.in_ok-inner.ensures.taken (λ number of modulus i. wants i.parts (λ b f s. c.in_err-number.ensures.only number b f))))
    (search rules)

pub hash_of-returns-in_err-of : goal.hash_of-returns-in_err-of
hash_of-returns-in_err-of t c =
    refused_expr _ c.from_residual-in_err-of.ensures.1
    (λ more x rest m any.
    hash_behind (λ x. WantsOr ((more ≤ c.args.depth) × (operators_in x ≤ c.args.left + 1)) c.in_err-of.field-0.0) more c.args.depth c.in_ok-inner.inner x m c.in_ok-fixed_name.ensures.taken c.in_ok-inner.ensures.depth c.in_ok-inner.ensures.taken (λ number of modulus i.
    let r = after i.parts (λ b f s. c.in_ok-number.ensures.only number b f) in
    or_as _ ((i.within ≤ c.in_ok-inner.inner) × (operators_in of ≤ c.args.left)) _ (λ few. (i.fewer few.0, omega (arith, few.1, hash_count number of modulus))) (wants r.1 (λ b f s. c.in_err-of.ensures.only i.within of b f (before_comma b s)))))
    (if_deep _ (λ s. expr_past c.args.depth (c.args.left + 1) 1 1 c.in_ok-inner.inner c.args.left (omega (arith, c.in_ok-inner.ensures.depth)) (omega arith) (behind_hash c.in_ok-number.number c.in_ok-fixed_name.ensures.taken c.in_ok-inner.ensures.taken c.in_ok-number.ensures.taken) s) c.in_err-of.ensures.deep)

pub hash_of-returns-in_err-modulus : goal.hash_of-returns-in_err-modulus
hash_of-returns-in_err-modulus t c =
    refused_expr _ c.from_residual-in_err-modulus.ensures.1
    (λ more x rest m any.
    want_or _ _ (hash_behind (λ _. IsWant c.in_err-modulus.field-0.0) more c.args.depth c.in_ok-inner.inner x m c.in_ok-fixed_name.ensures.taken c.in_ok-inner.ensures.depth c.in_ok-inner.ensures.taken (λ number of modulus i.
    let r = after i.parts (λ b f s. c.in_ok-number.ensures.only number b f) in
    let q = after r.1 (λ b f s. c.in_ok-of.ensures.only i.within of b f (before_comma b s)) in
    c.in_err-modulus.ensures.only modulus rest q.1)))
    (search rules)

pub hash_of-returns : goal.hash_of-returns
hash_of-returns t c =
    let number = c.in_ok-number in
    let of = c.in_ok-of in
    let modulus = c.in_ok-modulus in
    let tree : PlainExpr = PlainExpr.Hash number.number (seen_expr of.of) modulus.modulus in
    exact_expr tree (seen_expr-hash number.number c.in_ok-operand.operand modulus.modulus ∙ ap (λ e. PlainExpr.Hash number.number (seen_expr e) modulus.modulus) c.in_ok-operand.ensures.made)
    (hash_taken c.args.depth c.in_ok-inner.inner number.number (seen_expr of.of) modulus.modulus c.in_ok-fixed_name.ensures.taken c.in_ok-inner.ensures.depth c.in_ok-inner.ensures.taken number.ensures.taken of.ensures.taken modulus.ensures.taken)
    (omega (arith, of.ensures.count, hash_count number.number (seen_expr of.of) modulus.modulus))
    (λ more x rest m.
    hash_behind (λ x. (tree ≡ x) × (ahead c.hash_end.new.reader ≡ rest)) more c.args.depth c.in_ok-inner.inner x m c.in_ok-fixed_name.ensures.taken c.in_ok-inner.ensures.depth c.in_ok-inner.ensures.taken (λ one x other i.
    let r = after i.parts (λ b f s. number.ensures.only one b f) in
    let q = after r.1 (λ b f s. of.ensures.only i.within x b f (before_comma b s)) in
    let p = modulus.ensures.only other rest q.1 in
    (ap (λ k. PlainExpr.Hash k (seen_expr of.of) modulus.modulus) r.0 ∙ ap (λ x. PlainExpr.Hash one x modulus.modulus) q.0 ∙ ap (PlainExpr.Hash one x) p.0, p.1)))

pub in_brackets-returns-in_err-inner : goal.in_brackets-returns-in_err-inner
in_brackets-returns-in_err-inner t c =
    refused_expr _ c.from_residual.ensures.1
    (λ more x rest m any. or_as _ (more ≤ c.args.depth) _ (λ few. few.0) (opens_or (codes "(") (codes ")") more c.args.depth (λ inner. SpellsExpr inner x) _ _ _ (λ few. few) m c.in_err-inner.ensures.refused))
    (search rules)

pub in_brackets-returns-in_err-e : goal.in_brackets-returns-in_err-e
in_brackets-returns-in_err-e t c =
    refused_expr _ c.from_residual-in_err-e.ensures.1
    (λ more x rest m any.
    let i = past_opening (codes "(") (codes ")") more c.args.depth c.in_ok-inner.inner (λ inner. SpellsExpr inner x) c.in_ok-inner.ensures.depth c.in_ok-inner.ensures.taken m in
    or_as _ ((i.within ≤ c.in_ok-inner.inner) × (operators_in x ≤ c.args.left)) _ (λ few. (i.fewer few.0, few.1)) (wants i.parts (λ b f s. c.in_err-e.ensures.only i.within x b f (ends_before (codes ")") b refl (begins s)))))
    (if_deep _ (λ s. expr_past c.args.depth c.args.left 1 0 c.in_ok-inner.inner c.args.left (omega (arith, c.in_ok-inner.ensures.depth)) (omega arith) (behind_bracket c.in_ok-inner.ensures.taken) s) c.in_err-e.ensures.deep)

pub in_brackets-returns-in_err-sign : goal.in_brackets-returns-in_err-sign
in_brackets-returns-in_err-sign t c =
    refused_expr _ c.from_residual-in_err-sign.ensures.1
    (λ more x rest m any.
    let i = past_opening (codes "(") (codes ")") more c.args.depth c.in_ok-inner.inner (λ inner. SpellsExpr inner x) c.in_ok-inner.ensures.depth c.in_ok-inner.ensures.taken m in
    let r = after i.parts (λ b f s. c.in_ok-e.ensures.only i.within x b f (ends_before (codes ")") b refl (begins s))) in
    want_or _ _ (wants_one _ _ (alone r.1) c.in_err-sign.ensures.refused))
    (refused_deep _ _ _ _ c.in_err-sign.ensures.refused)

pub in_brackets-returns : goal.in_brackets-returns
in_brackets-returns t c =
    exact_expr (seen_expr c.in_ok-e.e) refl
    (takes_bracketed (codes "(") (codes ")") c.args.depth c.in_ok-inner.inner (λ inner. SpellsExpr inner (seen_expr c.in_ok-e.e)) c.in_ok-inner.ensures.depth c.in_ok-inner.ensures.taken (may c.in_ok-e.ensures.taken) c.in_ok-sign.ensures.taken)
    c.in_ok-e.ensures.count
    (λ more x rest m.
    let i = past_opening (codes "(") (codes ")") more c.args.depth c.in_ok-inner.inner (λ inner. SpellsExpr inner x) c.in_ok-inner.ensures.depth c.in_ok-inner.ensures.taken m in
    let r = after i.parts (λ b f s. c.in_ok-e.ensures.only i.within x b f (ends_before (codes ")") b refl (begins s))) in
    (r.0, same_end r.1 c.in_ok-sign.ensures.taken))

pub level-returns-then-level-eq0 : goal.level-returns-then-level-eq0
level-returns-then-level-eq0 t c = zero_expr c.if-level-eq0.true c.prefixed.ensures

pub level-returns-in_err-e : goal.level-returns-in_err-e
level-returns-in_err-e t c =
    refused_expr _ c.from_residual.ensures.1
    (λ more x rest m ends.
    let is : c.args.level ≡ suc (c.args.level - 1) = omega (arith, c.if-level-eq0.false) in
    let l = level_ahead more c.args.level (c.args.level - 1) x is m in
    or_as _ ((more ≤ c.args.depth) × (operators_in l.first ≤ c.args.left)) _ (λ few. (few.0, operand_few c.args.left l few.1)) (wants l.ahead (λ b f s. c.in_err-e.ensures.only more l.first b f (ends_part (step_parts more c.args.level (c.args.level - 1) is) l.later s ends))))
    c.in_err-e.ensures.deep

pub level-operators-init : goal.level-operators-init
level-operators-init t c =
    let is : c.args.level ≡ suc (c.args.level - 1) = omega (arith, c.if-level-eq0.false) in
    record {
      taken = takes_stronger c.args.depth c.args.level (c.args.level - 1) (seen_expr c.in_ok-e.e) is c.in_ok-e.ensures.taken;
      count = c.in_ok-e.ensures.count;
      below = c.in_ok-e.ensures.whole;
      still = first_read is c.in_ok-e.ensures;
    }

pub level-returns-in_default : goal.level-returns-in_default
level-returns-in_default t c =
    let none = none_at c.later-behind.ensures (c.in_default.ensures.none refl) in
    let read = c.operators.invariant in
    record {
      taken = read.taken;
      count = read.count;
      only = λ more x rest m. (no_step more c.args.level (c.args.level - 1) (read.still more x rest m) none).only;
      longest = λ more x rest m. (no_step more c.args.level (c.args.level - 1) (read.still more x rest m) none).longest;
      whole = further_below c.args.level (c.args.level - 1) (ahead c.operators.reader) (omega (arith, c.if-level-eq0.false)) read.below none;
      deep = tt;
    }

pub level-returns-then-left-eq0 : goal.level-returns-then-left-eq0
level-returns-then-left-eq0 t c =
    let p = passes_at c.later-behind.ensures c.in-Some.ensures.taken in
    let above : 0 < c.args.level = omega (arith, c.if-level-eq0.false) in
    let read = c.operators.invariant in
    past_expr c.too_deep.ensures
    (λ more x rest m ends used.
    let n = next_operand more c.args.level (c.args.level - 1) c.in-Some.op (seen_expr c.operators.e) x (read.still more x rest m) above ends p in
    omega (arith, operands_few c.args.left n used, read.count, c.if-left-eq0.true))
    (operand_passed c.args.left c.args.depth c.args.depth c.args.level (seen_expr c.operators.e) (omega (arith, read.count, c.if-left-eq0.true)) read.taken (inl (p.operator, omega (arith, p.is.level_is, above), passes_stands p)))

pub level-returns-in_err-right : goal.level-returns-in_err-right
level-returns-in_err-right t c =
    let is : c.args.level ≡ suc (c.args.level - 1) = omega (arith, c.if-level-eq0.false) in
    let above : 0 < c.args.level = omega (arith, c.if-level-eq0.false) in
    let p = passes_at c.later-behind.ensures c.in-Some.ensures.taken in
    let read = c.operators.invariant in
    refused_expr _ c.from_residual-in_err-right.ensures.1
    (λ more x rest m ends.
    let n = next_operand more c.args.level (c.args.level - 1) c.in-Some.op (seen_expr c.operators.e) x (read.still more x rest m) above ends p in
    or_as _ ((more ≤ c.args.depth) × (operators_in n.right ≤ c.operators.left - 1)) _ (λ few. (few.0, omega (arith, operands_few c.args.left n few.1, read.count))) (wants n.ahead (λ b f s. c.in_err-right.ensures.only more n.right b f (ends_part (step_parts more c.args.level (c.args.level - 1) is) n.later s ends))))
    (if_deep _ (λ s. expr_past c.args.depth c.args.left 0 (operators_in (seen_expr c.operators.e) + 1) c.args.depth (c.operators.left - 1) (omega arith) (omega (arith, read.count, c.if-left-eq0.false)) (behind_operator c.args.depth c.args.level c.args.level c.in-Some.op (seen_expr c.operators.e) above read.taken p) s) c.in_err-right.ensures.deep)

pub level-operators-preserved : goal.level-operators-preserved
level-operators-preserved t c =
    let p = passes_at c.later-behind.ensures c.in-Some.ensures.taken in
    let is : c.args.level ≡ suc (c.args.level - 1) = omega (arith, c.if-level-eq0.false) in
    let read = c.operators.invariant in
    let right = c.in_ok-right in
    let made = c.in_ok-e-2.ensures.made in
    record {
      taken =
          subst (λ e. Takes (SpellsLevel c.args.depth c.args.level e) (ahead c.args.reader.now) (ahead c.level-in-operators.new.reader)) (sym made)
          (takes_binary c.args.depth c.args.level (c.args.level - 1) c.in-Some.op (seen_expr c.operators.e) (seen_expr right.right) is read.taken p right.ensures.taken);
      count = counted (PlainExpr.Binary c.in-Some.op (seen_expr c.operators.e) (seen_expr right.right)) c.args.left (operators_in (seen_expr c.operators.e) + operators_in (seen_expr right.right) + 1) right.fewer made (binary_count c.in-Some.op (seen_expr c.operators.e) (seen_expr right.right)) (omega (arith, read.count, right.ensures.count, c.if-left-eq0.false));
      below = right.ensures.whole;
      still = λ more x rest m. next_read is p right.ensures made more x rest (read.still more x rest m);
    }

pub prefixed-returns-then-left-eq0 : goal.prefixed-returns-then-left-eq0
prefixed-returns-then-left-eq0 t c =
    let p = passes_at c.later-behind.ensures c.in-Some.ensures.taken in
    past_expr c.too_deep.ensures
    (λ more x rest m ends. prefix_passed (λ x. operators_in x ≤ c.args.left → ⊥) more c.in-Some.op x m p (λ of n used. omega (arith, used, unary_count c.in-Some.op of, c.if-left-eq0.true)))
    (first_passed c.args.left c.args.depth _ c.if-left-eq0.true (inl (p.operator, p.is.level_is, passes_stands p)))

pub prefixed-returns-in_err-of : goal.prefixed-returns-in_err-of
prefixed-returns-in_err-of t c =
    let p = passes_at c.later-behind.ensures c.in-Some.ensures.taken in
    refused_expr _ c.from_residual.ensures.1
    (λ more x rest m ends.
    prefix_passed (λ x. WantsOr ((more ≤ c.args.depth) × (operators_in x ≤ c.args.left)) c.in_err-of.field-0.0) more c.in-Some.op x m p (λ of n.
    or_as _ ((more ≤ c.args.depth) × (operators_in of ≤ c.args.left - 1)) _ (λ few. (few.0, omega (arith, few.1, unary_count c.in-Some.op of))) (c.in_err-of.ensures.only more of rest n ends)))
    (if_deep _ (λ s. expr_past c.args.depth c.args.left 0 1 c.args.depth (c.args.left - 1) (omega arith) (omega (arith, c.if-left-eq0.false)) (behind_prefix c.in-Some.op p) s) c.in_err-of.ensures.deep)

pub prefixed-returns-in-Some : goal.prefixed-returns-in-Some
prefixed-returns-in-Some t c =
    let p = passes_at c.later-behind.ensures c.in-Some.ensures.taken in
    let op = c.in-Some.op in
    let of = c.in_ok-of in
    let tree : PlainExpr = PlainExpr.Unary op (seen_expr of.of) in
    made_expr tree (seen_expr-unary op c.in_ok-operand.operand ∙ ap (λ e. PlainExpr.Unary op (seen_expr e)) c.in_ok-operand.ensures.made)
    (takes_unary c.args.depth op (seen_expr of.of) p of.ensures.taken)
    (omega (arith, of.ensures.count, unary_count op (seen_expr of.of), c.if-left-eq0.false))
    (λ more x rest m ends. prefix_passed (λ x. (tree ≡ x) × (ahead c.prefixed.new.reader ≡ rest)) more op x m p (λ x n. let r = of.ensures.only more x rest n ends in (ap (PlainExpr.Unary op) r.0, r.1)))
    (λ more x rest m. prefix_passed (λ _. length (ahead c.prefixed.new.reader) ≤ length rest) more op x m p (λ x n. of.ensures.longest more x rest n))
    of.ensures.whole

pub prefixed-returns-then-not-is_at_cast : goal.prefixed-returns-then-not-is_at_cast
prefixed-returns-then-not-is_at_cast t c =
    let none = none_at c.later-behind.ensures (c.in_default.ensures.none refl) in
    expr_as (λ x ws h. SpellsPrefixed.primary h) (λ more x rest m. no_prefix more x m none (not_there c.if-not-is_at_cast.ensures.1)) (λ ws ends. ends) (λ ws ended. ended) c.primary.ensures

pub prefixed-returns-then-left-eq0-2 : goal.prefixed-returns-then-left-eq0-2
prefixed-returns-then-left-eq0-2 t c =
    let none = none_at c.later-behind.ensures (c.in_default.ensures.none refl) in
    let cast = c.if-not-is_at_cast.ensures.0 refl in
    past_expr c.too_deep-then-left-eq0-2.ensures
    (λ more x rest m ends. cast_there (λ x. operators_in x ≤ c.args.left → ⊥) more x m none cast (λ width of n used. omega (arith, used, cast_count width of, c.if-left-eq0-2.true)))
    (first_passed c.args.left c.args.depth _ c.if-left-eq0-2.true (inr (inl cast)))

pub prefixed-returns-in_err-width : goal.prefixed-returns-in_err-width
prefixed-returns-in_err-width t c =
    let none = none_at c.later-behind.ensures (c.in_default.ensures.none refl) in
    refused_expr _ c.from_residual-in_err-width.ensures.1
    (λ more x rest m ends.
    or_as _ (more ≤ c.args.depth) _ (λ few. few.0) (cast_there (λ _. WantsOr (more ≤ c.args.depth) c.in_err-width.field-0.0) more x m none (c.if-not-is_at_cast.ensures.0 refl) (λ width of n. wants n (λ b f s. c.in_err-width.ensures.only more width b f))))
    (if_deep _ (λ s. inl s) c.in_err-width.ensures.deep)

pub prefixed-returns-in_err-of-2 : goal.prefixed-returns-in_err-of-2
prefixed-returns-in_err-of-2 t c =
    let none = none_at c.later-behind.ensures (c.in_default.ensures.none refl) in
    refused_expr _ c.from_residual-in_err-of-2.ensures.1
    (λ more x rest m ends.
    cast_there (λ x. WantsOr ((more ≤ c.args.depth) × (operators_in x ≤ c.args.left)) c.in_err-of-2.field-0.0) more x m none (c.if-not-is_at_cast.ensures.0 refl) (λ width of n.
    let r = after n (λ b f s. c.in_ok-width.ensures.only more width b f) in
    or_as _ ((more ≤ c.args.depth) × (operators_in of ≤ c.args.left - 1)) _ (λ few. (few.0, omega (arith, few.1, cast_count width of))) (c.in_err-of-2.ensures.only more of rest r.1 ends)))
    (if_deep _ (λ s. expr_past c.args.depth c.args.left 0 1 c.args.depth (c.args.left - 1) (omega arith) (omega (arith, c.if-left-eq0-2.false)) (behind_cast c.args.depth c.in_ok-width.width c.in_ok-width.ensures.taken) s) c.in_err-of-2.ensures.deep)

pub prefixed-returns : goal.prefixed-returns
prefixed-returns t c =
    let none = none_at c.later-behind.ensures (c.in_default.ensures.none refl) in
    let cast = c.if-not-is_at_cast.ensures.0 refl in
    let width = c.in_ok-width in
    let of = c.in_ok-of-2 in
    let tree : PlainExpr = PlainExpr.Cast width.width (seen_expr of.of) in
    made_expr tree (seen_expr-cast width.width c.in_ok-operand-2.operand ∙ ap (λ e. PlainExpr.Cast width.width (seen_expr e)) c.in_ok-operand-2.ensures.made)
    (takes_cast c.args.depth width.width (seen_expr of.of) width.ensures.taken of.ensures.taken)
    (omega (arith, of.ensures.count, cast_count width.width (seen_expr of.of), c.if-left-eq0-2.false))
    (λ more x rest m ends.
    cast_there (λ x. (tree ≡ x) × (ahead c.prefixed-2.new.reader ≡ rest)) more x m none cast (λ bits x n.
    let r = after n (λ b f s. width.ensures.only more bits b f) in
    let q = of.ensures.only more x rest r.1 ends in
    (ap (λ w. PlainExpr.Cast w (seen_expr of.of)) r.0 ∙ ap (PlainExpr.Cast bits) q.0, q.1)))
    (λ more x rest m. cast_there (λ _. length (ahead c.prefixed-2.new.reader) ≤ length rest) more x m none cast (λ bits x n. of.ensures.longest more x rest (after n (λ b f s. width.ensures.only more bits b f)).1))
    of.ensures.whole

pub primary-returns-in_err-e : goal.primary-returns-in_err-e
primary-returns-in_err-e t c =
    refused_expr _ c.from_residual.ensures.1
    (λ more x rest m ends.
    let p = primary_ahead more x m in
    or_as _ ((more ≤ c.args.depth) × (operators_in p.first ≤ c.args.left)) _ (λ few. (few.0, base_few more c.args.left p few.1)) (wants p.ahead (λ b f s. c.in_err-e.ensures.only more p.first b f (ends_part (slice_parts more) p.later s ends))))
    c.in_err-e.ensures.deep

pub primary-slices-init : goal.primary-slices-init
primary-slices-init t c = record {
  taken = takes_as (base_primary c.args.depth (seen_expr c.in_ok-e.e)) c.in_ok-e.ensures.taken;
  count = c.in_ok-e.ensures.count;
  still = base_read c.in_ok-e.ensures;
}

pub primary-returns-then-left-eq0 : goal.primary-returns-then-left-eq0
primary-returns-then-left-eq0 t c =
    let read = c.slices.invariant in
    let at = c.slices-test.ensures.0 refl in
    past_expr c.too_deep.ensures
    (λ more x rest m ends used. omega (arith, slice_few more c.args.left (next_slice more (read.still more x rest m) at ends) used, read.count, c.if-left-eq0.true))
    (primary_passed c.args.left c.args.depth c.args.depth (seen_expr c.slices.e) (omega (arith, read.count, c.if-left-eq0.true)) read.taken (inr at))

pub primary-returns-in_err-high : goal.primary-returns-in_err-high
primary-returns-in_err-high t c =
    let read = c.slices.invariant in
    refused_expr _ c.from_residual-in_err-high.ensures.1
    (λ more x rest m ends.
    let n = next_slice more (read.still more x rest m) (c.slices-test.ensures.0 refl) ends in
    or_as _ (more ≤ c.args.depth) _ (λ few. few.0) (wants n.ahead (λ b f s. c.in_err-high.ensures.only more n.one b f)))
    (if_deep _ (λ s. inl (stop_line c.args.depth 0 c.args.depth (omega arith) (in_line {Of = SpellsPrimary c.args.depth (seen_expr c.slices.e)} c.args.depth (λ ws h. primary_within h) (primary_line c.args.depth (seen_expr c.slices.e)) (may read.taken)) s)) c.in_err-high.ensures.deep)

pub primary-slices-preserved : goal.primary-slices-preserved
primary-slices-preserved t c =
    let read = c.slices.invariant in
    let bits = c.in_ok-high in
    let made = seen_expr-slice c.in_ok-of.of bits.high bits.low ∙ ap (λ e. PlainExpr.Slice (seen_expr e) bits.high bits.low) c.in_ok-of.ensures.made in
    record {
      taken = subst (λ e. Takes (SpellsPrimary c.args.depth e) (ahead c.args.reader.now) (ahead c.bit_range.new.reader)) (sym made) (takes_slice c.args.depth bits.high bits.low (seen_expr c.slices.e) read.taken bits.ensures.taken);
      count = counted (PlainExpr.Slice (seen_expr c.slices.e) bits.high bits.low) c.args.left (operators_in (seen_expr c.slices.e) + 1) (c.slices.left - 1) made (slice_count (seen_expr c.slices.e) bits.high bits.low) (omega (arith, read.count, c.if-left-eq0.false));
      still = λ more x rest m. slice_read (c.slices-test.ensures.0 refl) bits.ensures made more x rest (read.still more x rest m);
    }

pub primary-returns : goal.primary-returns
primary-returns t c =
    let none = not_there c.slices-test.ensures.1 in
    let read = c.slices.invariant in
    record {
      taken = read.taken;
      count = read.count;
      only = λ more x rest m. (no_slice more (read.still more x rest m) none).only;
      longest = λ more x rest m. (no_slice more (read.still more x rest m) none).longest;
      whole = further_none _ none;
      deep = tt;
    }
