use Rattle.std.proofs.Common.{◌≡◌, ◌++◌, ◌∷◌, [], true, false, Some, is_some, refl, sym, ap, subst, ◌∙◌}
use Rattle.std.proofs.lemmas.List.{map_push}
use Rattle.std.proofs.lemmas.Result.{on_ok_weaker}
use Rattle.elastic_ast.specs.declared.statements.Stmt.TheVariants as stmt
use Rattle.elastic_ast.specs.Seen.{seen_expr, seen_stmt, seen_stmts}
use Rattle.elastic_ast.specs.Units.Cuts.{literal}
use Rattle.elastic_ast.proofs.SeenLaws.{seen_stmt-if, seen_stmt-if_else, seen_stmt-for}
use Rattle.unit_parts.specs.declared.cutting.Place.{Place}
use Rattle.elastic_laws.specs.Units.PieceCounts.{count_all, is_single}
use Rattle.unit_parts.specs.SeenPieces.{HasCut, seen_loop, seen_conds, cut_at, cut_all_at}
use Rattle.unit_parts.specs.Cutting.{IsUnder, IsGuarded}
use Rattle.unit_parts.proofs.CutLaws.{has_if_single, has_if_kept, has_if_else, has_loop, passes_on, passes_all}
use Rattle.unit_parts.proofs.cutting.+cutting.Goals as goal

pub cut_stmt-returns-then-is_single : goal.cut_stmt-returns-then-is_single
cut_stmt-returns-then-is_single t c =
    let old = c.args.walk.now in
    let new = c.cut_stmts-then-is_single.new.walk in
    let place = c.args.place in
    let cond = c.in-If.cond in
    let body = c.in-If.yes in
    let inner : Place = record { lits = place.lits; conds = c.as_slice-then-is_single.result; around = place.around; stage = place.stage } in
    let single : is_single (count_all (seen_stmts body)) ≡ true = ap (λ z. is_single (count_all (seen_stmts z))) (sym c.as_slice-in-None.ensures) ∙ sym c.if-is_single.ensures in
    let under : IsGuarded place inner (seen_expr cond) = record {
      lits = refl;
      conds = ap seen_conds (c.as_slice-then-is_single.ensures.value ∙ c.in_ok-conds-in-None.ensures) ∙ map_push (λ x. seen_expr x.now) place.conds.now _;
      around = refl;
      stage = refl;
    } in
    let is : seen_stmt c.args.stmt.now ≡ _ = ap seen_stmt (c.in-If.is ∙ ap (stmt.If cond body) c.in-None.is) ∙ seen_stmt-if cond body in
    on_ok_weaker c.cut_stmts-then-is_single.result
    (λ h. subst (λ z. HasCut old new place (cut_at old place z)) (sym is)
    (has_if_single old new place inner (seen_expr cond) (seen_stmts body) single under (subst (λ z. HasCut old new inner (cut_all_at old inner (seen_stmts z))) c.as_slice-then-is_single-2.ensures h)))
    c.cut_stmts-then-is_single.ensures

pub cut_stmt-returns-in_ok-on-in-None : goal.cut_stmt-returns-in_ok-on-in-None
cut_stmt-returns-in_ok-on-in-None t c =
    let old = c.args.walk.now in
    let mid = c.keep.new.walk in
    let new = c.cut_stmts-in-None.new.walk in
    let place = c.args.place in
    let cond = c.in-If.cond in
    let body = c.in-If.yes in
    let inner : Place = record { lits = c.as_slice-in-None-2.result; conds = place.conds; around = place.around; stage = place.stage } in
    let several : is_single (count_all (seen_stmts body)) ≡ false = ap (λ z. is_single (count_all (seen_stmts z))) (sym c.as_slice-in-None.ensures) ∙ sym c.if-is_single.ensures in
    let under : IsUnder place inner (literal old.number (is_some place.around) true) = record {
      lits =
          c.as_slice-in-None-2.ensures.value ∙ c.in_ok-on-in-None.ensures
          ∙ ap (λ z. place.lits.now ++ z ∷ []) (c.literal.ensures ∙ ap (λ z. literal z (is_some place.around) true) c.in_ok-number-in-None.ensures.number);
      conds = refl;
      around = refl;
      stage = refl;
    } in
    let is : seen_stmt c.args.stmt.now ≡ _ = ap seen_stmt (c.in-If.is ∙ ap (stmt.If cond body) c.in-None.is) ∙ seen_stmt-if cond body in
    on_ok_weaker c.cut_stmts-in-None.result
    (λ h. subst (λ z. HasCut old new place (cut_at old place z)) (sym is)
    (has_if_kept old mid new place inner (seen_expr cond) (seen_stmts body) several c.in_ok-number-in-None.ensures.cut under
    (subst (λ z. HasCut mid new inner (cut_all_at mid inner (seen_stmts z))) c.as_slice-in-None-3.ensures h)))
    c.cut_stmts-in-None.ensures

pub cut_stmt-returns-in_ok-off-in-Some : goal.cut_stmt-returns-in_ok-off-in-Some
cut_stmt-returns-in_ok-off-in-Some t c =
    let old = c.args.walk.now in
    let mid = c.keep-in-Some.new.walk in
    let next = c.cut_stmts-in-Some.new.walk in
    let new = c.cut_stmts-in-Some-2.new.walk in
    let place = c.args.place in
    let cond = c.in-If.cond in
    let body = c.in-If.yes in
    let other = c.in-Some.no in
    let number = c.in_ok-number-in-Some.ensures.number in
    let one : Place = record { lits = c.as_slice-in-Some.result; conds = place.conds; around = place.around; stage = place.stage } in
    let two : Place = record { lits = c.as_slice-in-Some-3.result; conds = place.conds; around = place.around; stage = place.stage } in
    let under : IsUnder place one (literal old.number (is_some place.around) true) = record {
      lits =
          c.as_slice-in-Some.ensures.value ∙ c.in_ok-on-in-Some.ensures
          ∙ ap (λ z. place.lits.now ++ z ∷ []) (c.literal-in-Some.ensures ∙ ap (λ z. literal z (is_some place.around) true) number);
      conds = refl;
      around = refl;
      stage = refl;
    } in
    let behind : IsUnder place two (literal old.number (is_some place.around) false) = record {
      lits =
          c.as_slice-in-Some-3.ensures.value ∙ c.in_ok-off-in-Some.ensures
          ∙ ap (λ z. place.lits.now ++ z ∷ []) (c.literal-in-Some-2.ensures ∙ ap (λ z. literal z (is_some place.around) false) number);
      conds = refl;
      around = refl;
      stage = refl;
    } in
    let is : seen_stmt c.args.stmt.now ≡ _ = ap seen_stmt (c.in-If.is ∙ ap (stmt.If cond body) c.in-Some.is) ∙ seen_stmt-if_else cond body other in
    on_ok_weaker c.cut_stmts-in-Some-2.result
    (λ h. subst (λ z. HasCut old new place (cut_at old place z)) (sym is)
    (has_if_else old mid next new place one two (seen_expr cond) (seen_stmts body) (seen_stmts other) c.in_ok-number-in-Some.ensures.cut under
    (subst (λ z. HasCut mid next one (cut_all_at mid one (seen_stmts z))) c.as_slice-in-Some-2.ensures c.in_ok-cut_stmts-in-Some.ensures) behind
    (subst (λ z. HasCut next new two (cut_all_at next two (seen_stmts z))) c.as_slice-in-Some-4.ensures h)))
    c.cut_stmts-in-Some-2.ensures

pub cut_stmt-returns-in_ok-around-in-For : goal.cut_stmt-returns-in_ok-around-in-For
cut_stmt-returns-in_ok-around-in-For t c =
    let old = c.args.walk.now in
    let mid = c.enter_loop.new.walk in
    let new = c.cut_stmts-in-For.new.walk in
    let place = c.args.place in
    let inner : Place = record { lits = place.lits; conds = place.conds; around = Some c.in_ok-around-in-For.around; stage = place.stage } in
    on_ok_weaker c.cut_stmts-in-For.result
    (λ h. subst (λ z. HasCut old new place (cut_at old place z)) (sym (ap seen_stmt c.in-For.is ∙ seen_stmt-for c.in-For.index c.in-For.size c.in-For.body))
    (has_loop old mid new place inner c.in-For.index c.in-For.size (seen_loop c.in_ok-around-in-For.around) (seen_stmts c.in-For.body) c.in_ok-around-in-For.ensures refl refl refl refl refl
    (subst (λ z. HasCut mid new inner (cut_all_at mid inner (seen_stmts z))) c.as_slice-in-For.ensures h)))
    c.cut_stmts-in-For.ensures

pub cut_stmts-loop-stmt-preserved : goal.cut_stmts-loop-stmt-preserved
cut_stmts-loop-stmt-preserved t c =
    passes_on c.args.walk.now c.loop-stmt.walk c.cut_stmt.new.walk c.args.place c.args.stmts.now c.loop-stmt.stmt-index c.stmt-item.result (seen_stmts c.args.stmts.now) c.loop-stmt-test.true c.stmt-item.is c.in_ok-cut_stmt.ensures c.loop-stmt.invariant

pub cut_stmts-returns : goal.cut_stmts-returns
cut_stmts-returns t c =
    passes_all c.args.walk.now c.loop-stmt.walk c.args.place c.args.stmts.now c.loop-stmt.stmt-index (seen_stmts c.args.stmts.now) c.loop-stmt-test.false c.loop-stmt.invariant
