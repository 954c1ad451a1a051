-- What is declared under names, as units keep it.
use Rattle.std.proofs.Common.{◌≡◌, ℕ, ◌≤◌, Bool, true, false, cond, List, [], ◌∷◌, length, Option, Some, None, refl, sym, ap, ◌∙◌, arith}
use Rattle.std.specs.Prelude.{option_map, unwrap_or, if◌then◌else◌}
use Rattle.std.specs.List.{position_from, position_or_len}
use lib.Dec.{ltb}
use Rattle.std.proofs.lemmas.List.Sums.{prefix_len-le-length}
use Rattle.std.proofs.lemmas.Iterator.Adapters.{position_from-zero}
use Rattle.elastic_ast.specs.declared.statements.Amount.{Amount}
use Rattle.elastic_ast.specs.declared.flat.Cells.{Cells}
use Rattle.elastic_ast.specs.Tree.{Name, PlainDecl}
use Rattle.elastic_ast.specs.Typing.Scope.{same, or_else, found}
use Rattle.elastic_ast.specs.Units.Costs.{cells_counted, kept_in, kept_by}
use Rattle.expr_types.specs.Scoped.{register_kept}
use Rattle.unit_flow.specs.Knowing.{counted_kept}

-- the first place, or the number of all
either_told : (l n : ℕ) → l ≤ n → unwrap_or (cond (ltb l n) (Some l) None) n ≡ l
either_told l n h = grind arith

pub place_told : {X : Type 0} (test : X → Bool) (xs : List X) (o : Option ℕ) → o ≡ position_from test 0 xs → unwrap_or o (length xs) ≡ position_or_len test xs
place_told test xs o e =
    ap (λ z. unwrap_or z (length xs)) (e ∙ sym (position_from-zero test xs)) ∙ either_told (position_or_len test xs) (length xs) (prefix_len-le-length _ xs)

map_else : {A B : Type 0} (f : A → B) (a b : Option A) → option_map f (or_else a b) ≡ or_else (option_map f a) (option_map f b)
map_else f None b = refl
map_else f (Some x) b = refl

module _ (decls : List PlainDecl) (name : Name) where
  kept_one : (decl : PlainDecl) → kept_in decls name decl ≡ counted_kept decls (register_kept name decl)
  kept_one (PlainDecl.Register register width count size) = by (same name register)
    where
      by : (b : Bool) → (if b then Some (cells_counted decls count, width) else None) ≡ counted_kept decls (if b then Some (count, width) else None)
      by true = refl
      by false = refl
  kept_one _ = refl

  kept_found : (ds : List PlainDecl) → found (kept_in decls name) ds ≡ counted_kept decls (found (register_kept name) ds)
  kept_found [] = refl
  kept_found (d ∷ ds) =
      ap (λ z. or_else z (found (kept_in decls name) ds)) (kept_one d) ∙ ap (or_else (counted_kept decls (register_kept name d))) (kept_found ds)
      ∙ sym (map_else (λ kept. (cells_counted decls kept.0, kept.1)) (register_kept name d) (found (register_kept name) ds))

  -- the cells of a register are those that it is declared with
  pub kept_told : (shown : Option (Amount × ℕ)) (cells : Option (Cells × ℕ)) → shown ≡ found (register_kept name) decls → cells ≡ counted_kept decls shown → cells ≡ kept_by decls (Some name)
  kept_told shown cells e counted = counted ∙ ap (counted_kept decls) e ∙ sym (kept_found decls)
