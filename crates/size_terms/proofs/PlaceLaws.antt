-- The table of places, symbol by symbol.
use Rattle.std.proofs.Common.{◌≡◌, ℕ, ◌+◌, ◌<◌, Bool, true, false, List, drop, length, get_or, Option, Some, None, refl, sym, ap, ◌∙◌}
use Rattle.std.specs.Prelude.{if◌then◌else◌}
use Rattle.std.specs.List.{position_from}
use denote.Bor.{Bor}
use Rattle.elastic_ast.specs.Tree.{Name}
use Rattle.elastic_ast.specs.Typing.Scope.{same, or_else}
use Rattle.program_names.specs.FirstNamed.{entry_value, EntersValue}
use Rattle.program_names.proofs.Items.{drop_step}

-- one more name
or_both : (b : Bool) (o rest : Option ℕ) (i : ℕ) → or_else (or_else o (if b then Some i else None)) rest ≡ or_else o (if b then Some i else rest)
or_both true None rest i = refl
or_both false None rest i = refl
or_both b (Some x) rest i = refl

pub enter_step : (xs : List Name) (i : ℕ) (x m : Name) (old new : List (Bor (List ℕ) × ℕ)) (n : Name) (whole : Option ℕ) → i < length xs → x ≡ get_or xs i x → m ≡ x → EntersValue old new m i
    → or_else (entry_value old n) (position_from (same n) i (drop i xs)) ≡ whole → or_else (entry_value new n) (position_from (same n) (i + 1) (drop (i + 1) xs)) ≡ whole
enter_step xs i x m old new n whole h e em enters inv =
    ap (λ z. or_else z (position_from (same n) (i + 1) (drop (i + 1) xs))) (enters n ∙ ap (λ z. or_else (entry_value old n) (if same n z then Some i else None)) em)
    ∙ or_both (same n x) (entry_value old n) (position_from (same n) (i + 1) (drop (i + 1) xs)) i
    ∙ ap (λ z. or_else (entry_value old n) (position_from (same n) i z)) (sym (drop_step xs i x h e)) ∙ inv
