-- The bounds of all symbols, found one after the other.
use Rattle.std.proofs.Common.{◌≡◌, ℕ, zero, suc, ◌+◌, ◌<◌, ◌≤◌, List, [], ◌∷◌, ◌++◌, take, length, get_or, subst, Option, Some, None, refl, sym, ap, ◌∙◌, arith, below_more}
use Rattle.std.specs.Prelude.{IsSome}
use Rattle.std.proofs.lemmas.List.{get_or_push, get_or_append_left}
use Rattle.std.proofs.lemmas.List.Elements.{All-head, All-tail, All-nil, All-cons}
use Rattle.elastic_ast.specs.Units.PlainUnits.{PlainUnits}
use Rattle.elastic_ast.specs.Units.Instances.{nth_size}
use Rattle.target_desc.specs.declared.target.Target.{Target}
use Rattle.unroll_bound.specs.BoundAnswers.{most_bound, AreSmallBounds}
use Rattle.unroll_bound.specs.UnitBounds.{bound_of_units}

module _ (units : PlainUnits) (target : Target) where
  abbrev pub AreFound : ℕ → List ℕ → Type 0
  AreFound count list = (symbol : ℕ) → symbol < count → bound_of_units units target symbol ≡ Some (nth_size list symbol)

  pub none_found : (list : List ℕ) → AreFound 0 list
  none_found list symbol h = absurd (omega (arith, h))

  pub found_more : (list : List ℕ) (count bound : ℕ) → length list ≡ count → Some bound ≡ bound_of_units units target count → AreFound count list → AreFound (count + 1) (list ++ bound ∷ [])
  found_more list count bound dense e before = below_more _ _ (λ symbol l. before symbol l ∙ ap Some (sym (get_or_append_left list (bound ∷ []) 0 symbol (omega (arith, l, dense))))) (sym e ∙ ap Some (sym (get_or_push list bound 0 count dense)))

  is_some : (option : Option ℕ) (value : ℕ) → option ≡ Some value → IsSome option
  is_some None value e = absurd (cc)
  is_some (Some other) value e = refl

  pub found_earlier : (list : List ℕ) (count : ℕ) → AreFound count list → (symbol : ℕ) → symbol < count → IsSome (bound_of_units units target symbol)
  found_earlier list count found symbol h = is_some (bound_of_units units target symbol) (nth_size list symbol) (found symbol h)

abbrev is_small : ℕ → Type 0
is_small bound = bound ≤ most_bound

small_next : (bounds : List ℕ) (count bound : ℕ) → bound ≡ get_or bounds count bound → count < length bounds → bound ≤ most_bound → AreSmallBounds (take count bounds) → AreSmallBounds (take (suc count) bounds)
small_next [] count bound e within h before = absurd (omega (arith, within))
small_next (first ∷ rest) zero bound e within h before = All-cons is_small first [] (subst is_small e h) (All-nil is_small)
small_next (first ∷ rest) (suc count) bound e within h before =
    All-cons is_small first (take (suc count) rest) (All-head is_small first (take count rest) before) (small_next rest count bound e (omega (arith, within)) h (All-tail is_small first (take count rest) before))

-- one bound more that isn't too great
pub small_more : (bounds : List ℕ) (count bound : ℕ) → bound ≡ get_or bounds count bound → count < length bounds → bound ≤ most_bound → AreSmallBounds (take count bounds) → AreSmallBounds (take (count + 1) bounds)
small_more bounds count bound e within h before =
    subst (λ (n : ℕ). AreSmallBounds (take n bounds)) (let plus : suc count ≡ count + 1 = omega arith in plus) (small_next bounds count bound e within h before)

pub small_all : (bounds : List ℕ) (count : ℕ) → length bounds ≤ count → AreSmallBounds (take count bounds) → AreSmallBounds bounds
small_all [] count e h = All-nil is_small
small_all (first ∷ rest) zero e h = absurd (omega (arith, e))
small_all (first ∷ rest) (suc count) e h = All-cons is_small first rest (All-head is_small first (take count rest) h) (small_all rest count (omega (arith, e)) (All-tail is_small first (take count rest) h))
