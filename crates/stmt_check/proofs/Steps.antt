-- One step through a list whose elements each ask something.
use Rattle.std.proofs.lemmas.Bool.{and_parts}
use Rattle.std.proofs.Common.{◌≡◌, ℕ, ◌+◌, ◌<◌, Bool, true, List, ◌∷◌, ◌++◌, drop, length, get_or, Option, Some, None, sym, ap, ◌∙◌, refl}
use Rattle.std.specs.List.{list_all}
use Rattle.std.specs.Prelude.{flat_map, map}
use Rattle.elastic_ast.specs.declared.rule.Rule.{Rule}
use Rattle.elastic_ast.specs.Typing.Scope.{or_else}
use Rattle.elastic_ast.specs.Typing.Demand.{Demand, first_broken}
use Rattle.elastic_ast.proofs.Typing.First.{first-append}
use Rattle.program_names.proofs.Items.{drop_step}

items_step : {X : Type 0} (allow : Bool) (f : X → List Demand) (xs : List X) (i : ℕ) (x : X) → i < length xs → x ≡ get_or xs i x
    → first_broken allow (flat_map f (drop i xs)) ≡ or_else (first_broken allow (f x)) (first_broken allow (flat_map f (drop (i + 1) xs)))
items_step allow f xs i x h e = ap (λ z. first_broken allow (flat_map f z)) (drop_step xs i x h e) ∙ first-append allow (f x) (flat_map f (drop (i + 1) xs))

-- what is broken from a place on is what the thing there breaks, or else what is broken behind it
pub stops_here : (rule : Rule) (own rest from whole : Option Rule) → from ≡ or_else own rest → Some rule ≡ own → from ≡ whole → Some rule ≡ whole
stops_here rule own rest from whole step broken inv = ap (λ z. or_else z rest) broken ∙ sym step ∙ inv

pub goes_past : (own rest from whole : Option Rule) → from ≡ or_else own rest → None ≡ own → from ≡ whole → rest ≡ whole
goes_past own rest from whole step fine inv = ap (λ z. or_else z rest) fine ∙ sym step ∙ inv

-- the rule that one element breaks first is the one that the list breaks first
pub stops : {X : Type 0} (allow : Bool) (f : X → List Demand) (xs : List X) (i : ℕ) (x : X) (rule : Rule) (whole : Option Rule) → i < length xs → x ≡ get_or xs i x → Some rule ≡ first_broken allow (f x)
    → first_broken allow (flat_map f (drop i xs)) ≡ whole → Some rule ≡ whole
stops allow f xs i x rule whole h e = stops_here rule _ _ _ whole (items_step allow f xs i x h e)

pub goes_on : {X : Type 0} (allow : Bool) (f : X → List Demand) (xs : List X) (i : ℕ) (x : X) (whole : Option Rule) → i < length xs → x ≡ get_or xs i x → None ≡ first_broken allow (f x)
    → first_broken allow (flat_map f (drop i xs)) ≡ whole → first_broken allow (flat_map f (drop (i + 1) xs)) ≡ whole
goes_on allow f xs i x whole h e = goes_past _ _ _ whole (items_step allow f xs i x h e)

-- the same of elements that are seen as others
module _ {X Y : Type 0} (allow : Bool) (seen : X → Y) (f : Y → List Demand) (xs : List X) (i : ℕ) (x : X) where
  seen_step : i < length xs → x ≡ get_or xs i x
      → first_broken allow (flat_map f (map seen (drop i xs))) ≡ or_else (first_broken allow (f (seen x))) (first_broken allow (flat_map f (map seen (drop (i + 1) xs))))
  seen_step h e = ap (λ z. first_broken allow (flat_map f (map seen z))) (drop_step xs i x h e) ∙ first-append allow (f (seen x)) (flat_map f (map seen (drop (i + 1) xs)))

  pub seen_stops : (rule : Rule) (whole : Option Rule) → i < length xs → x ≡ get_or xs i x → Some rule ≡ first_broken allow (f (seen x))
      → first_broken allow (flat_map f (map seen (drop i xs))) ≡ whole → Some rule ≡ whole
  seen_stops rule whole h e = stops_here rule _ _ _ whole (seen_step h e)

  pub seen_goes_on : (whole : Option Rule) → i < length xs → x ≡ get_or xs i x → None ≡ first_broken allow (f (seen x))
      → first_broken allow (flat_map f (map seen (drop i xs))) ≡ whole → first_broken allow (flat_map f (map seen (drop (i + 1) xs))) ≡ whole
  seen_goes_on whole h e = goes_past _ _ _ whole (seen_step h e)

-- the same of two lists at once, where what a pair asks stands before what the rest asks
module _ {X Y : Type 0} (allow : Bool) (ask : X → Y → List Demand) (asks : List X → List Y → List Demand) (split : (x : X) (y : Y) (xs : List X) (ys : List Y) → asks (x ∷ xs) (y ∷ ys) ≡ ask x y ++ asks xs ys)
    (xs : List X) (ys : List Y) (i : ℕ) (x : X) (y : Y) where
  pair_step : i < length xs → x ≡ get_or xs i x → i < length ys → y ≡ get_or ys i y
      → first_broken allow (asks (drop i xs) (drop i ys)) ≡ or_else (first_broken allow (ask x y)) (first_broken allow (asks (drop (i + 1) xs) (drop (i + 1) ys)))
  pair_step h e k f =
      ap (λ z. first_broken allow (asks z (drop i ys))) (drop_step xs i x h e) ∙ ap (λ z. first_broken allow (asks (x ∷ drop (i + 1) xs) z)) (drop_step ys i y k f)
      ∙ ap (first_broken allow) (split x y (drop (i + 1) xs) (drop (i + 1) ys)) ∙ first-append allow (ask x y) (asks (drop (i + 1) xs) (drop (i + 1) ys))

  pub pair_stops : (rule : Rule) (whole : Option Rule) → i < length xs → x ≡ get_or xs i x → i < length ys → y ≡ get_or ys i y → Some rule ≡ first_broken allow (ask x y)
      → first_broken allow (asks (drop i xs) (drop i ys)) ≡ whole → Some rule ≡ whole
  pair_stops rule whole h e k f = stops_here rule _ _ _ whole (pair_step h e k f)

  pub pair_goes_on : (whole : Option Rule) → i < length xs → x ≡ get_or xs i x → i < length ys → y ≡ get_or ys i y → None ≡ first_broken allow (ask x y)
      → first_broken allow (asks (drop i xs) (drop i ys)) ≡ whole → first_broken allow (asks (drop (i + 1) xs) (drop (i + 1) ys)) ≡ whole
  pair_goes_on whole h e k f = goes_past _ _ _ whole (pair_step h e k f)

-- what holds of each item from a place on holds of that at the place, and of those behind it
module _ {X : Type 0} (f : X → Bool) where
  at_head : (ys zs : List X) (x : X) → ys ≡ x ∷ zs → list_all f ys ≡ true → (f x ≡ true) × (list_all f zs ≡ true)
  at_head ys zs x e h = and_parts (f x) (list_all f zs) (sym (ap (list_all f) e) ∙ h)

  pub item_all : (xs : List X) (i : ℕ) (x : X) → i < length xs → x ≡ get_or xs i x → list_all f (drop i xs) ≡ true → f x ≡ true
  item_all xs i x h e k = (at_head (drop i xs) (drop (i + 1) xs) x (drop_step xs i x h e) k).0

  pub rest_all : (xs : List X) (i : ℕ) (x : X) → i < length xs → x ≡ get_or xs i x → list_all f (drop i xs) ≡ true → list_all f (drop (i + 1) xs) ≡ true
  rest_all xs i x h e k = (at_head (drop i xs) (drop (i + 1) xs) x (drop_step xs i x h e) k).1

pub not_some : {A : Type 0} (o : Option A) → ((x : A) → o ≡ Some x → ⊥) → o ≡ None
not_some None h = refl
not_some (Some x) h = absurd (h x refl)
