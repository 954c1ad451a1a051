-- Locations that are gathered one after the other.
use Rattle.std.proofs.Common.{◌≡◌, ℕ, ◌+◌, ◌<◌, Bool, true, false, ◌||◌, List, [], ◌∷◌, ◌++◌, drop, length, get_or, append_assoc, refl, sym, ap, ◌∙◌}
use Rattle.std.specs.Prelude.{not, filter, if◌then◌else◌}
use Rattle.std.proofs.lemmas.List.{append-nil}
use Rattle.std.proofs.lemmas.List.Folds.{list_any-append}
use Rattle.elastic_ast.specs.declared.flat.Location.{Location}
use Rattle.elastic_ast.specs.Units.Reach.{same_location, is_among, each_once}
use Rattle.elastic_ast.proofs.SameLocations.{location_told, location_self}
use Rattle.program_names.proofs.Items.{drop_step}
use Rattle.unit_parts.specs.Gathered.{with_location, with_locations}

pub with_locations-append : (known xs ys : List Location) → with_locations known (xs ++ ys) ≡ with_locations (with_locations known xs) ys
with_locations-append known [] ys = refl
with_locations-append known (x ∷ xs) ys = with_locations-append (with_location known x) xs ys

pub ruleset gathered = (with_locations-append)

-- one element more of a list whose elements each have locations
pub gather_on : {X : Type 0} (locations_of : List X → List Location) (here : List Location) (xs : List X) (i : ℕ) (x : X) (old new all : List Location)
    → locations_of (x ∷ drop (i + 1) xs) ≡ here ++ locations_of (drop (i + 1) xs) → i < length xs → x ≡ get_or xs i x → new ≡ with_locations old here
    → with_locations old (locations_of (drop i xs)) ≡ all → with_locations new (locations_of (drop (i + 1) xs)) ≡ all
gather_on locations_of here xs i x old new all parts h e now before =
    ap (λ z. with_locations z (locations_of (drop (i + 1) xs))) now ∙ sym (with_locations-append old here (locations_of (drop (i + 1) xs)))
    ∙ ap (with_locations old) (sym parts ∙ ap locations_of (sym (drop_step xs i x h e))) ∙ before

or_false : (b : Bool) → (b || false) ≡ b
or_false true = refl
or_false false = refl

or_true : (b : Bool) → (b || true) ≡ true
or_true true = refl
or_true false = refl

turned : (a b : Location) (t u : Bool) → same_location a b ≡ t → same_location b a ≡ u → t ≡ u
turned a b true true e f = refl
turned a b false false e f = refl
turned a b true false e f = sym (ap (λ z. same_location z a) (sym (location_told a b e)) ∙ location_self a) ∙ f
turned a b false true e f = sym e ∙ ap (λ z. same_location a z) (location_told b a f) ∙ location_self a

same_turned : (a b : Location) → same_location a b ≡ same_location b a
same_turned a b = turned a b (same_location a b) (same_location b a) refl refl

-- those that aren't among others
abbrev new_to : List Location → List Location → List Location
new_to known xs = filter (λ at. not (is_among known at)) xs

-- those that aren't some location
abbrev others_than : Location → List Location → List Location
others_than x xs = filter (λ y. not (same_location x y)) xs

-- what is among some is left out anyway
left_out : (known : List Location) (x : Location) (ys : List Location) → is_among known x ≡ true → new_to known (others_than x ys) ≡ new_to known ys
left_out known x [] e = refl
left_out known x (y ∷ ys) e = go (same_location x y) refl (left_out known x ys e)
  where
    go : (b : Bool) → same_location x y ≡ b → new_to known (others_than x ys) ≡ new_to known ys
        → new_to known (if not b then y ∷ others_than x ys else others_than x ys) ≡ (if not (is_among known y) then y ∷ new_to known ys else new_to known ys)
    go true here rest = rest ∙ ap (λ t. if not t then y ∷ new_to known ys else new_to known ys) (sym (ap (is_among known) (sym (location_told x y here)) ∙ e))
    go false here rest = ap (λ z. if not (is_among known y) then y ∷ z else z) rest

among_more : (known : List Location) (x y : Location) → is_among (known ++ x ∷ []) y ≡ (is_among known y || same_location x y)
among_more known x y = list_any-append (same_location y) known (x ∷ []) ∙ ap (λ t. is_among known y || t) (or_false (same_location y x) ∙ same_turned y x)

passed : (known : List Location) (x : Location) (ys : List Location) → new_to (known ++ x ∷ []) ys ≡ new_to known (others_than x ys)
passed known x [] = refl
passed known x (y ∷ ys) = go (same_location x y) refl (passed known x ys)
  where
    go : (b : Bool) → same_location x y ≡ b → new_to (known ++ x ∷ []) ys ≡ new_to known (others_than x ys)
        → (if not (is_among (known ++ x ∷ []) y) then y ∷ new_to (known ++ x ∷ []) ys else new_to (known ++ x ∷ []) ys) ≡ new_to known (if not b then y ∷ others_than x ys else others_than x ys)
    go true here rest =
        ap (λ t. if not t then y ∷ new_to (known ++ x ∷ []) ys else new_to (known ++ x ∷ []) ys) (among_more known x y ∙ ap (λ t. is_among known y || t) here ∙ or_true (is_among known y))
        ∙ rest
    go false here rest =
        ap (λ t. if not t then y ∷ new_to (known ++ x ∷ []) ys else new_to (known ++ x ∷ []) ys) (among_more known x y ∙ ap (λ t. is_among known y || t) here ∙ or_false (is_among known y))
        ∙ ap (λ z. if not (is_among known y) then y ∷ z else z) rest

gathered_new : (known xs : List Location) → with_locations known xs ≡ known ++ new_to known (each_once xs)
gathered_new known [] = sym (append-nil known)
gathered_new known (x ∷ xs) = go (is_among known x) refl (λ more. gathered_new more xs)
  where
    go : (b : Bool) → is_among known x ≡ b → ((more : List Location) → with_locations more xs ≡ more ++ new_to more (each_once xs))
        → with_locations (if b then known else known ++ x ∷ []) xs ≡ known ++ (if not b then x ∷ new_to known (others_than x (each_once xs)) else new_to known (others_than x (each_once xs)))
    go true here rest = rest known ∙ ap (λ z. known ++ z) (sym (left_out known x (each_once xs) here))
    go false here rest = rest (known ++ x ∷ []) ∙ append_assoc known (x ∷ []) (new_to (known ++ x ∷ []) (each_once xs)) ∙ ap (λ z. known ++ (x ∷ z)) (passed known x (each_once xs))

all_new : (xs : List Location) → new_to [] xs ≡ xs
all_new [] = refl
all_new (x ∷ xs) = ap (λ z. x ∷ z) (all_new xs)

-- what is gathered is each location once, where it stands first
pub gathered_once : (xs : List Location) → with_locations [] xs ≡ each_once xs
gathered_once xs = gathered_new [] xs ∙ all_new (each_once xs)

with_known : (known : List Location) (z : Location) → is_among known z ≡ true → with_location known z ≡ known
with_known known z e = ap (λ t. if t then known else known ++ z ∷ []) e

among_kept : (known : List Location) (z y : Location) → is_among known y ≡ true → is_among (with_location known z) y ≡ true
among_kept known z y e = go (is_among known z)
  where
    go : (b : Bool) → is_among (if b then known else known ++ z ∷ []) y ≡ true
    go true = e
    go false = among_more known z y ∙ ap (λ t. t || same_location z y) e

among_new : (known : List Location) (y : Location) → is_among (with_location known y) y ≡ true
among_new known y = go (is_among known y) refl
  where
    go : (b : Bool) → is_among known y ≡ b → is_among (if b then known else known ++ y ∷ []) y ≡ true
    go true e = e
    go false e = among_more known y y ∙ ap (λ t. is_among known y || t) (location_self y) ∙ or_true (is_among known y)

-- what is there already may be left out of what is gathered
skipped : (known : List Location) (y : Location) (zs : List Location) → is_among known y ≡ true → with_locations known (others_than y zs) ≡ with_locations known zs
skipped known y [] e = refl
skipped known y (z ∷ zs) e = go (same_location y z) refl (λ more h. skipped more y zs h)
  where
    go : (b : Bool) → same_location y z ≡ b → ((more : List Location) → is_among more y ≡ true → with_locations more (others_than y zs) ≡ with_locations more zs)
        → with_locations known (if not b then z ∷ others_than y zs else others_than y zs) ≡ with_locations (with_location known z) zs
    go true here rest = rest known e ∙ ap (λ t. with_locations t zs) (sym (with_known known z (ap (is_among known) (sym (location_told y z here)) ∙ e)))
    go false here rest = rest (with_location known z) (among_kept known z y e)

-- to gather each of some locations once gathers the same
pub once_again : (known ys : List Location) → with_locations known (each_once ys) ≡ with_locations known ys
once_again known [] = refl
once_again known (y ∷ ys) = skipped (with_location known y) y (each_once ys) (among_new known y) ∙ once_again (with_location known y) ys

-- and so do all of them behind others
pub once_behind : (xs ys : List Location) → each_once (xs ++ each_once ys) ≡ each_once (xs ++ ys)
once_behind xs ys =
    sym (gathered_once (xs ++ each_once ys)) ∙ with_locations-append [] xs (each_once ys) ∙ once_again (with_locations [] xs) ys
    ∙ sym (with_locations-append [] xs ys) ∙ gathered_once (xs ++ ys)
