-- The places of names in a table, and the things of these names.
use Rattle.std.proofs.lemmas.Bool.{ltb-false}
use Rattle.std.proofs.lemmas.Option.{slice_get_past, slice_get_read}
use Rattle.std.proofs.lemmas.List.{length-map, length-append}
use Rattle.std.proofs.Common.{◌≡◌, ℕ, suc, ◌+◌, ◌<◌, ◌≤◌, Bool, true, false, not, cond, ◌||◌, List, [], ◌∷◌, ◌++◌, map, find, position, length, slice_get, get_or, Option, Some, None, is_some, IfSome, refl, sym, ap, ◌∙◌, arith}
use Rattle.std.specs.Prelude.{Vec, nat_eq, nat_lt, option_and_then, Result, Ok, Err, is_err, OnOk}
use Rattle.std.specs.List.{position_or_len, HoldsAt}
use Rattle.std.specs.Option.{option_copied, MatchOption}
use denote.Bor.{Bor}
use Rattle.std.specs.Cmp.Lexicographic.{pointwise}
use Rattle.std.specs.Map.{lookup, keys_of}
use Rattle.std.specs.declared.alloc.Global.{Global}
use Rattle.elastic_ast.specs.Tree.{Name}
use Rattle.elastic_ast.specs.Typing.Scope.{same, among}
use Rattle.program_names.specs.Named.{place_of, texts, first_named}

abbrev pub is_text : Name → Vec ℕ Global → Bool
is_text n key = pointwise nat_eq n key.items

-- a table has a name where its list of names has it
pub known_is : (n : Name) (es : List (Vec ℕ Global × Unit {0})) → is_some (lookup (is_text n) es) ≡ among (texts es) n
known_is n [] = refl
known_is n (e ∷ es) = by (same n e.0.items) (known_is n es)
  where
    by : (b : Bool) → is_some (lookup (is_text n) es) ≡ among (texts es) n → is_some (cond b (Some e.1) (lookup (is_text n) es)) ≡ (b || among (texts es) n)
    by true h = refl
    by false h = h

module _ {X Y : Type 0} (f : X → Y) (p : Y → Bool) where
  pub first_map : (xs : List X) → position_or_len p (map f xs) ≡ position_or_len (λ x. p (f x)) xs
  first_map [] = refl
  first_map (x ∷ xs) = ap (λ k. cond (not (p (f x))) (1 + k) 0) (first_map xs)

  pub position_map : (xs : List X) → position p (map f xs) ≡ position (λ x. p (f x)) xs
  position_map xs =
      ap (λ k. cond (nat_lt k (length (map f xs))) (Some k) None) (first_map xs)
      ∙ ap (λ k. cond (nat_lt (position_or_len (λ x. p (f x)) xs) k) (Some (position_or_len (λ x. p (f x)) xs)) None) (length-map xs f)

pub place_is : (n : Name) (es : List (Vec ℕ Global × Unit {0})) → position (is_text n) (keys_of es) ≡ place_of (texts es) n
place_is n es = position_map (λ e. e.0) (is_text n) es ∙ sym (position_map (λ e. e.0.items) (same n) es)

-- the thing at the first place of a name, where more things may stand behind
module _ {T : Type 0} (p : T → Bool) where
  thing_at : (xs more : List T) → slice_get xs (position_or_len p (xs ++ more)) ≡ find p xs
  thing_at [] more = refl
  thing_at (x ∷ xs) more = by (p x) (thing_at xs more)
    where
      by : (b : Bool) → slice_get xs (position_or_len p (xs ++ more)) ≡ find p xs → slice_get (x ∷ xs) (cond (not b) (1 + position_or_len p (xs ++ more)) 0) ≡ cond b (Some x) (find p xs)
      by true h = refl
      by false h =
          let next : 1 + position_or_len p (xs ++ more) ≡ suc (position_or_len p (xs ++ more)) = omega arith in
          ap (slice_get (x ∷ xs)) next ∙ h

module _ {T : Type 0} (name_of : T → Name) (n : Name) where
  pub named_at : (names : List Name) (xs more : List T) → names ≡ map name_of (xs ++ more) → option_and_then (slice_get xs) (place_of names n) ≡ first_named name_of xs n
  named_at names xs more e = ap (λ z. option_and_then (slice_get xs) (place_of z n)) e ∙ ap (option_and_then (slice_get xs)) (position_map name_of (same n) (xs ++ more)) ∙ by (nat_lt first (length (xs ++ more))) refl
    where
      test : T → Bool
      test x = same n (name_of x)

      first : ℕ
      first = position_or_len test (xs ++ more)

      by : (b : Bool) → nat_lt first (length (xs ++ more)) ≡ b → option_and_then (slice_get xs) (cond b (Some first) None) ≡ find test xs
      by true e = thing_at test xs more
      by false e =
          let past : length (xs ++ more) ≤ first = ltb-false first (length (xs ++ more)) e in
          let all : length (xs ++ more) ≡ length xs + length more = length-append xs more in
          sym (slice_get_past xs first (omega arith)) ∙ thing_at test xs more

  pub named_none : (names : List Name) (xs more : List T) → None ≡ place_of names n → names ≡ map name_of (xs ++ more) → None ≡ first_named name_of xs n
  named_none names xs more p e = ap (option_and_then (slice_get xs)) p ∙ named_at names xs more e

  pub named_some : (names : List Name) (xs more : List T) (place : ℕ) → Some place ≡ place_of names n → names ≡ map name_of (xs ++ more) → slice_get xs place ≡ first_named name_of xs n
  named_some names xs more place p e = ap (option_and_then (slice_get xs)) p ∙ named_at names xs more e

pub on_ok : {T E : Type 0} {P : Type 0} (r : Result T E) → false ≡ is_err r → OnOk r P → P
on_ok (Ok x) h p = p
on_ok (Err e) h p = cc

pub texts_push : (es : List (Vec ℕ Global × Unit {0})) (key : Vec ℕ Global) (n : Name) → key.items ≡ n → texts (es ++ (key, tt) ∷ []) ≡ texts es ++ n ∷ []
texts_push [] key n k = ap (λ z. z ∷ []) k
texts_push (e ∷ es) key n k = ap (λ z. e.0.items ∷ z) (texts_push es key n k)

-- what stands at a place
pub got : {T : Type 0} (xs : List T) (place : ℕ) (found : Option (Bor T)) → MatchOption found (length xs ≤ place) (λ x. (place < length xs) × HoldsAt (λ y. x.now ≡ y) xs place) → IfSome found (λ x. x.now ≡ get_or xs place x.now)
    → option_copied found ≡ slice_get xs place
got xs place None past at = sym (slice_get_past xs place past)
got xs place (Some x) within at = sym (slice_get_read xs (length xs) place x.now refl within.0 at)
