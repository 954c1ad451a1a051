-- What stands under a declared name.
use Rattle.std.proofs.lemmas.List.{append-nil, length-map}
use Rattle.std.proofs.lemmas.Grind.{flat_map-append}
use Rattle.program_names.specs.declared.names.Names.{Names}
use Rattle.std.proofs.Common.{◌≡◌, ℕ, zero, suc, ◌+◌, Bool, true, false, cond, List, [], ◌∷◌, ◌++◌, map, length, slice_get, Option, Some, None, is_some, refl, sym, ap, ◌∙◌, add-one}
use Rattle.std.specs.Prelude.{flat_map, option_map, option_and_then}
use Rattle.std.specs.Map.{lookup}
use Rattle.elastic_ast.specs.Tree.{Name, PlainDecl}
use Rattle.elastic_ast.specs.Typing.Scope.{same, found, or_else}
use Rattle.elastic_ast.specs.Packets.MainParts.{main_in}
use Rattle.elastic_ast.specs.Typing.LookUps.{members_in, meta_in}
use Rattle.elastic_ast.specs.Typing.AskedOfNames.{top_name, top_names}
use Rattle.program_names.specs.Named.{place_of, first_named}
use Rattle.program_names.specs.TopNames.{AreNames, controls_with, controls_of, part_names, first_giving, number_after, with_decl, names_with, named_decls}
use Rattle.program_names.proofs.Places.{named_at}

abbrev pub first_name : Name × PlainDecl → Name
first_name entry = entry.0

names_paired : (d : PlainDecl) (ns : List Name) (rest : List (Name × PlainDecl)) → map first_name (map (with_decl d) ns ++ rest) ≡ ns ++ map first_name rest
names_paired d [] rest = refl
names_paired d (n ∷ ns) rest = ap (λ z. n ∷ z) (names_paired d ns rest)

pub names_named : (ds : List PlainDecl) → map first_name (named_decls ds) ≡ top_names ds
names_named [] = refl
names_named (d ∷ ds) = names_paired d (top_name d) (named_decls ds) ∙ ap (λ z. top_name d ++ z) (names_named ds)

pub slice_get-map : {X Y : Type 0} (f : X → Y) (xs : List X) (i : ℕ) → slice_get (map f xs) i ≡ option_map f (slice_get xs i)
slice_get-map f [] i = refl
slice_get-map f (x ∷ xs) zero = refl
slice_get-map f (x ∷ xs) (suc i) = slice_get-map f xs i

lookup_found : (n : Name) (es : List (Name × PlainDecl)) → option_map (λ e. e.1) (first_named first_name es n) ≡ lookup (same n) es
lookup_found n [] = refl
lookup_found n (e ∷ es) = by (same n e.0) (lookup_found n es)
  where
    by : (b : Bool) → option_map (λ e. e.1) (first_named first_name es n) ≡ lookup (same n) es → option_map (λ e. e.1) (cond b (Some e) (first_named first_name es n)) ≡ cond b (Some e.1) (lookup (same n) es)
    by true h = refl
    by false h = h

-- the declaration of a name, by its number
pub number_is : (decls : List PlainDecl) (top : List Name) (numbers : List ℕ) (n : Name) → top ≡ top_names decls → map (slice_get decls) numbers ≡ map (λ entry. Some entry.1) (named_decls decls)
    → option_and_then (slice_get decls) (option_and_then (slice_get numbers) (place_of top n)) ≡ lookup (same n) (named_decls decls)
number_is decls top numbers n t h = inner (place_of top n) ∙ ap (option_map (λ e. e.1)) (named_at first_name n top es [] (t ∙ sym (names_named decls) ∙ ap (map first_name) (sym (append-nil es)))) ∙ lookup_found n es
  where
    es : List (Name × PlainDecl)
    es = named_decls decls

    flat : Option (Option PlainDecl) → Option PlainDecl
    flat None = None
    flat (Some x) = x

    at : (k : ℕ) → option_and_then (slice_get decls) (slice_get numbers k) ≡ option_map (λ e. e.1) (slice_get es k)
    at k = flat_map_is (slice_get numbers k) ∙ ap flat (sym (slice_get-map (slice_get decls) numbers k) ∙ ap (λ z. slice_get z k) h ∙ slice_get-map (λ entry. Some entry.1) es k) ∙ flat_some (slice_get es k)
      where
        flat_map_is : (o : Option ℕ) → option_and_then (slice_get decls) o ≡ flat (option_map (slice_get decls) o)
        flat_map_is None = refl
        flat_map_is (Some x) = refl

        flat_some : (o : Option (Name × PlainDecl)) → flat (option_map (λ entry. Some entry.1) o) ≡ option_map (λ e. e.1) o
        flat_some None = refl
        flat_some (Some x) = refl

    inner : (p : Option ℕ) → option_and_then (slice_get decls) (option_and_then (slice_get numbers) p) ≡ option_map (λ e. e.1) (option_and_then (slice_get es) p)
    inner None = refl
    inner (Some k) = at k

-- one declaration more
one_more_at : {X : Type 0} (xs : List X) (x : X) → slice_get (xs ++ x ∷ []) (length xs) ≡ Some x
one_more_at [] x = refl
one_more_at (y ∷ ys) x = one_more_at ys x

still_at : {X : Type 0} (xs : List X) (x y : X) (k : ℕ) → slice_get xs k ≡ Some y → slice_get (xs ++ x ∷ []) k ≡ Some y
still_at [] x y k e = cc
still_at (z ∷ zs) x y zero e = e
still_at (z ∷ zs) x y (suc k) e = still_at zs x y k e

numbers_still : {E : Type 0} (shown : E → PlainDecl) (decls : List PlainDecl) (x : PlainDecl) (ks : List ℕ) (es : List E) → map (slice_get decls) ks ≡ map (λ e. Some (shown e)) es → map (slice_get (decls ++ x ∷ [])) ks ≡ map (λ e. Some (shown e)) es
numbers_still shown decls x [] [] h = refl
numbers_still shown decls x [] (e ∷ es) h = cc
numbers_still shown decls x (k ∷ ks) [] h = cc
numbers_still shown decls x (k ∷ ks) (e ∷ es) h =
    let first : slice_get decls k ≡ Some (shown e) = cc in
    let rest : map (slice_get decls) ks ≡ map (λ e. Some (shown e)) es = cc in
    ap (λ z. z ∷ map (slice_get (decls ++ x ∷ [])) ks) (still_at decls x (shown e) k first) ∙ ap (λ z. Some (shown e) ∷ z) (numbers_still shown decls x ks es rest)

map-append : {X Y : Type 0} (f : X → Y) (xs ys : List X) → map f (xs ++ ys) ≡ map f xs ++ map f ys
map-append f [] ys = refl
map-append f (x ∷ xs) ys = ap (λ z. f x ∷ z) (map-append f xs ys)

numbers_here : (decls : List PlainDecl) (x : PlainDecl) (ns : List Name) → map (slice_get (decls ++ x ∷ [])) (map (λ name. length decls) ns) ≡ map (λ entry. Some entry.1) (map (with_decl x) ns)
numbers_here decls x [] = refl
numbers_here decls x (n ∷ ns) = ap (λ z. z ∷ map (slice_get (decls ++ x ∷ [])) (map (λ name. length decls) ns)) (one_more_at decls x) ∙ ap (λ z. Some x ∷ z) (numbers_here decls x ns)

flat_last : {X Y : Type 0} (f : X → List Y) (xs : List X) (x : X) → flat_map f (xs ++ x ∷ []) ≡ flat_map f xs ++ f x
flat_last f xs x = flat_map-append f xs (x ∷ []) ∙ ap (λ z. flat_map f xs ++ z) (append-nil (f x))

controls_here : (decls : List PlainDecl) (x : PlainDecl) → map (slice_get (decls ++ x ∷ [])) (map (λ control. length decls) (controls_with x)) ≡ map Some (controls_with x)
controls_here decls (PlainDecl.Control name locals body) = ap (λ z. z ∷ []) (one_more_at decls (PlainDecl.Control name locals body))
controls_here decls _ = refl

controls_next : (decls : List PlainDecl) (x : PlainDecl) (old new : List ℕ) (number : ℕ) → number ≡ length decls → new ≡ old ++ map (λ control. number) (controls_with x) → map (slice_get decls) old ≡ map Some (controls_of decls)
    → map (slice_get (decls ++ x ∷ [])) new ≡ map Some (controls_of (decls ++ x ∷ []))
controls_next decls x old new number here is known =
    ap (map (slice_get (decls ++ x ∷ []))) (is ∙ ap (λ k. old ++ map (λ control. k) (controls_with x)) here)
    ∙ map-append (slice_get (decls ++ x ∷ [])) old (map (λ control. length decls) (controls_with x))
    ∙ ap (λ z. z ++ map (slice_get (decls ++ x ∷ [])) (map (λ control. length decls) (controls_with x))) (numbers_still (λ control. control) decls x old (controls_of decls) known)
    ∙ ap (λ z. map Some (controls_of decls) ++ z) (controls_here decls x)
    ∙ sym (ap (map Some) (flat_last controls_with decls x) ∙ map-append Some (controls_of decls) (controls_with x))

giving_last : {B : Type 0} (gives : PlainDecl → Option B) (decls : List PlainDecl) (x : PlainDecl) → first_giving gives (decls ++ x ∷ []) ≡ number_after (first_giving gives decls) (is_some (gives x)) (length decls)
giving_last gives [] x = refl
giving_last gives (d ∷ ds) x = by (is_some (gives d)) (giving_last gives ds x)
  where
    later : (known : Option ℕ) (b : Bool) (number : ℕ) → option_map (λ k. k + 1) (number_after known b number) ≡ number_after (option_map (λ k. k + 1) known) b (suc number)
    later (Some k) b number = refl
    later None true number = ap Some (add-one number)
    later None false number = refl

    by : (c : Bool) → first_giving gives (ds ++ x ∷ []) ≡ number_after (first_giving gives ds) (is_some (gives x)) (length ds)
        → cond c (Some 0) (option_map (λ k. k + 1) (first_giving gives (ds ++ x ∷ []))) ≡ number_after (cond c (Some 0) (option_map (λ k. k + 1) (first_giving gives ds))) (is_some (gives x)) (suc (length ds))
    by true ih = refl
    by false ih = ap (option_map (λ k. k + 1)) ih ∙ later (first_giving gives ds) (is_some (gives x)) (length ds)

pub next_names : (old new : Names) (decls : List PlainDecl) (x : PlainDecl) (number : ℕ) → AreNames old decls → number ≡ length old.parts.items → new.top ≡ old.top ++ top_name x → new.numbers.items ≡ old.numbers.items ++ map (λ name. number) (top_name x)
    → new.parts.items ≡ old.parts.items ++ part_names x ∷ [] → new.headers ≡ number_after old.headers (is_some (members_in x)) number → new.metadata ≡ number_after old.metadata (is_some (meta_in x)) number
    → new.main ≡ number_after old.main (is_some (main_in x)) number → new.controls.items ≡ old.controls.items ++ map (λ control. number) (controls_with x) → AreNames new (decls ++ x ∷ [])
next_names old new decls x number are count top numbers parts headers metadata main controls = record {
  top = top ∙ ap (λ z. z ++ top_name x) are.top ∙ sym (flat_last top_name decls x);
  numbers = ap (map (slice_get (decls ++ x ∷ []))) (numbers ∙ ap (λ k. old.numbers.items ++ map (λ name. k) (top_name x)) here)
      ∙ map-append (slice_get (decls ++ x ∷ [])) old.numbers.items (map (λ name. length decls) (top_name x))
      ∙ ap (λ z. z ++ map (slice_get (decls ++ x ∷ [])) (map (λ name. length decls) (top_name x))) (numbers_still (λ entry. entry.1) decls x old.numbers.items (named_decls decls) are.numbers)
      ∙ ap (λ z. map (λ entry. Some entry.1) (named_decls decls) ++ z) (numbers_here decls x (top_name x))
      ∙ sym (ap (map (λ entry. Some entry.1)) (flat_last names_with decls x) ∙ map-append (λ entry. Some entry.1) (named_decls decls) (names_with x));
  parts = parts ∙ ap (λ z. z ++ part_names x ∷ []) are.parts ∙ sym (map-append part_names decls (x ∷ []));
  headers = headers ∙ ap (λ z. number_after z (is_some (members_in x)) number) are.headers ∙ ap (number_after (first_giving members_in decls) (is_some (members_in x))) here ∙ sym (giving_last members_in decls x);
  metadata = metadata ∙ ap (λ z. number_after z (is_some (meta_in x)) number) are.metadata ∙ ap (number_after (first_giving meta_in decls) (is_some (meta_in x))) here ∙ sym (giving_last meta_in decls x);
  main = main ∙ ap (λ z. number_after z (is_some (main_in x)) number) are.main ∙ ap (number_after (first_giving main_in decls) (is_some (main_in x))) here ∙ sym (giving_last main_in decls x);
  controls = controls_next decls x old.controls.items new.controls.items number here controls are.controls;
}
  where
    here : number ≡ length decls
    here = count ∙ ap length are.parts ∙ length-map decls part_names

-- the first declaration that gives something, by its number
module _ {B : Type 0} (gives : PlainDecl → Option B) where
  pub giving_is : (decls : List PlainDecl) → option_and_then gives (option_and_then (slice_get decls) (first_giving gives decls)) ≡ found gives decls
  giving_is [] = refl
  giving_is (d ∷ ds) = by (gives d) refl (giving_is ds)
    where
      later : (o : Option ℕ) → option_and_then gives (option_and_then (slice_get (d ∷ ds)) (option_map (λ k. k + 1) o)) ≡ option_and_then gives (option_and_then (slice_get ds) o)
      later None = refl
      later (Some k) = ap (λ j. option_and_then gives (slice_get (d ∷ ds) j)) (add-one k)

      by : (o : Option B) → gives d ≡ o → option_and_then gives (option_and_then (slice_get ds) (first_giving gives ds)) ≡ found gives ds
          → option_and_then gives (option_and_then (slice_get (d ∷ ds)) (cond (is_some o) (Some 0) (option_map (λ k. k + 1) (first_giving gives ds)))) ≡ or_else o (found gives ds)
      by (Some x) e ih = e
      by None e ih = later (first_giving gives ds) ∙ ih

  pub giving_number : (decls : List PlainDecl) (number : Option ℕ) → number ≡ first_giving gives decls → option_and_then gives (option_and_then (slice_get decls) number) ≡ found gives decls
  giving_number decls number e = ap (λ z. option_and_then gives (option_and_then (slice_get decls) z)) e ∙ giving_is decls
