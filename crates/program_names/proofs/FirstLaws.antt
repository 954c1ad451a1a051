-- A table of the first thing of each name, entry by entry.
use Rattle.std.proofs.Common.{◌≡◌, ℕ, ◌+◌, ◌<◌, Bool, true, false, cond, List, [], ◌∷◌, ◌++◌, map, drop, length, get_or, Option, Some, None, refl, sym, ap, ◌∙◌, true≢false, is_some}
use Rattle.std.specs.Prelude.{if◌then◌else◌, option_map, nat_eq}
use Rattle.std.specs.Cmp.Lexicographic.{pointwise, same_text}
use Rattle.indexmap.specs.IndexMap.{insert_entry}
use denote.Bor.{Bor}
use Rattle.elastic_ast.specs.Tree.{Name}
use Rattle.elastic_ast.specs.Typing.Scope.{same, or_else, found}
use Rattle.elastic_ast.proofs.Typing.SameNames.{same_self, same_told}
use Rattle.program_names.specs.FirstNamed.{entry_value, EntersValue, EntersFirst}
use Rattle.program_names.proofs.Items.{drop_step}

-- an entry at the end
value_last : {V : Type 0} (n : Name) (es : List (Bor (List ℕ) × V)) (m : Bor (List ℕ)) (v : V) → entry_value (es ++ (m, v) ∷ []) n ≡ or_else (entry_value es n) (if same n m.now then Some v else None)
value_last {V} n [] m v = by (same n m.now)
  where
    by : (b : Bool) → cond b (Some v) None ≡ (if b then Some v else None)
    by true = refl
    by false = refl
value_last {V} n (e ∷ es) m v = by (same n e.0.now) (value_last n es m v)
  where
    by : (b : Bool) → entry_value (es ++ (m, v) ∷ []) n ≡ or_else (entry_value es n) (if same n m.now then Some v else None)
        → cond b (Some e.1) (entry_value (es ++ (m, v) ∷ []) n) ≡ or_else (cond b (Some e.1) (entry_value es n)) (if same n m.now then Some v else None)
    by true h = refl
    by false h = h

pub enters_last : {V : Type 0} (es new : List (Bor (List ℕ) × V)) (m : Bor (List ℕ)) (v : V) → new ≡ es ++ (m, v) ∷ [] → EntersValue es new m.now v
enters_last es new m v e n = ap (λ z. entry_value z n) e ∙ value_last n es m v

-- a name that has an entry keeps it
pub enters_known : {V : Type 0} (es : List (Bor (List ℕ) × V)) (m : Name) (v : V) → is_some (entry_value es m) ≡ true → EntersValue es es m v
enters_known {V} es m v h n = by (same n m) refl
  where
    stays : (o x : Option V) → is_some o ≡ true → o ≡ or_else o x
    stays None x p = cc
    stays (Some y) x p = refl

    or_none : (o : Option V) → o ≡ or_else o None
    or_none None = refl
    or_none (Some y) = refl

    by : (b : Bool) → same n m ≡ b → entry_value es n ≡ or_else (entry_value es n) (if b then Some v else None)
    by true e = stays (entry_value es n) (Some v) (ap (λ z. is_some (entry_value es z)) (same_text n m (sym e)) ∙ h)
    by false e = or_none (entry_value es n)

-- the value of a name is changed, or entered
pub value_insert : {V : Type 0} (es : List (Bor (List ℕ) × V)) (m : Bor (List ℕ)) (v : V) (n : Name)
    → entry_value (insert_entry (λ a b. pointwise nat_eq a.now b.now) es m v) n ≡ (if same n m.now then Some v else entry_value es n)
value_insert {V} [] m v n = by (same n m.now)
  where
    by : (b : Bool) → cond b (Some v) None ≡ (if b then Some v else None)
    by true = refl
    by false = refl
value_insert {V} (e ∷ es) m v n = by (same m.now e.0.now) (same n e.0.now) (same n m.now) refl refl refl (value_insert es m v n)
  where
    by : (a b c : Bool) → same m.now e.0.now ≡ a → same n e.0.now ≡ b → same n m.now ≡ c → entry_value (insert_entry (λ x y. pointwise nat_eq x.now y.now) es m v) n ≡ (if c then Some v else entry_value es n)
        → entry_value (if a then (e.0, v) ∷ es else e ∷ insert_entry (λ x y. pointwise nat_eq x.now y.now) es m v) n ≡ (if c then Some v else cond b (Some e.1) (entry_value es n))
    by true true true p q r h = ap (λ z. cond z (Some v) (entry_value es n)) q
    by true false false p q r h = ap (λ z. cond z (Some v) (entry_value es n)) q
    by true true false p q r h = absurd (true≢false (sym (same_self m.now) ∙ ap (λ z. same z m.now) (same_told m.now e.0.now p ∙ sym (same_told n e.0.now q)) ∙ r))
    by true false true p q r h = absurd (true≢false (sym p ∙ ap (λ z. same z e.0.now) (sym (same_told n m.now r)) ∙ q))
    by false true true p q r h = absurd (true≢false (sym q ∙ ap (λ z. same z e.0.now) (same_told n m.now r) ∙ p))
    by false true false p q r h = ap (λ z. cond z (Some e.1) (entry_value (insert_entry (λ x y. pointwise nat_eq x.now y.now) es m v) n)) q
    by false false c p q r h = ap (λ z. cond z (Some e.1) (entry_value (insert_entry (λ x y. pointwise nat_eq x.now y.now) es m v) n)) q ∙ h

module _ {V A B : Type 0} (shown : V → B) (gives : Name → A → Option B) where
  shown_or : (a b : Option V) → option_map shown (or_else a b) ≡ or_else (option_map shown a) (option_map shown b)
  shown_or None b = refl
  shown_or (Some x) b = refl

  pub or_none : (a : Option B) → or_else a None ≡ a
  or_none None = refl
  or_none (Some x) = refl

  or_assoc : (a b c : Option B) → or_else (or_else a b) c ≡ or_else a (or_else b c)
  or_assoc None b c = refl
  or_assoc (Some x) b c = refl

  -- an element that gives something under its name alone
  pub enters_first : (old new : List (Bor (List ℕ) × V)) (key : Name) (value : V) (x : A) → EntersValue old new key value → ((name : Name) → option_map shown (if same name key then Some value else None) ≡ gives name x)
      → EntersFirst shown gives old new x
  enters_first old new key value x h k name = ap (option_map shown) (h name) ∙ shown_or (entry_value old name) (if same name key then Some value else None) ∙ ap (or_else (option_map shown (entry_value old name))) (k name)

  -- an element that gives nothing
  pub enters_nothing : (old : List (Bor (List ℕ) × V)) (x : A) → ((name : Name) → None ≡ gives name x) → EntersFirst shown gives old old x
  enters_nothing old x k name = sym (ap (or_else (option_map shown (entry_value old name))) (sym (k name)) ∙ or_none (option_map shown (entry_value old name)))

  -- one element more of a list
  pub first_step : {X : Type 0} (seen : X → A) (xs : List X) (i : ℕ) (x : X) (old new : List (Bor (List ℕ) × V)) (name : Name) (whole : Option B) → i < length xs → x ≡ get_or xs i x → EntersFirst shown gives old new (seen x)
      → or_else (option_map shown (entry_value old name)) (found (gives name) (map seen (drop i xs))) ≡ whole → or_else (option_map shown (entry_value new name)) (found (gives name) (map seen (drop (i + 1) xs))) ≡ whole
  first_step seen xs i x old new name whole h e enters inv =
      ap (λ z. or_else z (found (gives name) (map seen (drop (i + 1) xs)))) (enters name)
      ∙ or_assoc (option_map shown (entry_value old name)) (gives name (seen x)) (found (gives name) (map seen (drop (i + 1) xs)))
      ∙ ap (λ z. or_else (option_map shown (entry_value old name)) (found (gives name) (map seen z))) (sym (drop_step xs i x h e)) ∙ inv

  pub first_all : {X : Type 0} (seen : X → A) (xs : List X) (i : ℕ) (new : List (Bor (List ℕ) × V)) (name : Name) (whole : Option B) → drop i xs ≡ []
      → or_else (option_map shown (entry_value new name)) (found (gives name) (map seen (drop i xs))) ≡ whole → option_map shown (entry_value new name) ≡ whole
  first_all seen xs i new name whole e inv = sym (ap (λ z. or_else (option_map shown (entry_value new name)) (found (gives name) (map seen z))) e ∙ or_none (option_map shown (entry_value new name))) ∙ inv

-- what is first found, and then shown
pub found_map : {A B C : Type 0} (f : B → C) (gives : A → Option B) (xs : List A) → found (λ x. option_map f (gives x)) xs ≡ option_map f (found gives xs)
found_map {A} {B} {C} f gives [] = refl
found_map {A} {B} {C} f gives (x ∷ xs) = by (gives x) (found_map f gives xs)
  where
    by : (o : Option B) → found (λ x. option_map f (gives x)) xs ≡ option_map f (found gives xs) → or_else (option_map f o) (found (λ x. option_map f (gives x)) xs) ≡ option_map f (or_else o (found gives xs))
    by None h = h
    by (Some y) h = refl
