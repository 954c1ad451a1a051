-- Lists with one entry for each symbol that are changed, at one place or at each.
use Rattle.std.proofs.Common.{◌≡◌, ◌≢◌, ℕ, zero, suc, ◌+◌, ◌-◌, ◌<◌, ◌≤◌, List, [], ◌∷◌, ◌++◌, take, drop, length, get_or, refl, sym, ap, ◌∙◌, subst, arith, ⊎_elim, below_more, get_or-set_other, get_or-set_same}
use Rattle.std.specs.Prelude.{replicate}
use Rattle.std.proofs.Math.ListN.{set, length-set}
use Rattle.std.proofs.lemmas.Bool.{cases_eq}
use Rattle.std.proofs.lemmas.List.{drop_more, get_or-replicate, length-replicate}
use Rattle.unroll_bound.specs.SymbolLists.{IsListOf, Changes}

pub in_range : {A : Type 0} (xs : List A) (k : ℕ) (a b : A) → k < length xs → get_or xs k a ≡ get_or xs k b
in_range [] k a b h = absurd (omega arith)
in_range (x ∷ xs) zero a b h = refl
in_range (x ∷ xs) (suc k) a b h = in_range xs k a b (omega arith)

-- the entries below a number are changed, and the others aren't
pub record ChangedBelow {A : Type 0} (made : ℕ → A → A) (old new : List A) (count : ℕ) : Type 0 where
  pub below : (symbol : ℕ) → symbol < count → (other : A) → get_or new symbol other ≡ made symbol (get_or old symbol other)
  pub above : (symbol : ℕ) (other : A) → count ≤ symbol → get_or new symbol other ≡ get_or old symbol other

pub none_changed : {A : Type 0} (made : ℕ → A → A) (old : List A) → ChangedBelow made old old 0
none_changed made old = record { below = λ symbol h. absurd (omega arith); above = λ symbol other h. refl }

pub change_more : {A : Type 0} (made : ℕ → A → A) (old new : List A) (count : ℕ) (value other : A) → length new ≡ length old → count < length new → value ≡ made count (get_or new count other) → ChangedBelow made old new count → ChangedBelow made old (set new count value) (count + 1)
change_more {A} made old new count value other dense h e before = record {
  below = below_more _ _ (λ symbol l some. get_or-set_other new count symbol value some (let ne : symbol ≢ count = omega arith in ne) ∙ before.below symbol l some)
      (λ some. get_or-set_same new count value some h ∙ e ∙ ap (made count) (before.above count other (omega arith) ∙ in_range old count other some (omega (arith, h, dense))));
  above = λ symbol some l. get_or-set_other new count symbol value some (let ne : symbol ≢ count = omega arith in ne) ∙ before.above symbol some (omega arith);
}

pub all_changed : {A : Type 0} (made : ℕ → A → A) (old new : List A) (count : ℕ) → length new ≡ length old → length old ≤ count → ChangedBelow made old new count → Changes made old new
all_changed made old new count dense h before = record { dense = dense; each = λ symbol other l. before.below symbol (omega arith) other }

-- one entry
pub one_changed : {A : Type 0} (made : ℕ → A → A) (old : List A) (at : ℕ) (value other : A) → at < length old → value ≡ made at (get_or old at other) → ((symbol : ℕ) (entry : A) → symbol ≢ at → made symbol entry ≡ entry) → Changes made old (set old at value)
one_changed {A} made old at value other h e apart = record {
  dense = length-set old at value;
  each = λ symbol some l. ⊎_elim (here symbol some) (there symbol some) (cases_eq symbol at);
}
  where
    here : (symbol : ℕ) (some : A) → symbol ≡ at → get_or (set old at value) symbol some ≡ made symbol (get_or old symbol some)
    here symbol some q =
        ap (λ k. get_or (set old at value) k some) q ∙ get_or-set_same old at value some h ∙ e ∙ ap (made at) (in_range old at other some h) ∙ sym (ap (λ k. made k (get_or old k some)) q)

    there : (symbol : ℕ) (some : A) → symbol ≢ at → get_or (set old at value) symbol some ≡ made symbol (get_or old symbol some)
    there symbol some ne = get_or-set_other old at symbol value some ne ∙ sym (apart symbol (get_or old symbol some) ne)

pub unchanged : {A : Type 0} (made : ℕ → A → A) (old : List A) → ((symbol : ℕ) (entry : A) → made symbol entry ≡ entry) → Changes made old old
unchanged made old h = record { dense = refl; each = λ symbol other l. sym (h symbol (get_or old symbol other)) }

-- the entries that were of something are of what is made of it
pub list_changed : {A : Type 0} (symbols : ℕ) (made : ℕ → A → A) (of then : ℕ → A) (old new : List A) → IsListOf symbols of old → Changes made old new → ((symbol : ℕ) → made symbol (of symbol) ≡ then symbol) → IsListOf symbols then new
list_changed symbols made of then old new list changes e = record {
  dense = changes.dense ∙ list.dense;
  each = λ symbol other h. changes.each symbol other (let d = list.dense in omega (arith, d, h)) ∙ ap (made symbol) (list.each symbol other h) ∙ e symbol;
}

pub all_alike : {A : Type 0} (symbols : ℕ) (of : ℕ → A) (value : A) → ((symbol : ℕ) → value ≡ of symbol) → IsListOf symbols of (replicate symbols value)
all_alike symbols of value e = record {
  dense = length-replicate symbols value;
  each = λ symbol other h. get_or-replicate symbols symbol value other h ∙ e symbol;
}

pub made_alike : {A : Type 0} (made then : ℕ → A → A) (old new : List A) → ((symbol : ℕ) (entry : A) → made symbol entry ≡ then symbol entry) → Changes made old new → Changes then old new
made_alike made then old new e changes = record { dense = changes.dense; each = λ symbol other h. changes.each symbol other h ∙ e symbol (get_or old symbol other) }

-- one change after the other
pub change_both : {A : Type 0} (made after then : ℕ → A → A) (old middle new : List A) → ((symbol : ℕ) (entry : A) → after symbol (made symbol entry) ≡ then symbol entry) → Changes made old middle → Changes after middle new → Changes then old new
change_both made after then old middle new e one other = record {
  dense = other.dense ∙ one.dense;
  each = λ symbol some h. other.each symbol some (let d = one.dense in omega (arith, d, h)) ∙ ap (after symbol) (one.each symbol some h) ∙ e symbol (get_or old symbol some);
}

-- one element more from the end
pub drop_before : {B : Type 0} (xs : List B) (i : ℕ) (x : B) → 0 < i → i ≤ length xs → x ≡ get_or xs (i - 1) x → drop (i - 1) xs ≡ x ∷ drop i xs
drop_before xs i x h l e =
    drop_more xs (i - 1) x (omega arith) ∙ ap (λ z. z ∷ drop (i - 1 + 1) xs) (sym e) ∙ ap (λ n. x ∷ drop n xs) (let same : i - 1 + 1 ≡ i = omega arith in same)

pub walk_back : {A B : Type 0} (symbols : ℕ) (of : List B → ℕ → A) (made : B → ℕ → A → A) → ((x : B) (xs : List B) (symbol : ℕ) → made x symbol (of xs symbol) ≡ of (x ∷ xs) symbol)
    → (xs : List B) (i : ℕ) (x : B) (old new : List A) → 0 < i → i ≤ length xs → x ≡ get_or xs (i - 1) x → IsListOf symbols (of (drop i xs)) old → Changes (made x) old new → IsListOf symbols (of (drop (i - 1) xs)) new
walk_back symbols of made step xs i x old new h l e list changes =
    subst (λ z. IsListOf symbols (of z) new) (sym (drop_before xs i x h l e)) (list_changed symbols (made x) (of (drop i xs)) (of (x ∷ drop i xs)) old new list changes (step x (drop i xs)))

-- before the first step nothing stands behind, and after the last one the whole does
pub none_behind : {A B : Type 0} (symbols : ℕ) (of : List B → ℕ → A) (xs : List B) (list : List A) → IsListOf symbols (of []) list → IsListOf symbols (of (drop (length xs) xs)) list
none_behind symbols of xs list h = subst (λ z. IsListOf symbols (of z) list) (sym (past xs)) h
  where
    past : {B : Type 0} (xs : List B) → drop (length xs) xs ≡ []
    past [] = refl
    past (x ∷ xs) = past xs

pub none_left : {A B : Type 0} (symbols : ℕ) (of : List B → ℕ → A) (xs : List B) (i : ℕ) (list : List A) → i ≡ 0 → IsListOf symbols (of (drop i xs)) list → IsListOf symbols (of xs) list
none_left symbols of xs i list e h = subst (λ n. IsListOf symbols (of (drop n xs)) list) e h

-- a list in front of what is left of another
pub take_front : {A : Type 0} (xs ys : List A) (n : ℕ) → n ≡ length xs → take n (xs ++ ys) ≡ xs
take_front [] ys zero e = refl
take_front [] ys (suc n) e = absurd (omega (arith, e))
take_front (x ∷ xs) ys zero e = absurd (omega (arith, e))
take_front (x ∷ xs) ys (suc n) e = ap (λ z. x ∷ z) (take_front xs ys n (omega (arith, e)))
