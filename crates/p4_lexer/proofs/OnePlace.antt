-- A list of words without doubles has each word at one place.
use Rattle.std.proofs.Common.{◌≡◌, ◌∙◌, ℕ, suc, Bool, true, List, [], ◌∷◌, ◌++◌, length, refl, ap, sym, subst}
use Rattle.std.specs.Prelude.{not, ◌&&◌}
use Rattle.std.specs.List.{list_all}
use Rattle.std.specs.Str.{bytes_eq}
use Rattle.std.proofs.lemmas.Slice.Eq.{bytes_eq-Decides}
use Rattle.std.proofs.lemmas.Bool.{false≢true, and_parts}
use Rattle.case_table.specs.Rows.{IsWordAt}

-- no word stands twice
unfoldable pub are_distinct : List (List ℕ) → Bool
are_distinct [] = true
are_distinct (word ∷ words) = list_all (λ other. not (bytes_eq word other)) words && are_distinct words

differs : (word other : List ℕ) → word ≡ other → not (bytes_eq word other) ≡ true → ⊥
differs word other same other_is =
    let is : bytes_eq word other ≡ true = (bytes_eq-Decides word other).1 same in
    let P : Bool → Type 0 = λ b. not b ≡ true in
    false≢true (subst P is other_is)

not_behind : (word : List ℕ) (before after : List (List ℕ)) → list_all (λ other. not (bytes_eq word other)) (before ++ word ∷ after) ≡ true → ⊥
not_behind word [] after all =
    differs word word refl (and_parts (not (bytes_eq word word)) (list_all (λ other. not (bytes_eq word other)) after) all).0
not_behind word (first ∷ before) after all =
    not_behind word before after
    (and_parts (not (bytes_eq word first)) (list_all (λ other. not (bytes_eq word other)) (before ++ word ∷ after)) all).1

one_before : (word : List ℕ) (before after other behind : List (List ℕ)) → are_distinct (before ++ word ∷ after) ≡ true
    → before ++ word ∷ after ≡ other ++ word ∷ behind → length before ≡ length other
unfolding are_distinct
one_before word [] after [] behind distinct same = refl
one_before word [] after (first ∷ other) behind distinct same =
    let rest : after ≡ other ++ word ∷ behind = cc same in
    let P : List (List ℕ) → Type 0 = λ words. list_all (λ each. not (bytes_eq word each)) words ≡ true in
    absurd (not_behind word other behind (subst P rest (and_parts (list_all (λ each. not (bytes_eq word each)) after) (are_distinct after) distinct).0))
one_before word (first ∷ before) after [] behind distinct same =
    let here : first ≡ word = cc same in
    let P : List ℕ → Type 0 = λ each. list_all (λ other. not (bytes_eq each other)) (before ++ word ∷ after) ≡ true in
    absurd (not_behind word before after
    (subst P here (and_parts (list_all (λ other. not (bytes_eq first other)) (before ++ word ∷ after)) (are_distinct (before ++ word ∷ after)) distinct).0))
one_before word (first ∷ before) after (second ∷ other) behind distinct same =
    ap (λ n. suc n)
    (one_before word before after other behind
    (and_parts (list_all (λ each. not (bytes_eq first each)) (before ++ word ∷ after)) (are_distinct (before ++ word ∷ after)) distinct).1 (cc same))

pub one_code : (words : List (List ℕ)) (code other : ℕ) (word : List ℕ) → are_distinct words ≡ true → IsWordAt words code word
    → IsWordAt words other word → code ≡ other
one_code words code other word distinct at second =
    let P : List (List ℕ) → Type 0 = λ list. are_distinct list ≡ true in
    at.code_is
    ∙ one_before word at.before at.after second.before second.after (subst P at.place distinct) (sym at.place ∙ second.place)
    ∙ sym second.code_is
