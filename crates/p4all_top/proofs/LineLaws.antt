-- The lines of sizes and the list of them, one symbol after another.
use Rattle.std.proofs.Common.{◌≡◌, ℕ, ◌+◌, ◌<◌, ◌≤◌, List, [], ◌∷◌, ◌++◌, append-nil, append_assoc, drop, drop-cons, drop_of_length-le, length, get_or, add-one, sym, ap, ◌∙◌}
use Rattle.p4all_top.specs.Printed.{with_size, with_sizes}
use Rattle.p4all_top.specs.Unfinished.{named_sizes}

next : {A : Type 0} (xs : List A) (i : ℕ) (d : A) → i < length xs → drop i xs ≡ get_or xs i d ∷ drop (i + 1) xs
next xs i d h = drop-cons xs i d h ∙ ap (λ k. get_or xs i d ∷ drop k xs) (sym (add-one i))

pub with_step : (text new : List ℕ) (symbols : List (List ℕ)) (sizes : List ℕ) (i : ℕ) (symbol : List ℕ) (whole : List ℕ) → i < length symbols → i < length sizes → symbol ≡ get_or symbols i symbol → new ≡ with_size text symbol (get_or sizes i 0)
    → with_sizes text (drop i symbols) (drop i sizes) ≡ whole → with_sizes new (drop (i + 1) symbols) (drop (i + 1) sizes) ≡ whole
unfolding with_sizes
with_step text new symbols sizes i symbol whole h k e n inv =
    ap (λ t. with_sizes t (drop (i + 1) symbols) (drop (i + 1) sizes)) n
    ∙ sym (ap (λ z. with_sizes text z (drop i sizes)) (next symbols i symbol h ∙ ap (λ z. z ∷ drop (i + 1) symbols) (sym e)) ∙ ap (λ z. with_sizes text (symbol ∷ drop (i + 1) symbols) z) (next sizes i 0 k)) ∙ inv

pub with_all : (text : List ℕ) (symbols : List (List ℕ)) (sizes : List ℕ) (i : ℕ) (whole : List ℕ) → length symbols ≤ i → with_sizes text (drop i symbols) (drop i sizes) ≡ whole → text ≡ whole
unfolding with_sizes
with_all text symbols sizes i whole h inv = ap (λ z. with_sizes text z (drop i sizes)) (sym (drop_of_length-le symbols h)) ∙ inv

pub named_step : (new named : List (List ℕ × ℕ)) (symbols : List (List ℕ)) (sizes : List ℕ) (i : ℕ) (symbol name : List ℕ) (whole : List (List ℕ × ℕ)) → i < length symbols → i < length sizes → symbol ≡ get_or symbols i symbol → name ≡ symbol
    → new ≡ named ++ (name, get_or sizes i 0) ∷ [] → named ++ named_sizes (drop i symbols) (drop i sizes) ≡ whole → new ++ named_sizes (drop (i + 1) symbols) (drop (i + 1) sizes) ≡ whole
unfolding named_sizes
named_step new named symbols sizes i symbol name whole h k e same n inv =
    let rest : List (List ℕ × ℕ) = named_sizes (drop (i + 1) symbols) (drop (i + 1) sizes) in
    ap (λ (z : List (List ℕ × ℕ)). z ++ rest) n
    ∙ append_assoc named ((name, get_or sizes i 0) ∷ []) rest
    ∙ ap (λ (z : List ℕ). named ++ (z, get_or sizes i 0) ∷ rest) same
    ∙ sym (ap (λ (z : List (List ℕ)). named ++ named_sizes z (drop i sizes)) (next symbols i symbol h ∙ ap (λ z. z ∷ drop (i + 1) symbols) (sym e)) ∙ ap (λ (z : List ℕ). named ++ named_sizes (symbol ∷ drop (i + 1) symbols) z) (next sizes i 0 k))
    ∙ inv

pub named_all : (named : List (List ℕ × ℕ)) (symbols : List (List ℕ)) (sizes : List ℕ) (i : ℕ) (whole : List (List ℕ × ℕ)) → length symbols ≤ i → named ++ named_sizes (drop i symbols) (drop i sizes) ≡ whole → named ≡ whole
unfolding named_sizes
named_all named symbols sizes i whole h inv =
    sym (append-nil named) ∙ ap (λ (z : List (List ℕ)). named ++ named_sizes z (drop i sizes)) (sym (drop_of_length-le symbols h)) ∙ inv
