-- What holds of all things of a list of lists.
use Rattle.std.proofs.Common.{List, [], ◌∷◌, ◌++◌, All, flat_map}
use Rattle.std.proofs.lemmas.List.Elements.{All-append, All-cons, All-head, All-nil, All-tail}
use Rattle.spelling.proofs.ByParts.{EachFew}

pub all_front : {A : Type 0} (P : A → Type 0) (xs ys : List A) → All P (xs ++ ys) → All P xs
all_front P [] ys h = All-nil P
all_front P (x ∷ xs) ys h = All-cons P x xs (All-head P x (xs ++ ys) h) (all_front P xs ys (All-tail P x (xs ++ ys) h))

pub all_back : {A : Type 0} (P : A → Type 0) (xs ys : List A) → All P (xs ++ ys) → All P ys
all_back P [] ys h = h
all_back P (x ∷ xs) ys h = all_back P xs ys (All-tail P x (xs ++ ys) h)

-- what holds of all that the things of a list give, holds with one more thing, and of what one of them gives
all_push : {A B : Type 0} (P : B → Type 0) (of : A → List B) (xs : List A) (x : A) → All P (flat_map of xs) → All P (of x) → All P (flat_map of (xs ++ x ∷ []))
all_push P of [] x a b = All-append P (of x) [] b (All-nil P)
all_push P of (y ∷ ys) x a b =
    let front = all_front P (of y) (flat_map of ys) a in
    let back = all_back P (of y) (flat_map of ys) a in
    All-append P (of y) (flat_map of (ys ++ x ∷ [])) front (all_push P of ys x back b)

all_one : {A B : Type 0} (P : B → Type 0) (of : A → List B) (xs : List A) (one : A) (later : List A) → All P (flat_map of (xs ++ one ∷ later)) → All P (of one)
all_one P of [] one later h = all_front P (of one) (flat_map of later) h
all_one P of (x ∷ xs) one later h = all_one P of xs one later (all_back P (of x) (flat_map of (xs ++ one ∷ later)) h)

pub each_of : {A B : Type 0} (P : B → Type 0) (of : A → List B) → EachFew (λ x. All P (of x)) (λ xs. All P (flat_map of xs))
each_of P of = record { nothing = All-nil P; push = λ xs x. all_push P of xs x; next = λ xs x later. all_one P of xs x later }
