-- Columns that are built row by row.
use Rattle.std.proofs.Common.{◌≡◌, ℕ, zero, suc, ◌+◌, ◌<◌, Bool, true, false, cond, List, [], ◌∷◌, ◌++◌, length, get_or, set, nat_eq, arith, refl, sym, ap, ◌∙◌, append_assoc}
use Rattle.std.proofs.lemmas.Bool.{eqb-true}
use Rattle.std.proofs.lemmas.Bool.Decides.{nat_tests}
use Rattle.std.proofs.lemmas.List.{append-nil, get_or-set_same, get_or-set_other, length-append, length-set}
use Rattle.std.specs.Prelude.{Result, Ok, Err, is_ok, is_err, if◌then◌else◌}
use Rattle.int_program.specs.declared.program.Part.{Part}
use Rattle.int_program.specs.declared.program.Row.{Row}
use Rattle.branch_bound.specs.declared.columns.Entry.{Entry}
use Rattle.branch_bound.specs.Columns.{entry_of, entries_of, column_of, HaveRow, AreColumnsOf, AreEmpty}

differ : (a b : ℕ) → nat_eq a b ≡ false → a ≡ b → ⊥
differ a b no_eq eq = grind (arith, nat_tests)

entries_more : (v row : ℕ) (xs ys : List Part) → entries_of v row (xs ++ ys) ≡ entries_of v row xs ++ entries_of v row ys
entries_more v row [] ys = refl
entries_more v row (x ∷ xs) ys = by (nat_eq x.var v) (entries_more v row xs ys)
  where
    by : (t : Bool) → entries_of v row (xs ++ ys) ≡ entries_of v row xs ++ entries_of v row ys → cond t (entry_of row x ∷ entries_of v row (xs ++ ys)) (entries_of v row (xs ++ ys)) ≡ cond t (entry_of row x ∷ entries_of v row xs) (entries_of v row xs) ++ entries_of v row ys
    by true rest = ap (λ es. entry_of row x ∷ es) rest
    by false rest = rest

column_more : (v first : ℕ) (xs : List Row) (row : Row) → column_of v first (xs ++ row ∷ []) ≡ column_of v first xs ++ entries_of v (first + length xs) row.parts
column_more v first [] row = append-nil (entries_of v first row.parts) ∙ ap (λ k. entries_of v k row.parts) (omega arith)
column_more v first (x ∷ xs) row =
    ap (λ es. entries_of v first x.parts ++ es) (column_more v (suc first) xs row ∙ ap (λ k. column_of v (suc first) xs ++ entries_of v k row.parts) (omega arith))
    ∙ sym (append_assoc (entries_of v first x.parts) (column_of v (suc first) xs) (entries_of v (first + length (x ∷ xs)) row.parts))

-- no part is read
pub no_parts : (row : ℕ) (lists : List (List Entry)) → HaveRow row [] lists lists
no_parts row lists = record { count = refl; each = λ v l. sym (append-nil (get_or lists v [])) }

-- one more part
pub part_pushed : (row : ℕ) (ps : List Part) (p : Part) (first before after : List (List Entry)) → p.var < length first → HaveRow row ps first before
    → after ≡ set before p.var (get_or before p.var [] ++ entry_of row p ∷ []) → HaveRow row (ps ++ p ∷ []) first after
part_pushed row ps p first before after in_lists have is = record {
  count = ap length is ∙ length-set before p.var (get_or before p.var [] ++ entry_of row p ∷ []) ∙ have.count;
  each = λ v l. by v l (nat_eq p.var v) refl;
}
  where
    pushed : List Entry
    pushed = get_or before p.var [] ++ entry_of row p ∷ []

    split : (v : ℕ) (t : Bool) → nat_eq p.var v ≡ t → get_or first v [] ++ entries_of v row (ps ++ p ∷ []) ≡ (get_or first v [] ++ entries_of v row ps) ++ cond t (entry_of row p ∷ []) []
    split v t e =
        ap (λ es. get_or first v [] ++ es) (entries_more v row ps (p ∷ []) ∙ ap (λ b. entries_of v row ps ++ cond b (entry_of row p ∷ []) []) e)
        ∙ sym (append_assoc (get_or first v []) (entries_of v row ps) (cond t (entry_of row p ∷ []) []))

    by : (v : ℕ) → v < length first → (t : Bool) → nat_eq p.var v ≡ t → get_or after v [] ≡ get_or first v [] ++ entries_of v row (ps ++ p ∷ [])
    by v l true e =
        ap (λ lists. get_or lists v []) is
        ∙ ap (λ w. get_or (set before p.var pushed) w []) (sym (eqb-true p.var v e))
        ∙ get_or-set_same before p.var pushed [] (omega (arith, in_lists, have.count))
        ∙ ap (λ w. get_or before w [] ++ entry_of row p ∷ []) (eqb-true p.var v e)
        ∙ ap (λ es. es ++ entry_of row p ∷ []) (have.each v l)
        ∙ sym (split v true e)
    by v l false e =
        ap (λ lists. get_or lists v []) is
        ∙ get_or-set_other before p.var v pushed [] (λ same. differ p.var v e (sym same))
        ∙ have.each v l
        ∙ sym (append-nil (get_or first v [] ++ entries_of v row ps))
        ∙ sym (split v false e)

-- no row is read
pub no_rows : (n : ℕ) (columns : List (List Entry)) → AreEmpty n columns → AreColumnsOf n [] columns
no_rows n columns is = record { as_many = is.as_many; each = λ v l. is.none v }

-- one more row
pub row_pushed : (n : ℕ) (rows : List Row) (row : Row) (before after : List (List Entry)) → AreColumnsOf n rows before → HaveRow (length rows) row.parts before after → AreColumnsOf n (rows ++ row ∷ []) after
row_pushed n rows row before after is have = record {
  as_many = have.count ∙ is.as_many;
  each = λ v l. have.each v (omega (arith, l, is.as_many)) ∙ ap (λ es. es ++ entries_of v (length rows) row.parts) (is.each v l) ∙ ap (λ k. column_of v 0 rows ++ entries_of v k row.parts) from_zero ∙ sym (column_more v 0 rows row);
}
  where
    from_zero : length rows ≡ 0 + length rows
    from_zero = omega arith

pub when_ok : {T E : Type 0} {X : Type 0} (r : Result T E) (new more old : X) → false ≡ is_err r → new ≡ (if is_ok r then more else old) → new ≡ more
when_ok (Ok x) new more old h e = e
when_ok (Err x) new more old h e = cc

pub empty_push : (count : ℕ) (lists new : List (List Entry)) → AreEmpty count lists → new ≡ lists ++ [] ∷ [] → AreEmpty (count + 1) new
empty_push count lists new h is = record {
  as_many = ap length is ∙ length-append lists ([] ∷ []) ∙ ap (λ n. n + 1) h.as_many;
  none = λ v. ap (λ z. get_or z v []) is ∙ still lists v h.none;
}
  where
    still : (xs : List (List Entry)) (v : ℕ) → ((k : ℕ) → get_or xs k [] ≡ []) → get_or (xs ++ [] ∷ []) v [] ≡ []
    still [] zero e = refl
    still [] (suc k) e = refl
    still (x ∷ xs) zero e = e zero
    still (x ∷ xs) (suc k) e = still xs k (λ j. e (suc j))
