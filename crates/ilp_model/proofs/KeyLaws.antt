-- The keys of step tables that are listed one by one.
use Rattle.std.proofs.Common.{◌≡◌, ℕ, ◌+◌, ◌<◌, Bool, true, false, cond, List, [], ◌∷◌, ◌++◌, length, drop, get_or, refl, sym, ap, ◌∙◌, append_assoc, arith}
use Rattle.std.specs.Prelude.{nat_le}
use Rattle.std.proofs.lemmas.List.{length-append, length-map, append-nil, drop_more}
use Rattle.elastic_ast.specs.declared.flat.Steps.{Steps}
use Rattle.ilp_model.specs.declared.step_keys.ReachedKey.{ReachedKey}
use Rattle.ilp_model.specs.StepKeys.{StepKey, keys_after, keys_of_pairs, keys_of_table, keys_from}
use Rattle.ilp_model.specs.SeenKeys.{seen_key, seen_keys}

-- as many are listed as are seen
listed_more : (old new : List ReachedKey) (more : List StepKey) → seen_keys new ≡ seen_keys old ++ more → length new ≡ length old + length more
listed_more old new more h = omega (arith, length-map new seen_key, length-map old seen_key, length-append (seen_keys old) more, ap length h)

pub key_step : (b : ℕ → ℕ) (m : Bool) (s before : ℕ) (pair : ℕ × ℕ) (pairs : List (ℕ × ℕ)) (old new : List ReachedKey)
    → seen_keys new ≡ seen_keys old ++ keys_after b m s (length old) before (pair ∷ [])
    → seen_keys new ++ keys_after b m s (length new) pair.1 pairs ≡ seen_keys old ++ keys_after b m s (length old) before (pair ∷ pairs)
key_step b m s before pair pairs old new h =
    go (nat_le pair.0 (b s)) h
  where
    go : (t : Bool) → seen_keys new ≡ seen_keys old ++ cond t (record { place = length old; minus = m; symbol = s; key = pair.0; value = pair.1; before = before } ∷ []) []
        → seen_keys new ++ keys_after b m s (length new) pair.1 pairs
        ≡ seen_keys old ++ cond t (record { place = length old; minus = m; symbol = s; key = pair.0; value = pair.1; before = before } ∷ keys_after b m s (length old + 1) pair.1 pairs) (keys_after b m s (length old) pair.1 pairs)
    go true h =
        let n : length new ≡ length old + 1 = listed_more old new (record { place = length old; minus = m; symbol = s; key = pair.0; value = pair.1; before = before } ∷ []) h in
        ap (λ z. seen_keys new ++ keys_after b m s z pair.1 pairs) n
        ∙ ap (λ z. z ++ keys_after b m s (length old + 1) pair.1 pairs) h
        ∙ append_assoc (seen_keys old) (record { place = length old; minus = m; symbol = s; key = pair.0; value = pair.1; before = before } ∷ []) (keys_after b m s (length old + 1) pair.1 pairs)
    go false h =
        let n : length new ≡ length old = let e = listed_more old new [] h in omega (arith, e) in
        ap (λ z. seen_keys new ++ keys_after b m s z pair.1 pairs) n
        ∙ ap (λ z. z ++ keys_after b m s (length old) pair.1 pairs) (h ∙ append-nil (seen_keys old))

-- a key's bound is all that the bounds are asked
after_bound : (b : ℕ → ℕ) (m : Bool) (s place before : ℕ) (pairs : List (ℕ × ℕ)) → keys_after (λ symbol. b s) m s place before pairs ≡ keys_after b m s place before pairs
after_bound b m s place before [] = refl
after_bound b m s place before (pair ∷ pairs) = go (nat_le pair.0 (b s)) (after_bound b m s (place + 1) pair.1 pairs) (after_bound b m s place pair.1 pairs)
  where
    go : (t : Bool) → keys_after (λ symbol. b s) m s (place + 1) pair.1 pairs ≡ keys_after b m s (place + 1) pair.1 pairs
        → keys_after (λ symbol. b s) m s place pair.1 pairs ≡ keys_after b m s place pair.1 pairs
        → cond t (record { place = place; minus = m; symbol = s; key = pair.0; value = pair.1; before = before } ∷ keys_after (λ symbol. b s) m s (place + 1) pair.1 pairs) (keys_after (λ symbol. b s) m s place pair.1 pairs)
        ≡ cond t (record { place = place; minus = m; symbol = s; key = pair.0; value = pair.1; before = before } ∷ keys_after b m s (place + 1) pair.1 pairs) (keys_after b m s place pair.1 pairs)
    go true more same = ap (λ z. record { place = place; minus = m; symbol = s; key = pair.0; value = pair.1; before = before } ∷ z) more
    go false more same = same

pairs_bound : (b : ℕ → ℕ) (m : Bool) (s place : ℕ) (pairs : List (ℕ × ℕ)) → keys_of_pairs (λ symbol. b s) m s place pairs ≡ keys_of_pairs b m s place pairs
pairs_bound b m s place [] = refl
pairs_bound b m s place (pair ∷ pairs) = after_bound b m s place pair.1 pairs

table_step : (b : ℕ → ℕ) (table : Steps) (tables : List Steps) (old new : List ReachedKey)
    → seen_keys new ≡ seen_keys old ++ keys_of_table (λ symbol. b table.symbol) (length old) table
    → seen_keys new ++ keys_from b (length new) tables ≡ seen_keys old ++ keys_from b (length old) (table ∷ tables)
table_step b table tables old new h =
    let e : seen_keys new ≡ seen_keys old ++ keys_of_table b (length old) table = h ∙ ap (λ z. seen_keys old ++ z) (pairs_bound b table.minus table.symbol (length old) table.pairs) in
    ap (λ z. seen_keys new ++ keys_from b z tables) (listed_more old new (keys_of_table b (length old) table) e)
    ∙ ap (λ z. z ++ keys_from b (length old + length (keys_of_table b (length old) table)) tables) e
    ∙ append_assoc (seen_keys old) (keys_of_table b (length old) table) (keys_from b (length old + length (keys_of_table b (length old) table)) tables)

pub tables_step : (b : ℕ → ℕ) (tables : List Steps) (i : ℕ) (table : Steps) (whole : List StepKey) (old new : List ReachedKey)
    → i < length tables → table ≡ get_or tables i table
    → seen_keys new ≡ seen_keys old ++ keys_of_table (λ symbol. b table.symbol) (length old) table
    → seen_keys old ++ keys_from b (length old) (drop i tables) ≡ whole
    → seen_keys new ++ keys_from b (length new) (drop (i + 1) tables) ≡ whole
tables_step b tables i table whole old new h e added inv =
    table_step b table (drop (i + 1) tables) old new added
    ∙ sym (ap (λ z. seen_keys old ++ keys_from b (length old) z) (drop_more tables i table h ∙ ap (λ z. z ∷ drop (i + 1) tables) (sym e)))
    ∙ inv
