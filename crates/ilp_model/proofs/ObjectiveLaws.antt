-- The objective is the utility.
use Rattle.std.proofs.Common.{◌≡◌, ℕ, ℤ, zero, suc, pos, ◌+◌, ◌-◌, ◌*◌, ◌<◌, ◌≤◌, ◌+ℤ◌, ◌-ℤ◌, ◌*ℤ◌, Bool, true, false, cond, List, [], ◌∷◌, map, length, refl, sym, ap, ◌∙◌, subst, arith, ⊎_elim}
use Rattle.std.specs.Prelude.{nat_le}
use Rattle.std.specs.List.{AllByRecursion}
use Rattle.std.proofs.lemmas.Int.{ints}
use Rattle.std.proofs.lemmas.Bool.{cases_lt}
use Rattle.std.proofs.lemmas.Bool.Decides.{nat_tests}
use Rattle.std.proofs.lemmas.List.{map-append}
use Rattle.elastic_ast.specs.declared.flat.Steps.{Steps}
use Rattle.elastic_ast.specs.declared.flat.Terms.{Terms}
use Rattle.elastic_ast.specs.Meaning.Values.{bit}
use Rattle.elastic_ast.specs.Sizes.SizeSums.{negated_if, step_value}
use Rattle.unit_flow.specs.SoundUnits.{RiseAbove, IsStepTable}
use Rattle.ilp_model.specs.StepKeys.{StepKey, keys_after, keys_of_pairs, keys_from, step_keys}
use Rattle.ilp_model.specs.Variables.{Variable}
use Rattle.ilp_model.specs.Variables.Variable.{Size, Reached}
use Rattle.ilp_model.specs.NamedRows.{NamedPart, part, sum_of}
use Rattle.ilp_model.specs.Rows.{size_parts}
use Rattle.ilp_model.specs.Objective.{rise_of, objective, first_value, first_values, constant}
use Rattle.ilp_model.proofs.Valuations.{IsKey}
use Rattle.ilp_model.proofs.Sums.{all_left, all_right, sum_of-append}
use Rattle.unroll_bound.proofs.Totals.{each_append}
use Rattle.ilp_model.proofs.Groups.{Keyed}
use Rattle.ilp_model.proofs.NineGroups.{sizes_worth, sum_of_sizes}

-- what step tables and the utility are worth, where each symbol has a size
abbrev pub signed : Bool → ℕ → ℤ
signed minus value = negated_if minus (pos value)

abbrev pub table_at : Steps → (ℕ → ℕ) → ℤ
table_at t z = signed t.minus (step_value (z t.symbol) 0 t.pairs)

abbrev pub tables_at : List Steps → (ℕ → ℕ) → ℤ
tables_at [] z = pos 0
tables_at (t ∷ ts) z = table_at t z +ℤ tables_at ts z

abbrev pub utility_at : Terms → (ℕ → ℕ) → ℤ
utility_at terms z = terms.base +ℤ sizes_worth terms.by z 0 +ℤ tables_at terms.steps z

abbrev pub IsReached : (Variable → ℕ) → StepKey → Type 0
IsReached n j = n (Reached j) ≡ bit (nat_le j.key (n (Size j.symbol)))

abbrev pub key_part : StepKey → NamedPart
key_part j = part (rise_of j) (Reached j)

le_no : (k z : ℕ) → z < k → nat_le k z ≡ false
le_no k z h = grind (arith, nat_tests)

le_yes : (k z : ℕ) → k ≤ z → nat_le k z ≡ true
le_yes k z h = grind (arith, nat_tests)

-- keys above the size change nothing
none_above : (n : Variable → ℕ) (b : ℕ → ℕ) (m : Bool) (s j v k : ℕ) (ps : List (ℕ × ℕ)) → RiseAbove k ps → n (Size s) ≤ k → AllByRecursion (IsReached n) (keys_after b m s j v ps) → sum_of (map key_part (keys_after b m s j v ps)) n ≡ pos 0
none_above n b m s j v k [] r h a = refl
none_above n b m s j v k (p ∷ ps) r h a = go (nat_le p.0 (b s)) a (λ i q. none_above n b m s i p.1 p.0 ps r.1 (omega (arith, r.0)) q)
  where
    zero_term : (c w : ℤ) (y : ℕ) → y ≡ 0 → w ≡ pos 0 → c *ℤ pos y +ℤ w ≡ pos 0
    zero_term c w y e d = rw e (omega (arith, ints, d))

    go : (t : Bool) → AllByRecursion (IsReached n) (cond t (record { place = j; minus = m; symbol = s; key = p.0; value = p.1; before = v } ∷ keys_after b m s (j + 1) p.1 ps) (keys_after b m s j p.1 ps)) → ((i : ℕ) → AllByRecursion (IsReached n) (keys_after b m s i p.1 ps) → sum_of (map key_part (keys_after b m s i p.1 ps)) n ≡ pos 0) → sum_of (map key_part (cond t (record { place = j; minus = m; symbol = s; key = p.0; value = p.1; before = v } ∷ keys_after b m s (j + 1) p.1 ps) (keys_after b m s j p.1 ps))) n ≡ pos 0
    go true a ih = zero_term _ _ _ (a.0 ∙ ap bit (le_no p.0 (n (Size s)) (omega (arith, r.0)))) (ih (j + 1) a.1)
    go false a ih = ih j a

step_stays : (v k z : ℕ) (ps : List (ℕ × ℕ)) → RiseAbove k ps → z ≤ k → step_value z v ps ≡ v
step_stays v k z [] r h = refl
step_stays v k z (p ∷ ps) r h = ap (λ t. step_value z (cond t p.1 v) ps) (le_no p.0 z (omega (arith, r.0))) ∙ step_stays v p.0 z ps r.1 (omega (arith, r.0))

-- the value at a size, by differences
table_sum : (n : Variable → ℕ) (b : ℕ → ℕ) (m : Bool) (s j v k : ℕ) (ps : List (ℕ × ℕ)) → RiseAbove k ps → n (Size s) ≤ b s → AllByRecursion (IsReached n) (keys_after b m s j v ps) → signed m v +ℤ sum_of (map key_part (keys_after b m s j v ps)) n ≡ signed m (step_value (n (Size s)) v ps)
table_sum n b m s j v k [] r h a = plus_none (signed m v)
  where
    plus_none : (c : ℤ) → c +ℤ pos 0 ≡ c
    plus_none c = omega (arith, ints)
table_sum n b m s j v k (p ∷ ps) r h a = ⊎_elim above (λ le. below le (λ q. table_sum n b m s (j + 1) p.1 p.0 ps r.1 h q)) (cases_lt (n (Size s)) p.0)
  where
    above : n (Size s) < p.0 → signed m v +ℤ sum_of (map key_part (keys_after b m s j v (p ∷ ps))) n ≡ signed m (step_value (n (Size s)) v (p ∷ ps))
    above lt =
        let e = none_above n b m s j v (n (Size s)) (p ∷ ps) (lt, r.1) (omega arith) a in
        let d = step_stays v (n (Size s)) (n (Size s)) (p ∷ ps) (lt, r.1) (omega arith) in
        plus_zero (signed m v) _ e ∙ sym (ap (signed m) d)
      where
        plus_zero : (c w : ℤ) → w ≡ pos 0 → c +ℤ w ≡ c
        plus_zero c w e = omega (arith, ints, e)

    now : StepKey
    now = record { place = j; minus = m; symbol = s; key = p.0; value = p.1; before = v }

    after : List StepKey
    after = keys_after b m s (j + 1) p.1 ps

    one_step : (c d w t : ℤ) (y : ℕ) → y ≡ 1 → d +ℤ w ≡ t → c +ℤ ((d -ℤ c) *ℤ pos y +ℤ w) ≡ t
    one_step c d w t y e g = rw e (omega (arith, ints, g))

    below : p.0 ≤ n (Size s) → (AllByRecursion (IsReached n) after → signed m p.1 +ℤ sum_of (map key_part after) n ≡ signed m (step_value (n (Size s)) p.1 ps)) → signed m v +ℤ sum_of (map key_part (keys_after b m s j v (p ∷ ps))) n ≡ signed m (step_value (n (Size s)) v (p ∷ ps))
    below le ih =
        let e = le_yes p.0 (b s) (omega (arith, h, le)) in
        let f = le_yes p.0 (n (Size s)) le in
        let both : AllByRecursion (IsReached n) (now ∷ after) = subst (λ t. AllByRecursion (IsReached n) (cond t (now ∷ after) (keys_after b m s j p.1 ps))) e a in
        ap (λ t. signed m v +ℤ sum_of (map key_part (cond t (now ∷ after) (keys_after b m s j p.1 ps))) n) e
        ∙ one_step (signed m v) (signed m p.1) (sum_of (map key_part after) n) (signed m (step_value (n (Size s)) p.1 ps)) (n (Reached now)) (both.0 ∙ ap bit f) (ih both.1)
        ∙ sym (ap (λ t. signed m (step_value (n (Size s)) (cond t p.1 v) ps)) f)

-- over all table terms
tables_sum : (n : Variable → ℕ) (b : ℕ → ℕ) (j : ℕ) (ts : List Steps) → AllByRecursion (λ t. IsStepTable t.pairs) ts → AllByRecursion (λ t. n (Size t.symbol) ≤ b t.symbol) ts → AllByRecursion (IsReached n) (keys_from b j ts) → first_values ts +ℤ sum_of (map key_part (keys_from b j ts)) n ≡ tables_at ts (λ s. n (Size s))
tables_sum n b j [] h k a = refl
tables_sum n b j (t ∷ ts) h k a =
    let front = keys_of_pairs b t.minus t.symbol j t.pairs in
    let back = keys_from b (j + length front) ts in
    let ih = tables_sum n b (j + length front) ts h.1 k.1 (all_right (IsReached n) front back a) in
    let now = one_table t.pairs h.0 (all_left (IsReached n) front back a) in
    let e = ap (λ l. sum_of l n) (map-append key_part front back) ∙ sum_of-append (map key_part front) (map key_part back) n in
    together (signed t.minus (first_value t.pairs)) (first_values ts) _ _ _ (table_at t (λ s. n (Size s))) (tables_at ts (λ s. n (Size s))) e now ih
  where
    one_table : (ps : List (ℕ × ℕ)) → IsStepTable ps → AllByRecursion (IsReached n) (keys_of_pairs b t.minus t.symbol j ps) → signed t.minus (first_value ps) +ℤ sum_of (map key_part (keys_of_pairs b t.minus t.symbol j ps)) n ≡ signed t.minus (step_value (n (Size t.symbol)) 0 ps)
    one_table [] h a = absurd h
    one_table (p ∷ ps) h a =
        table_sum n b t.minus t.symbol j p.1 0 ps h.1 k.0 a
        ∙ sym (ap (λ v. signed t.minus (step_value (n (Size t.symbol)) (cond v p.1 0) ps)) (le_yes p.0 (n (Size t.symbol)) (omega (arith, h.0))))

    together : (f r w u v x y : ℤ) → w ≡ u +ℤ v → f +ℤ u ≡ x → r +ℤ v ≡ y → (f +ℤ r) +ℤ w ≡ x +ℤ y
    together f r w u v x y e g i = omega (arith, ints, e, g, i)

pub objective_is : (terms : Terms) (n : Variable → ℕ) (b : ℕ → ℕ) → AllByRecursion (λ t. IsStepTable t.pairs) terms.steps → AllByRecursion (λ t. n (Size t.symbol) ≤ b t.symbol) terms.steps → AllByRecursion (IsReached n) (step_keys terms b) → sum_of (objective terms b) n +ℤ constant terms ≡ utility_at terms (λ s. n (Size s))
objective_is terms n b h k a =
    let e = sum_of-append (size_parts 0 terms.by) (map key_part (step_keys terms b)) n in
    let d = sum_of_sizes terms.by 0 n (λ s. n (Size s)) (λ s. refl) in
    together _ _ _ (sizes_worth terms.by (λ s. n (Size s)) 0) terms.base (first_values terms.steps) (tables_at terms.steps (λ s. n (Size s))) e d (tables_sum n b 0 terms.steps h k a)
  where
    together : (w u v x c r y : ℤ) → w ≡ u +ℤ v → u ≡ x → r +ℤ v ≡ y → w +ℤ (c +ℤ r) ≡ (c +ℤ x) +ℤ y
    together w u v x c r y e g i = omega (arith, ints, e, g, i)

-- a key's variable tells whether the size has reached it
pub reached_is : (b : ℕ → ℕ) (n : Variable → ℕ) (j : StepKey) → n (Reached j) ≤ 1 → Keyed b n j → IsReached n j
reached_is b n j once k = go (n (Reached j)) refl once
  where
    go : (y : ℕ) → n (Reached j) ≡ y → y ≤ 1 → y ≡ bit (nat_le j.key (n (Size j.symbol)))
    go zero e o = let h = k.high in let w = ap (λ y. (b j.symbol - j.key + 1) * y) e in sym (ap bit (le_no j.key (n (Size j.symbol)) (omega (arith, h, w))))
    go (suc y) e o =
        let h = k.low in
        let z : y ≡ 0 = omega (arith, o) in
        let f : n (Reached j) ≡ 1 = e ∙ ap (λ y. suc y) z in
        let w = ap (λ y. j.key * y) f in
        ap (λ y. suc y) z ∙ sym (ap bit (le_yes j.key (n (Size j.symbol)) (omega (arith, h, w))))

-- keys are from 1 to the bound
after_keys : (b : ℕ → ℕ) (m : Bool) (s j v k : ℕ) (ps : List (ℕ × ℕ)) → RiseAbove k ps → AllByRecursion (IsKey b) (keys_after b m s j v ps)
after_keys b m s j v k [] r = tt
after_keys b m s j v k (p ∷ ps) r = go (nat_le p.0 (b s)) refl (λ i. after_keys b m s i p.1 p.0 ps r.1)
  where
    go : (t : Bool) → nat_le p.0 (b s) ≡ t → ((i : ℕ) → AllByRecursion (IsKey b) (keys_after b m s i p.1 ps)) → AllByRecursion (IsKey b) (cond t (record { place = j; minus = m; symbol = s; key = p.0; value = p.1; before = v } ∷ keys_after b m s (j + 1) p.1 ps) (keys_after b m s j p.1 ps))
    go true e ih = ((omega (arith, r.0), le p.0 (b s) e), ih (j + 1))
      where
        le : (x y : ℕ) → nat_le x y ≡ true → x ≤ y
        le x y h = grind (arith, nat_tests)
    go false e ih = ih j

pub keys_are : (b : ℕ → ℕ) (j : ℕ) (ts : List Steps) → AllByRecursion (λ t. IsStepTable t.pairs) ts → AllByRecursion (IsKey b) (keys_from b j ts)
keys_are b j [] h = tt
keys_are b j (t ∷ ts) h = each_append (IsKey b) (keys_of_pairs b t.minus t.symbol j t.pairs) (keys_from b (j + length (keys_of_pairs b t.minus t.symbol j t.pairs)) ts) (of_pairs t.pairs h.0) (keys_are b (j + length (keys_of_pairs b t.minus t.symbol j t.pairs)) ts h.1)
  where
    of_pairs : (ps : List (ℕ × ℕ)) → IsStepTable ps → AllByRecursion (IsKey b) (keys_of_pairs b t.minus t.symbol j ps)
    of_pairs [] h = absurd h
    of_pairs (p ∷ ps) h = after_keys b t.minus t.symbol j p.1 0 ps h.1
