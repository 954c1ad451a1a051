-- The first numbers of loops as they are counted, and that all numbers are below the count of variables.
use Rattle.std.proofs.Common.{◌≡◌, ℕ, zero, suc, ◌+◌, ◌*◌, ◌<◌, ◌≤◌, Bool, true, false, cond, List, [], ◌∷◌, ◌++◌, length, filter, get_or, refl, sym, ap, ◌∙◌, subst, arith, ⊎_elim}
use Rattle.std.specs.Prelude.{sum_by}
use Rattle.std.proofs.lemmas.Bool.{cases_lt}
use Rattle.std.proofs.lemmas.List.{length-append, get_or_append_left, get_or-append-add}
use Rattle.std.proofs.lemmas.List.Elements.{filter-append}
use Rattle.elastic_ast.specs.Units.PlainUnits.{PlainUnit, PlainUnits}
use Rattle.elastic_ast.specs.Units.Instances.{nth_size}
use Rattle.target_desc.specs.declared.target.Target.{Target}
use Rattle.unit_flow.specs.SoundUnits.{SoundUnits}
use Rattle.unroll_bound.specs.Counts.{numbers_below, is_looped, looped_below, variable_count}
use Rattle.unroll_bound.specs.LoopUses.{loop_use}
use Rattle.unroll_bound.specs.declared.loop_uses.LoopUse.{LoopUse}
use Rattle.unroll_bound.specs.SymbolLists.{IsListOf}
use Rattle.unroll_bound.proofs.Totals.{total, sum_is_total, total-append}
use Rattle.unroll_bound.proofs.SymbolListLaws.{in_range}
use Rattle.ilp_model.specs.Variables.{past_keys, past_stages}
use Rattle.ilp_model.specs.Marks.{is_marked, marked_below, indices_below, indices_at, AreStarts}
use Rattle.ilp_model.proofs.CountLaws.{all_candidates_length, all_keys_length}
use Rattle.ilp_model.proofs.Lists.{from_all}

-- one symbol more
marked_more : (f : ℕ → ℕ) (test : ℕ → Bool) (n : ℕ)
    → sum_by f (marked_below test (suc n)) ≡ sum_by f (marked_below test n) + (cond (test n) (f n) 0)
marked_more f test n =
    ap (sum_by f) (filter-append test (numbers_below n) (n ∷ []))
    ∙ sum_is_total f (marked_below test n ++ filter test (n ∷ []))
    ∙ total-append f (marked_below test n) (filter test (n ∷ []))
    ∙ ap (λ m. m + total f (filter test (n ∷ []))) (sym (sum_is_total f (marked_below test n)))
    ∙ ap (λ m. sum_by f (marked_below test n) + m) (one (test n))
  where
    one : (v : Bool) → total f (cond v (n ∷ []) []) ≡ cond v (f n) 0
    one true = omega arith
    one false = refl

pub marked_up : (f : ℕ → ℕ) (test : ℕ → Bool) (n m : ℕ) → n ≤ m → sum_by f (marked_below test n) ≤ sum_by f (marked_below test m)
marked_up f test n zero h =
    subst (λ k. sum_by f (marked_below test k) ≤ sum_by f (marked_below test 0)) (let e : 0 ≡ n = omega arith in e) (omega arith)
marked_up f test n (suc m) h = ⊎_elim (λ l. below (marked_up f test n m (omega (arith, l)))) same (cases_lt n (suc m))
  where
    below : sum_by f (marked_below test n) ≤ sum_by f (marked_below test m)
        → sum_by f (marked_below test n) ≤ sum_by f (marked_below test (suc m))
    below k = omega (arith, k, marked_more f test m)

    same : suc m ≤ n → sum_by f (marked_below test n) ≤ sum_by f (marked_below test (suc m))
    same l =
        subst (λ k. sum_by f (marked_below test k) ≤ sum_by f (marked_below test (suc m))) (let e : suc m ≡ n = omega arith in e) (omega arith)

marked_same : (f : ℕ → ℕ) (one other : ℕ → Bool) (n : ℕ) → ((s : ℕ) → s < n → one s ≡ other s)
    → sum_by f (marked_below one n) ≡ sum_by f (marked_below other n)
marked_same f one other zero h = refl
marked_same f one other (suc n) h =
    let e = ap (λ v. cond {A = ℕ} v (f n) 0) (h n (omega arith)) in
    omega (arith, marked_more f one n, marked_more f other n, marked_same f one other n (λ s l. h s (omega (arith, l))), e)

-- the marks are those of loops
pub marks_are : (units : List PlainUnit) (uses : List LoopUse) (symbols : ℕ) → IsListOf symbols (loop_use units) uses → (s : ℕ)
    → s < symbols → is_marked uses s ≡ is_looped units s
marks_are units uses symbols h s l = ap (λ (u : LoopUse). u.looped) (h.each s (loop_use [] 0) l)

pub indices_are : (units : List PlainUnit) (uses : List LoopUse) (symbols : ℕ) (bounds : List ℕ) → IsListOf symbols (loop_use units) uses
    → (n : ℕ) → n ≤ symbols
    → indices_below uses bounds n ≡ sum_by (nth_size bounds) (looped_below units n)
indices_are units uses symbols bounds h n l =
    marked_same (nth_size bounds) (is_marked uses) (is_looped units) n (λ s k. marks_are units uses symbols h s (omega (arith, k, l)))

-- the numbers of loops one by one
pub starts_none : (uses : List LoopUse) (bounds : List ℕ) → AreStarts uses bounds 0 [] (length uses)
starts_none uses bounds = record { dense = refl; each = λ s l. absurd (omega arith); past = omega arith }

pub starts_more : (uses : List LoopUse) (bounds : List ℕ) (n : ℕ) (loops : List ℕ) (past next : ℕ) → AreStarts uses bounds n loops past
    → next ≡ past + indices_at uses bounds n → AreStarts uses bounds (n + 1) (loops ++ past ∷ []) next
starts_more uses bounds n loops past next h e = record {
  dense = (let d = h.dense in omega (arith, d, length-append loops (past ∷ [])));
  each = λ s l. ⊎_elim (before s) (here s l) (cases_lt s n);
  past =
      (let p = h.past in omega (arith, e, p, more))
      ∙ ap (λ k. length uses + indices_below uses bounds k) (let plus : suc n ≡ n + 1 = omega arith in plus);
}
  where
    more : indices_below uses bounds (suc n) ≡ indices_below uses bounds n + indices_at uses bounds n
    more = marked_more (nth_size bounds) (is_marked uses) n

    before : (s : ℕ) → s < n → nth_size (loops ++ past ∷ []) s ≡ length uses + indices_below uses bounds s
    before s l = get_or_append_left loops (past ∷ []) 0 s (let d = h.dense in omega (arith, d, l)) ∙ h.each s l

    here : (s : ℕ) → s < n + 1 → n ≤ s → nth_size (loops ++ past ∷ []) s ≡ length uses + indices_below uses bounds s
    here s l k =
        let d = h.dense in
        let same : s ≡ length loops + 0 = omega (arith, d, l, k) in
        ap (nth_size (loops ++ past ∷ [])) same ∙ get_or-append-add loops (past ∷ []) 0 0
        ∙ h.past ∙ ap (λ k. length uses + indices_below uses bounds k) (let e : n ≡ s = omega (arith, l, k) in e)

-- what is added for a symbol is counted
pub starts_few : (uses : List LoopUse) (bounds : List ℕ) (n count : ℕ) (loops : List ℕ) (past : ℕ) → AreStarts uses bounds n loops past
    → n < count
    → past + indices_at uses bounds n ≤ length uses + indices_below uses bounds count
starts_few uses bounds n count loops past h l =
    let p = h.past in
    omega (arith, p, marked_more (nth_size bounds) (is_marked uses) n, marked_up (nth_size bounds) (is_marked uses) (suc n) count (omega (arith, l)))

-- so it fits
pub starts_fit : (uses : List LoopUse) (bounds : List ℕ) (n : ℕ) (loops : List ℕ) (past most : ℕ) (none : LoopUse)
    → AreStarts uses bounds n loops past
    → n < length uses → length uses + indices_below uses bounds (length uses) ≤ most → past + (cond (get_or uses n none).looped (nth_size bounds n) 0) ≤ most
starts_fit uses bounds n loops past most none h l few =
    subst (λ k. past + k ≤ most)
    (ap (λ (u : LoopUse). cond {A = ℕ} u.looped (nth_size bounds n) 0) (in_range uses n (loop_use [] 0) none l))
    (omega (arith, few, starts_few uses bounds n (length uses) loops past h l))

-- one loop more, by the use of its symbol
pub starts_next : (uses : List LoopUse) (bounds : List ℕ) (n : ℕ) (loops : List ℕ) (past next : ℕ) (none : LoopUse)
    → AreStarts uses bounds n loops past
    → n < length uses → next ≡ past + (cond (get_or uses n none).looped (nth_size bounds n) 0) → AreStarts uses bounds (n + 1) (loops ++ past ∷ []) next
starts_next uses bounds n loops past next none h l e =
    starts_more uses bounds n loops past next h
    (e ∙ ap (λ (u : LoopUse). past + (cond {A = ℕ} u.looped (nth_size bounds n) 0)) (in_range uses n none (loop_use [] 0) l))

-- the numbers behind the groups are at most the count of variables
module _ (units : PlainUnits) (target : Target) (bounds : ℕ → ℕ) (sound : SoundUnits units) where
  pub stages_within : past_stages units target bounds ≤ variable_count units target bounds
  stages_within =
      let tables = from_all _ units.terms.steps sound.tables in
      let times = ap (λ n. n * target.stages) (all_candidates_length units target bounds tables) in
      omega (arith, all_keys_length units target bounds tables, times)

  pub keys_within : past_keys units bounds ≤ variable_count units target bounds
  keys_within = omega (arith, stages_within)
