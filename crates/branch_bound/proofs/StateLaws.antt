-- The states of rows when the ends of a variable change.
use Rattle.std.proofs.Common.{◌≡◌, ℕ, zero, suc, ℤ, pos, ◌+ℤ◌, ◌-ℤ◌, ◌*ℤ◌, ◌+◌, ◌<◌, ◌≤◌, All, Bool, true, false, cond, not, List, [], ◌∷◌, ◌++◌, length, get_or, set, nat_eq, nat_lt, Option, Some, None, arith, refl, sym, ap, subst, ◌∙◌, append_assoc}
use Rattle.std.proofs.lemmas.Int.{ints, int_wrap-add_left}
use Rattle.std.proofs.lemmas.Bool.{eqb-true}
use Rattle.std.proofs.lemmas.Bool.Decides.{nat_tests}
use Rattle.std.proofs.lemmas.List.{get_or-set_same, get_or-set_other, length-append}
use Rattle.std.proofs.lemmas.List.Elements.{All-nil, All-cons, All-append}
use Rattle.std.specs.Int.{int_wrap, w128}
use Rattle.int_program.specs.Sums.{at, sum_at}
use Rattle.int_program.specs.Bounds.{least_of, least_term, part_least}
use Rattle.int_program.specs.Tightening.{factor, others, floor, ceiling, shrunk, tight_ends}
use Rattle.int_program.specs.Accepts.{tight_fault, with_ends}
use Rattle.int_program.specs.declared.program.IpBox.{IpBox}
use Rattle.int_program.specs.declared.program.Part.{Part}
use Rattle.int_program.specs.declared.program.Row.{Row}
use Rattle.int_program.specs.declared.program.Why.TheVariants as why
use Rattle.branch_bound.specs.declared.columns.Entry.{Entry}
use Rattle.branch_bound.specs.declared.states.RowState.{RowState}
use Rattle.branch_bound.specs.Columns.{entry_of, entries_of, column_of}
use Rattle.branch_bound.specs.States.{IsRowState, AreRowStates, moved_state, moved_rows, no_state}
use Rattle.branch_bound.proofs.TightScan.{no_ends}

set_mid : {A : Type 0} (pre post : List A) (s t : A) → set (pre ++ s ∷ post) (length pre) t ≡ pre ++ t ∷ post
set_mid [] post s t = refl
set_mid (p ∷ pre) post s t = ap (λ xs. p ∷ xs) (set_mid pre post s t)

get_mid : {A : Type 0} (pre post : List A) (s d : A) → get_or (pre ++ s ∷ post) (length pre) d ≡ s
get_mid [] post s d = refl
get_mid (p ∷ pre) post s d = get_mid pre post s d

differ : (a b : ℕ) → nat_eq a b ≡ false → a ≡ b → ⊥
differ a b no_eq eq = grind (arith, nat_tests)

pub states_length : (n : ℕ) (b : IpBox) (rows : List Row) (states : List RowState) → AreRowStates n b rows states → length states ≡ length rows
states_length n b [] [] h = refl
states_length n b [] (s ∷ states) h = absurd h
states_length n b (row ∷ rows) [] h = absurd h
states_length n b (row ∷ rows) (s ∷ states) h = ap suc (states_length n b rows states h.1)

pub state_at : (n : ℕ) (b : IpBox) (rows : List Row) (states : List RowState) (k : ℕ) (d : Row) (e : RowState) → AreRowStates n b rows states → k < length rows
    → IsRowState n b (get_or rows k d) (get_or states k e)
state_at n b [] [] k d e h l = absurd (omega (arith, l))
state_at n b [] (s ∷ states) k d e h l = absurd h
state_at n b (row ∷ rows) [] k d e h l = absurd h
state_at n b (row ∷ rows) (s ∷ states) zero d e h l = h.0
state_at n b (row ∷ rows) (s ∷ states) (suc k) d e h l = state_at n b rows states k d e h.1 (omega (arith, l))

pub state_put : (n : ℕ) (b : IpBox) (rows : List Row) (states : List RowState) (k : ℕ) (d : Row) (s : RowState) → AreRowStates n b rows states → k < length rows
    → IsRowState n b (get_or rows k d) s → AreRowStates n b rows (set states k s)
state_put n b [] [] k d s h l is = absurd (omega (arith, l))
state_put n b [] (t ∷ states) k d s h l is = absurd h
state_put n b (row ∷ rows) [] k d s h l is = absurd h
state_put n b (row ∷ rows) (t ∷ states) zero d s h l is = (is, h.1)
state_put n b (row ∷ rows) (t ∷ states) (suc k) d s h l is = (h.0, state_put n b rows states k d s h.1 (omega (arith, l)) is)

module _ (own ends : ℤ × ℤ) (v : ℕ) where
  -- the state of a row after its parts of the variable
  abbrev pub after : List Part → RowState → RowState
  after [] s = s
  after (p ∷ ps) s = after ps (cond (nat_eq p.var v) (moved_state own ends p.by s) s)

  abbrev pub all_after : List Row → List RowState → List RowState
  all_after [] states = states
  all_after (row ∷ rows) [] = []
  all_after (row ∷ rows) (s ∷ states) = after row.parts s ∷ all_after rows states

  moved_both : (xs ys : List Entry) (states : List RowState) → moved_rows own ends (xs ++ ys) states ≡ moved_rows own ends ys (moved_rows own ends xs states)
  moved_both [] ys states = refl
  moved_both (x ∷ xs) ys states = moved_both xs ys (set states x.row (moved_state own ends x.by (get_or states x.row no_state)))

  moved_row : (ps : List Part) (s : RowState) (pre post : List RowState) → moved_rows own ends (entries_of v (length pre) ps) (pre ++ s ∷ post) ≡ pre ++ after ps s ∷ post
  moved_row [] s pre post = refl
  moved_row (p ∷ ps) s pre post = by (nat_eq p.var v) (λ t. moved_row ps t pre post)
    where
      step : List RowState
      step = set (pre ++ s ∷ post) (length pre) (moved_state own ends p.by (get_or (pre ++ s ∷ post) (length pre) no_state))

      step_is : step ≡ pre ++ moved_state own ends p.by s ∷ post
      step_is = set_mid pre post s (moved_state own ends p.by (get_or (pre ++ s ∷ post) (length pre) no_state))
          ∙ ap (λ t. pre ++ moved_state own ends p.by t ∷ post) (get_mid pre post s no_state)

      by : (t : Bool) → ((t : RowState) → moved_rows own ends (entries_of v (length pre) ps) (pre ++ t ∷ post) ≡ pre ++ after ps t ∷ post) → moved_rows own ends (cond t (entry_of (length pre) p ∷ entries_of v (length pre) ps) (entries_of v (length pre) ps)) (pre ++ s ∷ post) ≡ pre ++ after ps (cond t (moved_state own ends p.by s) s) ∷ post
      by true rest = ap (moved_rows own ends (entries_of v (length pre) ps)) step_is ∙ rest (moved_state own ends p.by s)
      by false rest = rest s

  moved_all : (rows : List Row) (states pre : List RowState) → length states ≡ length rows → moved_rows own ends (column_of v (length pre) rows) (pre ++ states) ≡ pre ++ all_after rows states
  moved_all [] states pre long = refl
  moved_all (row ∷ rows) [] pre long = absurd (omega (arith, long))
  moved_all (row ∷ rows) (s ∷ states) pre long =
      moved_both (entries_of v (length pre) row.parts) (column_of v (suc (length pre)) rows) (pre ++ s ∷ states)
      ∙ ap (moved_rows own ends (column_of v (suc (length pre)) rows)) (moved_row row.parts s pre states ∙ sym (append_assoc pre (t ∷ []) states))
      ∙ ap (λ k. moved_rows own ends (column_of v k rows) ((pre ++ t ∷ []) ++ states)) (sym longer)
      ∙ moved_all rows states (pre ++ t ∷ []) (omega (arith, long))
      ∙ append_assoc pre (t ∷ []) (all_after rows states)
    where
      t : RowState
      t = after row.parts s

      longer : length (pre ++ t ∷ []) ≡ suc (length pre)
      longer = length-append pre (t ∷ []) ∙ omega arith

  -- a number of each state that follows a sum of the parts
  module _ (field : RowState → ℤ) (new old : ℤ → ℤ) (moves : (by : ℤ) (s : RowState) → field (moved_state own ends by s) ≡ int_wrap w128 (field s +ℤ (new by -ℤ old by)))
      (before now : Part → ℤ) (sum_before sum_now : List Part → ℤ)
      (none_before : sum_before [] ≡ pos 0) (none_now : sum_now [] ≡ pos 0)
      (more_before : (p : Part) (ps : List Part) → sum_before (p ∷ ps) ≡ before p +ℤ sum_before ps) (more_now : (p : Part) (ps : List Part) → sum_now (p ∷ ps) ≡ now p +ℤ sum_now ps)
      (here : (p : Part) → nat_eq p.var v ≡ true → (now p ≡ new p.by) × (before p ≡ old p.by)) (elsewhere : (p : Part) → nat_eq p.var v ≡ false → now p ≡ before p) where
    follows : (ps : List Part) (s : RowState) (z : ℤ) → field s ≡ int_wrap w128 z → field (after ps s) ≡ int_wrap w128 (z +ℤ (sum_now ps -ℤ sum_before ps))
    follows [] s z is = is ∙ ap (int_wrap w128) (omega (arith, ints, none_before, none_now))
    follows (p ∷ ps) s z is = by (nat_eq p.var v) refl (follows ps)
      where
        by : (t : Bool) → nat_eq p.var v ≡ t → ((s : RowState) (z : ℤ) → field s ≡ int_wrap w128 z → field (after ps s) ≡ int_wrap w128 (z +ℤ (sum_now ps -ℤ sum_before ps))) → field (after ps (cond t (moved_state own ends p.by s) s)) ≡ int_wrap w128 (z +ℤ (sum_now (p ∷ ps) -ℤ sum_before (p ∷ ps)))
        by true e rest =
            rest (moved_state own ends p.by s) (z +ℤ (new p.by -ℤ old p.by)) (moves p.by s ∙ ap (λ y. int_wrap w128 (y +ℤ (new p.by -ℤ old p.by))) is ∙ int_wrap-add_left w128 z (new p.by -ℤ old p.by))
            ∙ ap (int_wrap w128) (omega (arith, ints, more_before p ps, more_now p ps, (here p e).0, (here p e).1))
        by false e rest = rest s z is ∙ ap (int_wrap w128) (omega (arith, ints, more_before p ps, more_now p ps, elsewhere p e))

    -- from the sum before to the sum now
    pub follows_sum : (ps : List Part) (s : RowState) → field s ≡ int_wrap w128 (sum_before ps) → field (after ps s) ≡ int_wrap w128 (sum_now ps)
    follows_sum ps s is = follows ps s (sum_before ps) is ∙ ap (int_wrap w128) (omega (arith, ints))

module _ (n : ℕ) (b : IpBox) (v : ℕ) (ends : ℤ × ℤ) (in_low : v < length b.low) (in_high : v < length b.high) where
  abbrev pub own : ℤ × ℤ
  own = (at b.low v, at b.high v)

  abbrev pub c : IpBox
  c = with_ends b v ends

  low_here : (w : ℕ) → nat_eq w v ≡ true → at c.low w ≡ ends.0
  low_here w e = ap (at c.low) (eqb-true w v e) ∙ get_or-set_same b.low v ends.0 (pos 0) in_low

  high_here : (w : ℕ) → nat_eq w v ≡ true → at c.high w ≡ ends.1
  high_here w e = ap (at c.high) (eqb-true w v e) ∙ get_or-set_same b.high v ends.1 (pos 0) in_high

  low_other : (w : ℕ) → nat_eq w v ≡ false → at c.low w ≡ at b.low w
  low_other w e = get_or-set_other b.low v w ends.0 (pos 0) (differ w v e)

  high_other : (w : ℕ) → nat_eq w v ≡ false → at c.high w ≡ at b.high w
  high_other w e = get_or-set_other b.high v w ends.1 (pos 0) (differ w v e)

  least_here : (p : Part) → nat_eq p.var v ≡ true → (part_least p c ≡ least_term p.by ends.0 ends.1) × (part_least p b ≡ least_term p.by own.0 own.1)
  least_here p e =
      ((λ i. least_term p.by (low_here p.var e i) (high_here p.var e i)), ap (λ w. least_term p.by (at b.low w) (at b.high w)) (eqb-true p.var v e))

  least_other : (p : Part) → nat_eq p.var v ≡ false → part_least p c ≡ part_least p b
  least_other p e = λ i. least_term p.by (low_other p.var e i) (high_other p.var e i)

  -- a row that doesn't name the variable
  record IsUntouched (ps : List Part) : Type 0 where
    no_factor : factor ps v ≡ pos 0
    same_others : (w : ℕ) → least_of (others ps w) c ≡ least_of (others ps w) b

  untouched_more : (p : Part) (ps : List Part) → nat_eq p.var v ≡ false → IsUntouched ps → IsUntouched (p ∷ ps)
  untouched_more p ps e rest = record { no_factor = by (nat_eq p.var v) e; same_others = λ w. by_other (nat_eq p.var w) w }
    where
      by : (t : Bool) → t ≡ false → cond t p.by (pos 0) +ℤ factor ps v ≡ pos 0
      by false f = omega (arith, ints, rest.no_factor)
      by true f = cc

      by_other : (t : Bool) (w : ℕ) → least_of (cond (not t) (p ∷ others ps w) (others ps w)) c ≡ least_of (cond (not t) (p ∷ others ps w) (others ps w)) b
      by_other true w = rest.same_others w
      by_other false w = λ i. least_other p e i +ℤ rest.same_others w i

  still_settled : (ps : List Part) (s : RowState) → (after own ends v ps s).settled ≡ true → (s.settled ≡ true) × IsUntouched ps
  still_settled [] s h = (h, record { no_factor = refl; same_others = λ w. refl })
  still_settled (p ∷ ps) s h = by (nat_eq p.var v) refl (still_settled ps) h
    where
      by : (t : Bool) → nat_eq p.var v ≡ t → ((s : RowState) → (after own ends v ps s).settled ≡ true → (s.settled ≡ true) × IsUntouched ps) → (after own ends v ps (cond t (moved_state own ends p.by s) s)).settled ≡ true → (s.settled ≡ true) × IsUntouched (p ∷ ps)
      by true e rest g = absurd (wrong (rest (moved_state own ends p.by s) g).0)
        where
          wrong : false ≡ true → ⊥
          wrong f = cc
      by false e rest g = ((rest s g).0, untouched_more p ps e (rest s g).1)

  same_ends : (row : Row) (w : ℕ) → IsUntouched row.parts → tight_ends row w c ≡ tight_ends row w b
  same_ends row w is = by (nat_eq w v) refl
    where
      by : (t : Bool) → nat_eq w v ≡ t → tight_ends row w c ≡ tight_ends row w b
      by true e =
          let none : factor row.parts w ≡ pos 0 = ap (factor row.parts) (eqb-true w v e) ∙ is.no_factor in
          no_ends row w c none ∙ sym (no_ends row w b none)
      by false e = λ i.
          shrunk (factor row.parts w) (low_other w e i) (high_other w e i) (ceiling (row.most -ℤ is.same_others w i) (factor row.parts w)) (floor (row.most -ℤ is.same_others w i) (factor row.parts w))

  state_after : (row : Row) (s : RowState) → IsRowState n b row s → IsRowState n c row (after own ends v row.parts s)
  state_after row s is = record {
    least = follows_sum own ends v (λ t. t.least) (λ by. least_term by ends.0 ends.1) (λ by. least_term by own.0 own.1) (λ by t. refl) (λ p. part_least p b) (λ p. part_least p c) (λ ps. least_of ps b) (λ ps. least_of ps c)
        refl refl (λ p ps. refl) (λ p ps. refl) least_here least_other row.parts s is.least;
    at_lows = follows_sum own ends v (λ t. t.at_lows) (λ by. by *ℤ ends.0) (λ by. by *ℤ own.0) (λ by t. refl) (λ p. p.by *ℤ at b.low p.var) (λ p. p.by *ℤ at c.low p.var) (λ ps. sum_at ps b.low) (λ ps. sum_at ps c.low)
        refl refl (λ p ps. refl) (λ p ps. refl) (λ p e. (ap (λ z. p.by *ℤ z) (low_here p.var e), ap (λ w. p.by *ℤ at b.low w) (eqb-true p.var v e))) (λ p e. ap (λ z. p.by *ℤ z) (low_other p.var e)) row.parts s is.at_lows;
    settled = λ h w f. let still = still_settled row.parts s h in is.settled still.0 w (sym (same_fault w still.1) ∙ f);
  }
    where
      same_fault : (w : ℕ) → IsUntouched row.parts → tight_fault n c w (Some row) ≡ tight_fault n b w (Some row)
      same_fault w u = ap (λ (o : Option (ℤ × ℤ)). cond (nat_lt w n) (elim o [ Some _ ↦ None | None ↦ Some why.NotTight ]) (Some why.BadVar)) (same_ends row w u)

  states_after : (rows : List Row) (states : List RowState) → AreRowStates n b rows states → AreRowStates n c rows (all_after own ends v rows states)
  states_after [] [] h = tt
  states_after [] (s ∷ states) h = absurd h
  states_after (row ∷ rows) [] h = absurd h
  states_after (row ∷ rows) (s ∷ states) h = (state_after row s h.0, states_after rows states h.1)

  -- the states of the rows on the box with other ends
  pub states_moved : (rows : List Row) (states moved : List RowState) → AreRowStates n b rows states → moved ≡ moved_rows own ends (column_of v 0 rows) states → AreRowStates n c rows moved
  states_moved rows states moved h is =
      subst (AreRowStates n c rows) (sym (is ∙ moved_all own ends v rows states [] (states_length n b rows states h))) (states_after rows states h)

-- the rows of a column are rows
entries_within : (v row m : ℕ) (ps : List Part) → row < m → All (λ e. e.row < m) (entries_of v row ps)
entries_within v row m [] l = All-nil (λ e. e.row < m)
entries_within v row m (p ∷ ps) l = by (nat_eq p.var v) (entries_within v row m ps l)
  where
    by : (t : Bool) → All (λ (e : Entry). e.row < m) (entries_of v row ps) → All (λ (e : Entry). e.row < m) (cond t (entry_of row p ∷ entries_of v row ps) (entries_of v row ps))
    by true rest = All-cons (λ (e : Entry). e.row < m) (entry_of row p) (entries_of v row ps) l rest
    by false rest = rest

pub rows_within : (v first m : ℕ) (rows : List Row) → first + length rows ≤ m → All (λ e. e.row < m) (column_of v first rows)
rows_within v first m [] l = All-nil (λ e. e.row < m)
rows_within v first m (row ∷ rows) l =
    All-append (λ (e : Entry). e.row < m) (entries_of v first row.parts) (column_of v (suc first) rows) (entries_within v first m row.parts (omega (arith, l))) (rows_within v (suc first) m rows (omega (arith, l)))

-- one more row
pub states_more : (n : ℕ) (b : IpBox) (rows : List Row) (states : List RowState) (row : Row) (s : RowState) → AreRowStates n b rows states → IsRowState n b row s → AreRowStates n b (rows ++ row ∷ []) (states ++ s ∷ [])
states_more n b [] [] row s h is = (is, tt)
states_more n b [] (t ∷ states) row s h is = absurd h
states_more n b (r ∷ rows) [] row s h is = absurd h
states_more n b (r ∷ rows) (t ∷ states) row s h is = (h.0, states_more n b rows states row s h.1 is)
