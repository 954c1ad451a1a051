-- What the states of rows tell of a box inside the root box.
use Rattle.std.proofs.Common.{◌≡◌, ℕ, zero, suc, ℤ, pos, ◌*◌, ◌<◌, ◌≤◌, ◌*ℤ◌, ◌≤ℤ◌, ◌<ℤ◌, Bool, true, false, cond, List, [], ◌∷◌, length, get_or, set, slice_get, max, unsigned_abs, int_lt, Some, None, arith, refl, sym, ap, subst, ◌∙◌}
use Rattle.std.proofs.lemmas.Int.{ints, int_wrap_fits}
use Rattle.std.proofs.lemmas.Option.{slice_get-get_or}
use Rattle.std.specs.Int.{w128}
use Rattle.int_program.specs.Sums.{at, sum_at}
use Rattle.int_program.specs.Boxes.{IsInside, IsNonempty, IsFromZero}
use Rattle.int_program.specs.Bounds.{least_of, part_least}
use Rattle.int_program.specs.Limits.{part_weight, weight, AreSmall, IsInLimits}
use Rattle.int_program.specs.Points.{IsPoint}
use Rattle.int_program.specs.Accepts.{row_fault}
use Rattle.int_program.specs.declared.program.Ip.{Ip}
use Rattle.int_program.specs.declared.program.IpBox.{IpBox}
use Rattle.int_program.specs.declared.program.Part.{Part}
use Rattle.int_program.specs.declared.program.Row.{Row}
use Rattle.int_program.specs.declared.program.Why.TheVariants as why
use Rattle.int_program.proofs.InsideLaws.{inside_nonempty, rows_inside}
use Rattle.int_program.proofs.SumLaws.{term_small, sum_small, fits_small, int_lt_yes}
use Rattle.branch_bound.specs.declared.states.RowState.{RowState}
use Rattle.branch_bound.specs.States.{IsRowState, AreStates, no_state}
use Rattle.branch_bound.proofs.PointLaws.{none_from_test}
use Rattle.branch_bound.proofs.StateLaws.{state_at, state_put}

part_small : (p : Part) (b : IpBox) → IsNonempty b → IsFromZero b → unsigned_abs (part_least p b) ≤ part_weight p b.high
part_small p b nonempty from_zero = by (int_lt p.by (pos 0))
  where
    by : (t : Bool) → unsigned_abs (cond t (p.by *ℤ at b.high p.var) (p.by *ℤ at b.low p.var)) ≤ unsigned_abs p.by * max (unsigned_abs (at b.high p.var)) 1
    by true = term_small p.by (at b.high p.var) (at b.high p.var) (omega (arith, ints, from_zero.low p.var, nonempty.ends p.var)) (omega (arith, ints))
    by false = term_small p.by (at b.low p.var) (at b.high p.var) (from_zero.low p.var) (nonempty.ends p.var)

least_small : (ps : List Part) (b : IpBox) → IsNonempty b → IsFromZero b → unsigned_abs (least_of ps b) ≤ weight ps b.high
least_small [] b nonempty from_zero = omega arith
least_small (p ∷ ps) b nonempty from_zero = omega (arith, sum_small (part_least p b) (least_of ps b), part_small p b nonempty from_zero, least_small ps b nonempty from_zero)

lows_small : (ps : List Part) (b : IpBox) → IsNonempty b → IsFromZero b → unsigned_abs (sum_at ps b.low) ≤ weight ps b.high
lows_small [] b nonempty from_zero = omega arith
lows_small (p ∷ ps) b nonempty from_zero =
    omega (arith, sum_small (p.by *ℤ at b.low p.var) (sum_at ps b.low), term_small p.by (at b.low p.var) (at b.high p.var) (from_zero.low p.var) (nonempty.ends p.var), lows_small ps b nonempty from_zero)

module _ (ip : Ip) (b : IpBox) (states : List RowState) (k : ℕ) (limits : IsInLimits ip) (inside : IsInside ip b) (are : AreStates ip b states) (l : k < length ip.rows) (d : Row) (e : RowState) where
  row_is_small : AreSmall (get_or ip.rows k d).parts (get_or ip.rows k d).most b.high
  row_is_small = rows_inside ip b limits inside k d l

  exact_least : (get_or states k e).least ≡ least_of (get_or ip.rows k d).parts b
  exact_least =
      let ps = (get_or ip.rows k d).parts in
      let both = inside_nonempty ip b inside in
      (state_at (length ip.tops) b ip.rows states k d e are l).least
      ∙ int_wrap_fits w128 (least_of ps b) (fits_small (least_of ps b) (weight ps b.high) (least_small ps b both.0 both.1) (omega (arith, row_is_small.small)))

  exact_lows : (get_or states k e).at_lows ≡ sum_at (get_or ip.rows k d).parts b.low
  exact_lows =
      let ps = (get_or ip.rows k d).parts in
      let both = inside_nonempty ip b inside in
      (state_at (length ip.tops) b ip.rows states k d e are l).at_lows
      ∙ int_wrap_fits w128 (sum_at ps b.low) (fits_small (sum_at ps b.low) (weight ps b.high) (lows_small ps b both.0 both.1) (omega (arith, row_is_small.small)))

-- a row whose least value is above its right side closes the box, and no other
row_closes : (ip : Ip) (b : IpBox) (k : ℕ) (d : Row) → k < length ip.rows → (get_or ip.rows k d).most <ℤ least_of (get_or ip.rows k d).parts b → row_fault b (slice_get ip.rows k) ≡ None
row_closes ip b k d l above =
    ap (row_fault b) (slice_get-get_or ip.rows k d l)
    ∙ none_from_test _ why.RowHolds (int_lt_yes (get_or ip.rows k d).most (least_of (get_or ip.rows k d).parts b) above)

row_stays : (ip : Ip) (b : IpBox) (k : ℕ) (d : Row) → k < length ip.rows → least_of (get_or ip.rows k d).parts b ≤ℤ (get_or ip.rows k d).most → row_fault b (slice_get ip.rows k) ≡ None → ⊥
row_stays ip b k d l below none = by (int_lt (get_or ip.rows k d).most (least_of (get_or ip.rows k d).parts b)) refl (sym (ap (row_fault b) (slice_get-get_or ip.rows k d l)) ∙ none)
  where
    by : (t : Bool) → int_lt (get_or ip.rows k d).most (least_of (get_or ip.rows k d).parts b) ≡ t → cond t None (Some why.RowHolds) ≡ None → ⊥
    by true is h = grind (arith, ints)
    by false is h = cc

-- the same of the rows as they are read
module _ (ip : Ip) (b : IpBox) (states : List RowState) (rows : List Row) (k : ℕ) (limits : IsInLimits ip) (inside : IsInside ip b) (are : AreStates ip b states) (is : rows ≡ ip.rows) (l : k < length rows) (row : Row) (row_is : row ≡ get_or rows k row) where
  within_rows : k < length ip.rows
  within_rows = subst (λ (rs : List Row). k < length rs) is l

  least_here : (get_or states k no_state).least ≡ least_of (get_or ip.rows k row).parts b
  least_here = exact_least ip b states k limits inside are within_rows row no_state

  lows_here : (get_or states k no_state).at_lows ≡ sum_at (get_or ip.rows k row).parts b.low
  lows_here = exact_lows ip b states k limits inside are within_rows row no_state

  row_here : row ≡ get_or ip.rows k row
  row_here = row_is ∙ ap (λ (rs : List Row). get_or rs k row) is

  most_here : row.most ≡ (get_or ip.rows k row).most
  most_here = ap (λ (r : Row). r.most) row_here

  pub state_here : (n : ℕ) → n ≡ length ip.tops → IsRowState n b row (get_or states k no_state)
  state_here n n_is =
      subst (λ (r : Row). IsRowState n b r (get_or states k no_state)) (sym row_here)
      (subst (λ m. IsRowState m b (get_or ip.rows k row) (get_or states k no_state)) (sym n_is) (state_at (length ip.tops) b ip.rows states k row no_state are within_rows))

  pub state_back : (n : ℕ) (s : RowState) → n ≡ length ip.tops → IsRowState n b row s → AreStates ip b (set states k s)
  state_back n s n_is s_is =
      state_put (length ip.tops) b ip.rows states k row s are within_rows (subst (λ (r : Row). IsRowState (length ip.tops) b r s) row_here (subst (λ m. IsRowState m b row s) n_is s_is))

  pub closes_by : int_lt row.most (get_or states k no_state).least ≡ true → row_fault b (slice_get ip.rows k) ≡ None
  closes_by h = row_closes ip b k row within_rows (above row.most (get_or states k no_state).least (get_or ip.rows k row).most (least_of (get_or ip.rows k row).parts b) most_here least_here h)
    where
      above : (x y z w : ℤ) → x ≡ z → y ≡ w → int_lt x y ≡ true → z <ℤ w
      above x y z w e f t = grind (arith, ints)

  pub stays_by : int_lt row.most (get_or states k no_state).least ≡ false → row_fault b (slice_get ip.rows k) ≡ None → ⊥
  stays_by h = row_stays ip b k row within_rows (below row.most (get_or states k no_state).least (get_or ip.rows k row).most (least_of (get_or ip.rows k row).parts b) most_here least_here h)
    where
      below : (x y z w : ℤ) → x ≡ z → y ≡ w → int_lt x y ≡ false → w ≤ℤ z
      below x y z w e f t = grind (arith, ints)

  pub breaks_by : int_lt row.most (get_or states k no_state).at_lows ≡ true → IsPoint ip b.low → ⊥
  breaks_by h point = apart row.most (get_or states k no_state).at_lows (get_or ip.rows k row).most (sum_at (get_or ip.rows k row).parts b.low) most_here lows_here h (point.rows k row within_rows)
    where
      apart : (x y z w : ℤ) → x ≡ z → y ≡ w → int_lt x y ≡ true → w ≤ℤ z → ⊥
      apart x y z w e f t g = grind (arith, ints)

  pub holds_by : int_lt row.most (get_or states k no_state).at_lows ≡ false → (e : Row) → sum_at (get_or ip.rows k e).parts b.low ≤ℤ (get_or ip.rows k e).most
  holds_by h e =
      subst (λ (row : Row). sum_at row.parts b.low ≤ℤ row.most) (get_or_any ip.rows k row e within_rows)
      (below row.most (get_or states k no_state).at_lows (get_or ip.rows k row).most (sum_at (get_or ip.rows k row).parts b.low) most_here lows_here h)
    where
      below : (x y z w : ℤ) → x ≡ z → y ≡ w → int_lt x y ≡ false → w ≤ℤ z
      below x y z w e f t = grind (arith, ints)

      get_or_any : {A : Type 0} (xs : List A) (k : ℕ) (d e : A) → k < length xs → get_or xs k d ≡ get_or xs k e
      get_or_any [] k d e l = absurd (omega (arith, l))
      get_or_any (x ∷ xs) zero d e l = refl
      get_or_any (x ∷ xs) (suc k) d e l = get_or_any xs k d e (omega (arith, l))
