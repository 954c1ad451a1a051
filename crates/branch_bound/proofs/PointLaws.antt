-- The point of all lows of a box, and greater known values.
use Rattle.std.proofs.Common.{◌≡◌, ℕ, ℤ, pos, ◌<◌, ◌≤◌, ◌+ℤ◌, ◌*ℤ◌, ◌≤ℤ◌, ◌<ℤ◌, Bool, true, false, cond, List, [], ◌∷◌, length, get_or, map, IfSome, IsSome, Option, Some, None, int_lt, int_le, slice_get, ⊎_elim, arith, refl, sym, ap, ◌∙◌, subst}
use Rattle.std.proofs.lemmas.Int.{ints, by_lt_z}
use Rattle.std.proofs.lemmas.Bool.{cases_lt}
use Rattle.std.proofs.lemmas.Option.{slice_get-get_or, slice_get_past}
use Rattle.int_program.specs.Sums.{at, sum_at}
use Rattle.int_program.specs.Boxes.{InBox, IsInside}
use Rattle.int_program.specs.Bounds.{least_of, most_of}
use Rattle.int_program.specs.Points.{IsPoint, IsBetter, value_of}
use Rattle.int_program.specs.Accepts.{row_fault, goal_fault}
use Rattle.int_program.specs.Fair.{NoRowLeaf}
use Rattle.int_program.specs.declared.program.Ip.{Ip}
use Rattle.int_program.specs.declared.program.IpBox.{IpBox}
use Rattle.int_program.specs.declared.program.Part.{Part}
use Rattle.int_program.specs.declared.program.Row.{Row}
use Rattle.int_program.specs.declared.program.Point.{Point}
use Rattle.int_program.specs.declared.program.Why.TheVariants as why
use Rattle.int_program.proofs.InsideLaws.{at_zeros}
use Rattle.int_program.proofs.SumLaws.{int_lt_yes}
use Rattle.int_program.proofs.TreeLaws.{row_leaf_empty, row_met}
use Rattle.branch_bound.specs.Lines.{IsSingle, AtMost, IsBestKnown, IsTried}

pub none_from_test : {W : Type 0} (t : Bool) (w : W) → t ≡ true → cond t None (Some w) ≡ None
none_from_test true w h = refl
none_from_test false w h = cc

same_ends : (t : Bool) (y z : ℤ) → y ≡ z → cond t y z ≡ z
same_ends true y z e = e
same_ends false y z e = refl

other_ends : (t : Bool) (z y : ℤ) → y ≡ z → cond t z y ≡ z
other_ends true z y e = refl
other_ends false z y e = e

-- on a box of one point a sum's least and greatest value is the sum there
pub single_least : (ps : List Part) (b : IpBox) → IsSingle b → least_of ps b ≡ sum_at ps b.low
single_least [] b s = refl
single_least (p ∷ ps) b s =
    let here = same_ends (int_lt p.by (pos 0)) (p.by *ℤ at b.high p.var) (p.by *ℤ at b.low p.var) (ap (λ t. p.by *ℤ t) (s p.var)) in
    let rest = single_least ps b s in
    omega (arith, ints)

pub single_most : (ps : List Part) (b : IpBox) → IsSingle b → most_of ps b ≡ sum_at ps b.low
single_most [] b s = refl
single_most (p ∷ ps) b s =
    let here = other_ends (int_lt p.by (pos 0)) (p.by *ℤ at b.low p.var) (p.by *ℤ at b.high p.var) (ap (λ t. p.by *ℤ t) (s p.var)) in
    let rest = single_most ps b s in
    omega (arith, ints)

-- a row that doesn't close a box of one point is met there
pub row_open : (b : IpBox) (row : Row) → (row_fault b (Some row) ≡ None → ⊥) → least_of row.parts b ≤ℤ row.most
row_open b row h =
    by_lt_z row.most (least_of row.parts b) (λ l. absurd (h (none_from_test _ why.RowHolds (int_lt_yes row.most (least_of row.parts b) l)))) (λ g. g)

-- the lows are a point where they meet each row
pub lows_point : (ip : Ip) (b : IpBox) → IsInside ip b → ((k : ℕ) (d : Row) → k < length ip.rows → sum_at (get_or ip.rows k d).parts b.low ≤ℤ (get_or ip.rows k d).most) → IsPoint ip b.low
lows_point ip b inside meets = record {
  in_root = record { count = inside.low_count ∙ sym (zeros ip.tops); ends = λ k. (rw (at_zeros ip.tops k) (inside.ends k).0, omega (arith, ints, (inside.ends k).1, (inside.ends k).2)) };
  rows = meets;
}
  where
    zeros : (xs : List ℤ) → length (map (λ _. pos 0) xs) ≡ length xs
    zeros [] = refl
    zeros (x ∷ xs) = omega (arith, zeros xs)

pub single_point : (ip : Ip) (b : IpBox) → IsInside ip b → IsSingle b → NoRowLeaf ip b → IsPoint ip b.low
single_point ip b o s h =
    lows_point ip b o (λ k d l.
    let open_row = row_open b (get_or ip.rows k d) (subst (λ r. row_fault b r ≡ None → ⊥) (slice_get-get_or ip.rows k d l) (h k)) in
    omega (arith, ints, single_least (get_or ip.rows k d).parts b s))

pub low_in_box : (ip : Ip) (b : IpBox) → IsInside ip b → InBox b.low b
low_in_box ip b o = record { count = refl; ends = λ k. (omega (arith, ints), (o.ends k).1) }

pub closed_no_point : (ip : Ip) (b : IpBox) (r : ℕ) → row_fault b (slice_get ip.rows r) ≡ None → InBox b.low b → IsPoint ip b.low → ⊥
closed_no_point ip b r h i p = row_leaf_empty (slice_get ip.rows r) b b.low (λ row e. row_met ip b.low r row p e) h i

pub lowest_inside : (ip : Ip) (b s : IpBox) → IsInside ip b → s.low ≡ b.low → s.high ≡ b.low → IsInside ip s
lowest_inside ip b s o e f =
    record {
      low_count = ap length e ∙ o.low_count;
      high_count = ap length f ∙ o.low_count;
      ends = λ k. rw (e, f) ((o.ends k).0, omega (arith, ints), omega (arith, ints, (o.ends k).1, (o.ends k).2));
    }

pub lowest_single : (b s : IpBox) → s.low ≡ b.low → s.high ≡ b.low → IsSingle s
lowest_single b s e f k = rw (e, f) refl

-- what is known of the best point after a box's lowest point was tried
not_above : (ip : Ip) (x : List ℤ) (u v : ℤ) → v ≡ value_of ip x → v ≤ℤ u → IsBetter ip (Some u) x → ⊥
not_above ip x u v e h b = absurd (omega (arith, ints, b.above u refl))

pub at_most_same : (known : Option ℤ) → AtMost known known
at_most_same None = tt
at_most_same (Some u) = omega (arith, ints)

pub tried_better : (ip : Ip) (x y : List ℤ) (known : Option ℤ) (v : ℤ) → IsPoint ip y → v ≡ value_of ip y → y ≡ x → AtMost known (Some v) → IsTried ip x known (Some v) (Some (record { values = y }))
tried_better ip x y known v p e s m =
    record { at_most = m; best_known = (p, e); no_better = not_above ip x v v (e ∙ ap (value_of ip) s) (omega (arith, ints)) }

pub tried_worse : (ip : Ip) (x y : List ℤ) (known : Option ℤ) (best : Option Point) (v : ℤ) → v ≡ value_of ip y → y ≡ x → IfSome known (λ u. v ≤ℤ u) → IsSome known → IsBestKnown ip best known → IsTried ip x known known best
tried_worse ip x y None best v e s m i b = cc
tried_worse ip x y (Some u) best v e s m i b =
    record { at_most = omega (arith, ints); best_known = b; no_better = not_above ip x u v (e ∙ ap (value_of ip) s) m }

pub tried_no_point : (ip : Ip) (x y : List ℤ) (known : Option ℤ) (best : Option Point) → (IsPoint ip y → ⊥) → y ≡ x → IsBestKnown ip best known → IsTried ip x known known best
tried_no_point ip x y known best h s b =
    record { at_most = at_most_same known; best_known = b; no_better = λ w. h (subst (λ z. IsPoint ip z) (sym s) w.point) }

-- no row past the end closes a box
pub row_leaf_none : (ip : Ip) (b : IpBox) (n : ℕ) → n ≡ length ip.rows → ((k : ℕ) → k < n → row_fault b (slice_get ip.rows k) ≡ None → ⊥) → NoRowLeaf ip b
row_leaf_none ip b n e h r f = ⊎_elim (λ (l : r < length ip.rows). h r (omega arith) f) (λ (past : length ip.rows ≤ r). no_row (sym (ap (row_fault b) (slice_get_past ip.rows r past)) ∙ f)) (cases_lt r (length ip.rows))
  where
    no_row : row_fault b None ≡ None → ⊥
    no_row g = cc

-- a box of one point that no row closes, and whose point is no better one, is closed by the objective
pub single_closed : (ip : Ip) (known : Option ℤ) (b : IpBox) → IsInside ip b → IsSingle b → NoRowLeaf ip b → (IsBetter ip known b.low → ⊥) → goal_fault ip b known ≡ None
single_closed ip None b o s h t = absurd (t (record { point = single_point ip b o s h; above = λ u e. cc }))
single_closed ip (Some u) b o s h t =
    by_lt_z u (value_of ip b.low)
    (λ l. absurd (t (record { point = single_point ip b o s h; above = λ w e. subst (λ (z : ℤ). z <ℤ value_of ip b.low) (same u w e) l })))
    (λ g. none_from_test _ why.ObjAbove (below (most_of ip.goal b +ℤ ip.base) u (omega (arith, ints, single_most ip.goal b s))))
  where
    same : (x y : ℤ) → Some x ≡ Some y → x ≡ y
    same x y e = cc

    below : (z u : ℤ) → z ≤ℤ u → int_le z u ≡ true
    below z u l = grind (arith, ints)
