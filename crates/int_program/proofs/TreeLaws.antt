-- An accepted tree leaves no better point.
use Rattle.std.proofs.Common.{◌≡◌, ℕ, ℤ, pos, ◌+ℤ◌, ◌≤ℤ◌, ◌<ℤ◌, Bool, true, false, cond, ◌&&◌, List, [], ◌∷◌, ◌++◌, length, set, Option, Some, None, ◌⊎◌, inl, inr, int_le, slice_get, arith, refl, sym, ◌∙◌, subst, ⊎_elim}
use Rattle.std.proofs.lemmas.Int.{ints, by_lt_z}
use Rattle.std.proofs.lemmas.Bool.{and_parts}
use Rattle.std.proofs.lemmas.Option.{slice_get_within, get_or_from_slice_get}
use Rattle.std.proofs.lemmas.List.{length-set, length-map}
use Rattle.std.specs.Option.{ForSome}
use Rattle.int_program.specs.Sums.{at}
use Rattle.int_program.specs.Boxes.{InBox, root_of}
use Rattle.int_program.specs.Points.{Meets, IsPoint, IsBetter, value_of}
use Rattle.int_program.specs.Tightening.{floor, tight_ends}
use Rattle.int_program.specs.Weighted.{rows_there, none_negative}
use Rattle.int_program.specs.Stopping.{tried_dual, tried_far}
use Rattle.int_program.specs.Accepts.{with_ends, tight_child, row_fault, goal_fault, dual_short, dual_fault, far_short, far_fault, IsAccepted, children, lower_half, upper_half, Leads, Accepts}
use Rattle.int_program.specs.declared.program.Ip.{Ip}
use Rattle.int_program.specs.declared.program.IpBox.{IpBox}
use Rattle.int_program.specs.declared.program.Row.{Row}
use Rattle.int_program.specs.declared.program.Weight.{Weight}
use Rattle.int_program.specs.declared.program.Tree.{Tree}
use Rattle.int_program.specs.declared.program.Node.{Node}
use Rattle.int_program.specs.declared.program.Node.TheVariants.{Split, Tight, RowLeaf, GoalLeaf, Dual, Far, Unsolved}
use Rattle.int_program.specs.declared.program.Why.{Why}
use Rattle.int_program.specs.declared.program.Why.TheVariants as why
use Rattle.int_program.proofs.OrderLaws.{le_quotient}
use Rattle.int_program.proofs.BoundLaws.{least_of_le, most_of_ge, at_set}
use Rattle.int_program.proofs.KeepLaws.{tight_keeps}
use Rattle.int_program.proofs.WeightLaws.{value_le_dual, rows_ge_least}
use Rattle.int_program.proofs.NumberLaws.{dual_exact, far_exact}

-- a test that decides between no fault and a fault
pub test_from_none : {W : Type 0} (t : Bool) (w : W) → cond t None (Some w) ≡ None → t ≡ true
test_from_none true w h = refl
test_from_none false w h = cc

-- a fault after a test
pub fault_after : {W : Type 0} (t : Bool) (o : Option W) (w : W) → cond t o (Some w) ≡ None → (t ≡ true) × (o ≡ None)
fault_after true o w h = (refl, h)
fault_after false o w h = cc

at_set_le : (xs : List ℤ) (v : ℕ) (y : ℤ) (j : ℕ) (x : List ℤ) → at xs j ≤ℤ at x j → y ≤ℤ at x v → at (set xs v y) j ≤ℤ at x j
at_set_le xs v y j x h k =
    ⊎_elim (λ e. rw e h) (λ e. rw (e.1) (subst (λ i. y ≤ℤ at x i) (sym e.0) k)) (at_set xs v y j)

le_at_set : (xs : List ℤ) (v : ℕ) (y : ℤ) (j : ℕ) (x : List ℤ) → at x j ≤ℤ at xs j → at x v ≤ℤ y → at x j ≤ℤ at (set xs v y) j
le_at_set xs v y j x h k =
    ⊎_elim (λ e. rw e h) (λ e. rw (e.1) (subst (λ i. at x i ≤ℤ y) (sym e.0) k)) (at_set xs v y j)

pub InBox-with_ends : (x : List ℤ) (b : IpBox) (v : ℕ) (low high : ℤ) → InBox x b → low ≤ℤ at x v → at x v ≤ℤ high → InBox x (with_ends b v (low, high))
InBox-with_ends x b v low high i p q =
    record { count = i.count ∙ sym (length-set b.low v low); ends = λ k. (at_set_le b.low v low k x (i.ends k).0 p, le_at_set b.high v high k x (i.ends k).1 q) }

InBox-lower : (x : List ℤ) (b : IpBox) (v : ℕ) (k : ℤ) → InBox x b → at x v ≤ℤ k → InBox x (lower_half b v k)
InBox-lower x b v k i q = record { count = i.count; ends = λ j. ((i.ends j).0, le_at_set b.high v k j x (i.ends j).1 q) }

InBox-upper : (x : List ℤ) (b : IpBox) (v : ℕ) (k : ℤ) → InBox x b → k <ℤ at x v → InBox x (upper_half b v k)
InBox-upper x b v k i q =
    record { count = i.count ∙ sym (length-set b.low v (k +ℤ pos 1)); ends = λ j. (at_set_le b.low v (k +ℤ pos 1) j x (i.ends j).0 (omega (arith, ints)), (i.ends j).1) }

-- some open box holds the point
abbrev pub InSome : List ℤ → List IpBox → Type 0
InSome x [] = ⊥
InSome x (b ∷ bs) = InBox x b ⊎ InSome x bs

InSome-append_left : (x : List ℤ) (bs cs : List IpBox) → InSome x bs → InSome x (bs ++ cs)
InSome-append_left x [] cs h = absurd h
InSome-append_left x (b ∷ bs) cs (inl h) = inl h
InSome-append_left x (b ∷ bs) cs (inr h) = inr (InSome-append_left x bs cs h)

InSome-append_right : (x : List ℤ) (bs cs : List IpBox) → InSome x cs → InSome x (bs ++ cs)
InSome-append_right x [] cs h = h
InSome-append_right x (b ∷ bs) cs h = inr (InSome-append_right x bs cs h)

-- a point meets each row that there is
pub row_met : (ip : Ip) (x : List ℤ) (r : ℕ) (row : Row) → IsPoint ip x → slice_get ip.rows r ≡ Some row → Meets x row
row_met ip x r row p e = subst (Meets x) (get_or_from_slice_get ip.rows r row row e) (p.rows r row (slice_get_within ip.rows r row e))

-- the box under an accepted `Tight` node holds each point of the box above
tight_child_keeps : (ends : Option (ℤ × ℤ)) (row : Row) (v : ℕ) (b : IpBox) (x : List ℤ) → InBox x b → Meets x row → tight_ends row v b ≡ ends → InBox x (elim ends [ Some e ↦ with_ends b v e | None ↦ b ])
tight_child_keeps None row v b x i m e = i
tight_child_keeps (Some (low, high)) row v b x i m e =
    let k = tight_keeps row v b x (low, high) i m e in
    InBox-with_ends x b v low high i k.0 k.1

tight_covers : (o : Option Row) (v : ℕ) (b : IpBox) (x : List ℤ) → ((row : Row) → o ≡ Some row → Meets x row) → InBox x b → InBox x (tight_child b v o)
tight_covers None v b x m i = i
tight_covers (Some row) v b x m i = tight_child_keeps (tight_ends row v b) row v b x i (m row refl) refl

pub row_leaf_empty : (o : Option Row) (b : IpBox) (x : List ℤ) → ((row : Row) → o ≡ Some row → Meets x row) → row_fault b o ≡ None → InBox x b → ⊥
row_leaf_empty None b x m h i = cc
row_leaf_empty (Some row) b x m h i =
    let t = test_from_none _ _ h in
    let low = least_of_le row.parts b x i in
    let met = m row refl in
    absurd (omega (arith, ints))

goal_leaf_none : (ip : Ip) (known : Option ℤ) (b : IpBox) (x : List ℤ) → ForSome known (λ u. u <ℤ value_of ip x) → goal_fault ip b known ≡ None → InBox x b → ⊥
goal_leaf_none ip None b x above h i = cc
goal_leaf_none ip (Some u) b x above h i =
    let t = test_from_none _ _ h in
    let high = most_of_ge ip.goal b x i in
    absurd (omega (arith, ints, above u refl))

pub point_count : (ip : Ip) (x : List ℤ) → IsPoint ip x → length x ≡ length ip.tops
point_count ip x p = p.in_root.count ∙ length-map ip.tops (λ _. pos 0)

-- the bound of a dual leaf that is accepted
pub dual_is : (u over : ℤ) (o : Option ℤ) → dual_short u over o ≡ None → (bound : ℤ) × (o ≡ Some bound) × (floor bound over ≤ℤ u)
dual_is u over None h = cc
dual_is u over (Some bound) h =
    let t = test_from_none _ why.DualShort h in
    (bound, refl, omega (arith, ints))

-- the sums of a far leaf that is accepted
pub far_is : (o : Option (ℤ × ℤ)) → far_short o ≡ None → (sums : ℤ × ℤ) × (o ≡ Some sums) × (sums.0 <ℤ sums.1)
far_is None h = cc
far_is (Some sums) h =
    let t = test_from_none _ why.DualShort h in
    (sums, refl, omega (arith, ints))

pub dual_never : (t : Bool) → cond {A = Option Why} t (Some why.DualShort) (Some why.BadVar) ≡ None → ⊥
dual_never true h = cc
dual_never false h = cc

dual_none : (ip : Ip) (known : Option ℤ) (b : IpBox) (over : ℤ) (ws : List Weight) (x : List ℤ) → dual_fault ip b known over ws ≡ None → IsBetter ip known x → InBox x b → ⊥
dual_none ip None b over ws x h better i = dual_never (rows_there ip ws) h
dual_none ip (Some u) b over ws x h better i =
    let there = fault_after (rows_there ip ws) _ why.BadVar h in
    let signs = fault_after (int_le (pos 1) over && none_negative ws) (dual_short u over (tried_dual ip b over ws)) why.DualShort there.1 in
    let t = and_parts (int_le (pos 1) over) (none_negative ws) signs.0 in
    let some = dual_is u over (tried_dual ip b over ws) signs.1 in
    let exact = dual_exact ip b over ws some.0 some.1 in
    let bound = value_le_dual ip b over ws x (point_count ip x better.point) (λ r row e. row_met ip x r row better.point e) t.1 i in
    let below = le_quotient some.0 over (value_of ip x) (omega (arith, ints)) (rw exact bound) in
    absurd (omega (arith, ints, better.above u refl))

far_empty : (ip : Ip) (b : IpBox) (ws : List Weight) (x : List ℤ) → far_fault ip b ws ≡ None → IsPoint ip x → InBox x b → ⊥
far_empty ip b ws x h point i =
    let there = fault_after (rows_there ip ws) _ why.BadVar h in
    let signs = fault_after (none_negative ws) (far_short (tried_far ip b ws)) why.DualShort there.1 in
    let some = far_is (tried_far ip b ws) signs.1 in
    let exact = far_exact ip b ws some.0 some.1 in
    let bound = rows_ge_least ip b ws x (point_count ip x point) (λ r row e. row_met ip x r row point e) signs.0 i in
    absurd (omega (arith, ints, exact.0, exact.1))

-- the boxes that an accepted node leaves open hold each better point of its box
covers : (ip : Ip) (known : Option ℤ) (b : IpBox) (node : Node) (x : List ℤ) → IsAccepted ip known b node → IsBetter ip known x → InBox x b → InSome x (children ip b node)
covers ip known b (Split v k) x h better i =
    by_lt_z k (at x v) (λ l. inr (inl (InBox-upper x b v k i l))) (λ g. inl (InBox-lower x b v k i g))
covers ip known b (Tight v r) x h better i =
    inl (tight_covers (slice_get ip.rows r) v b x (λ row e. row_met ip x r row better.point e) i)
covers ip known b (RowLeaf r) x h better i =
    row_leaf_empty (slice_get ip.rows r) b x (λ row e. row_met ip x r row better.point e) h i
covers ip known b GoalLeaf x h better i = goal_leaf_none ip known b x better.above h i
covers ip known b (Dual over ws) x h better i = dual_none ip known b over ws x h better i
covers ip known b (Far ws) x h better i = far_empty ip b ws x h better.point i
covers ip known b Unsolved x h better i = cc

-- where the nodes close the open boxes, none of these holds a better point
none_in_closed : (ip : Ip) (known : Option ℤ) (bs : List IpBox) (nodes : List Node) (x : List ℤ) → Leads ip (IsAccepted ip known) bs nodes [] → IsBetter ip known x → InSome x bs → ⊥
none_in_closed ip known [] nodes x c better i = i
none_in_closed ip known (b ∷ bs) [] x c better i = cc
none_in_closed ip known (b ∷ bs) (node ∷ nodes) x c better (inl i) =
    none_in_closed ip known (children ip b node ++ bs) nodes x c.1 better (InSome-append_left x (children ip b node) bs (covers ip known b node x c.0 better i))
none_in_closed ip known (b ∷ bs) (node ∷ nodes) x c better (inr i) =
    none_in_closed ip known (children ip b node ++ bs) nodes x c.1 better (InSome-append_right x (children ip b node) bs i)

none_better : (ip : Ip) (known : Option ℤ) (tree : Tree) → Accepts ip known tree → (x : List ℤ) → IsBetter ip known x → ⊥
none_better ip known tree a x better =
    none_in_closed ip known (root_of ip ∷ []) tree.nodes x a better (inl better.point.in_root)

pub none_above : (ip : Ip) (known : ℤ) (tree : Tree) → Accepts ip (Some known) tree → (x : List ℤ) → IsPoint ip x → value_of ip x ≤ℤ known
none_above ip known tree a x point =
    by_lt_z known (value_of ip x)
    (λ l. absurd (none_better ip (Some known) tree a x (record { point = point; above = λ u e. subst (λ (z : ℤ). z <ℤ value_of ip x) (some_same known u e) l })))
    (λ g. g)
  where
    some_same : (a b : ℤ) → Some a ≡ Some b → a ≡ b
    some_same a b e = cc

pub no_point : (ip : Ip) (tree : Tree) → Accepts ip None tree → (x : List ℤ) → IsPoint ip x → ⊥
no_point ip tree a x point =
    none_better ip None tree a x (record { point = point; above = λ u e. absurd (none_some u e) })
  where
    none_some : (b : ℤ) → None ≡ Some b → ⊥
    none_some b e = cc
