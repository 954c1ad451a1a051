-- The tests of nodes decide whether they are fair.
use Rattle.std.proofs.Common.{◌≡◌, ℕ, zero, suc, ℤ, pos, ◌<◌, ◌≤◌, ◌≤ℤ◌, ◌<ℤ◌, Bool, true, ◌&&◌, ◌⊎◌, List, [], ◌∷◌, length, map, get_or, Option, Some, None, is_some, nat_lt, nat_le, int_lt, int_le, slice_get, zero-add, arith, refl, sym, ap, ◌∙◌, subst}
use Rattle.std.specs.Bool.{Decides}
use Rattle.std.specs.Option.{ForSome}
use Rattle.std.specs.List.{list_all, range_with_len}
use Rattle.std.proofs.lemmas.Int.{ints}
use Rattle.std.proofs.lemmas.Bool.{ltb-true, leb-true, le-leb}
use Rattle.std.proofs.lemmas.Bool.Decides.{Decides-and, Decides-or, Decides-not, Decides-like, Decides-ltb}
use Rattle.std.proofs.lemmas.List.FromFn.{length-range_with_len, get_or-range_with_len}
use Rattle.std.proofs.lemmas.List.{length-map}
use Rattle.std.proofs.lemmas.Option.{slice_get_within, slice_get-get_or, get_or_from_slice_get}
use Rattle.int_program.specs.Sums.{at, sum_at}
use Rattle.int_program.specs.Boxes.{IsNonempty}
use Rattle.int_program.specs.Points.{Meets, IsPoint, IsBetter, value_of}
use Rattle.int_program.specs.Accepts.{lower_half, upper_half, tight_fault, row_fault, goal_fault}
use Rattle.int_program.specs.Fair.{NoRowLeaf, NoTightening, IsFairSplit, IsFairOpen, most_above}
use Rattle.int_program.specs.FairTrees.{IsFairNode}
use Rattle.int_program.specs.FirstUnfair.{in_order, is_filled, no_row_leaf, no_tightening, is_fair_split, is_point, is_above, is_better, is_fair_open, has_few_above, is_fair_node}
use Rattle.int_program.specs.declared.program.Ip.{Ip}
use Rattle.int_program.specs.declared.program.IpBox.{IpBox}
use Rattle.int_program.specs.declared.program.Row.{Row}
use Rattle.int_program.specs.declared.program.Place.{Place}
use Rattle.int_program.specs.declared.program.Node.{Node}
use Rattle.int_program.specs.declared.program.Node.TheVariants.{Split, Tight, Unsolved}
use Rattle.int_program.specs.declared.program.Why.{Why}
use Rattle.int_program.specs.declared.program.Why.TheVariants as why
use Rattle.int_program.proofs.TreeLaws.{fault_after}

int_le_decides : (a b : ℤ) → Decides (int_le a b) (a ≤ℤ b)
int_le_decides a b = (λ e. omega (arith, ints), λ h. grind (arith, ints))

int_lt_decides : (a b : ℤ) → Decides (int_lt a b) (a <ℤ b)
int_lt_decides a b = (λ e. omega (arith, ints), λ h. grind (arith, ints))

nat_le_decides : (a b : ℕ) → Decides (nat_le a b) (a ≤ b)
nat_le_decides a b = (leb-true a b, le-leb a b)

abbrev InOrder : List ℤ → List ℤ → Type 0
InOrder low high = (length low ≡ length high) × ((k : ℕ) → at low k ≤ℤ at high k)

order_head : (l h : ℤ) (low high : List ℤ) → InOrder (l ∷ low) (h ∷ high) → (l ≤ℤ h) × InOrder low high
order_head l h low high o = (o.1 0, (omega (arith, o.0), λ k. o.1 (suc k)))

order_more : (l h : ℤ) (low high : List ℤ) → (l ≤ℤ h) × InOrder low high → InOrder (l ∷ low) (h ∷ high)
order_more l h low high o = (omega (arith, o.1.0), by)
  where
    by : (k : ℕ) → at (l ∷ low) k ≤ℤ at (h ∷ high) k
    by zero = o.0
    by (suc k) = o.1.1 k

in_order_decides : (low high : List ℤ) → Decides (in_order low high) (InOrder low high)
in_order_decides [] [] = (λ e. (refl, λ k. omega (arith, ints)), λ o. refl)
in_order_decides [] (h ∷ high) = (λ e. cc, λ o. absurd (omega (arith, o.0)))
in_order_decides (l ∷ low) [] = (λ e. cc, λ o. absurd (omega (arith, o.0)))
in_order_decides (l ∷ low) (h ∷ high) =
    Decides-like (int_le l h && in_order low high) (order_more l h low high) (order_head l h low high) (Decides-and (int_le l h) (in_order low high) (int_le_decides l h) (in_order_decides low high))

filled_decides : (b : IpBox) → Decides (is_filled b) (IsNonempty b)
filled_decides b =
    Decides-like (is_filled b) (λ o. record { lengths = o.0; ends = o.1 }) (λ n. (n.lengths, n.ends)) (in_order_decides b.low b.high)

-- a fault, or none
fault_decides : (o : Option Why) → Decides (is_some o) (o ≡ None → ⊥)
fault_decides None = (λ e. cc, λ h. absurd (h refl))
fault_decides (Some w) = (λ e n. cc, λ h. refl)

-- each of a list, by its number
abbrev EachOf : {X : Type 0} → (X → Type 0) → List X → Type 0
EachOf {X} P xs = (k : ℕ) (x : X) → slice_get xs k ≡ Some x → P x

each_head : {X : Type 0} (P : X → Type 0) (y : X) (xs : List X) → EachOf P (y ∷ xs) → P y × EachOf P xs
each_head P y xs h = (h 0 y refl, λ k x e. h (suc k) x e)

each_more : {X : Type 0} (P : X → Type 0) (y : X) (xs : List X) → P y × EachOf P xs → EachOf P (y ∷ xs)
each_more P y xs h = by
  where
    by : EachOf P (y ∷ xs)
    by zero x e = subst P (get_or_from_slice_get (y ∷ xs) 0 x y e) h.0
    by (suc k) x e = h.1 k x e

each_none : {X : Type 0} (P : X → Type 0) → EachOf {X = X} P []
each_none P k x e = cc

all_decides : {X : Type 0} (test : X → Bool) (P : X → Type 0) → ((x : X) → Decides (test x) (P x)) → (xs : List X) → Decides (list_all test xs) (EachOf P xs)
all_decides test P d [] = (λ e. each_none P, λ h. refl)
all_decides test P d (y ∷ xs) =
    Decides-like (test y && list_all test xs) (each_more P y xs) (each_head P y xs) (Decides-and (test y) (list_all test xs) (d y) (all_decides test P d xs))

-- a row that isn't there gives no leaf
row_there : (ip : Ip) (b : IpBox) → EachOf (λ row. row_fault b (Some row) ≡ None → ⊥) ip.rows → NoRowLeaf ip b
row_there ip b h r = by (slice_get ip.rows r) refl
  where
    by : (o : Option Row) → slice_get ip.rows r ≡ o → row_fault b o ≡ None → ⊥
    by None e f = cc
    by (Some row) e f = h r row e f

row_of_each : (ip : Ip) (b : IpBox) → NoRowLeaf ip b → EachOf (λ row. row_fault b (Some row) ≡ None → ⊥) ip.rows
row_of_each ip b h k row e f = h k (subst (λ o. row_fault b o ≡ None) (sym e) f)

row_decides : (ip : Ip) (b : IpBox) → Decides (no_row_leaf ip b) (NoRowLeaf ip b)
row_decides ip b =
    Decides-like (no_row_leaf ip b) (row_there ip b) (row_of_each ip b) (all_decides (λ row. is_some (row_fault b (Some row))) (λ row. row_fault b (Some row) ≡ None → ⊥) (λ row. fault_decides (row_fault b (Some row))) ip.rows)

-- nor does a row that isn't there, or a variable that isn't, give a tightening
abbrev NotTight : Ip → IpBox → ℕ → Row → Type 0
NotTight ip b v row = tight_fault (length ip.tops) b v (Some row) ≡ None → ⊥

abbrev NoneTight : Ip → IpBox → ℕ → Type 0
NoneTight ip b v = EachOf (NotTight ip b v) ip.rows

tight_var : (n : ℕ) (b : IpBox) (v : ℕ) (o : Option Row) → tight_fault n b v o ≡ None → v < n
tight_var n b v None e = cc
tight_var n b v (Some row) e = ltb-true v n (fault_after (nat_lt v n) _ why.BadVar e).0

range_at : (n v : ℕ) → v < n → slice_get (range_with_len 0 n) v ≡ Some v
range_at n v l =
    let r = range_with_len 0 n in
    slice_get-get_or r v 0 (omega (arith, length-range_with_len 0 n)) ∙ ap (λ (k : ℕ). Some k) (get_or-range_with_len 0 n v 0 l ∙ zero-add v)

tight_there : (ip : Ip) (b : IpBox) → EachOf (NoneTight ip b) (range_with_len 0 (length ip.tops)) → NoTightening ip b
tight_there ip b h v r = by (slice_get ip.rows r) refl
  where
    by : (o : Option Row) → slice_get ip.rows r ≡ o → tight_fault (length ip.tops) b v o ≡ None → ⊥
    by None e f = cc
    by (Some row) e f = h v v (range_at (length ip.tops) v (tight_var (length ip.tops) b v (Some row) f)) r row e f

tight_of_each : (ip : Ip) (b : IpBox) → NoTightening ip b → EachOf (NoneTight ip b) (range_with_len 0 (length ip.tops))
tight_of_each ip b h k v l r row e f = h v r (subst (λ o. tight_fault (length ip.tops) b v o ≡ None) (sym e) f)

tight_decides : (ip : Ip) (b : IpBox) → Decides (no_tightening ip b) (NoTightening ip b)
tight_decides ip b =
    let test : ℕ → Row → Bool = λ v row. is_some (tight_fault (length ip.tops) b v (Some row)) in
    let rows : (v : ℕ) → Decides (list_all (test v) ip.rows) (NoneTight ip b v) = λ v. all_decides (test v) (NotTight ip b v) (λ row. fault_decides (tight_fault (length ip.tops) b v (Some row))) ip.rows in
    Decides-like (no_tightening ip b) (tight_there ip b) (tight_of_each ip b) (all_decides (λ v. list_all (test v) ip.rows) (NoneTight ip b) rows (range_with_len 0 (length ip.tops)))

-- a fair split, part by part
abbrev SplitParts : ℕ → Ip → IpBox → ℕ → ℤ → Type 0
SplitParts above ip b v k =
    IsNonempty b × (NoRowLeaf ip b × ((v < length ip.tops) × (IsNonempty (lower_half b v k) × (IsNonempty (upper_half b v k) × (NoTightening ip b ⊎ (most_above ≤ above))))))

split_from_parts : (above : ℕ) (ip : Ip) (b : IpBox) (v : ℕ) (k : ℤ) → SplitParts above ip b v k → IsFairSplit true above ip b v k
split_from_parts above ip b v k s =
    record { nonempty = s.0; no_row = s.1.0; var = s.1.1.0; lower = s.1.1.1.0; upper = s.1.1.1.1.0; narrow = λ _. s.1.1.1.1.1 }

split_parts : (above : ℕ) (ip : Ip) (b : IpBox) (v : ℕ) (k : ℤ) → IsFairSplit true above ip b v k → SplitParts above ip b v k
split_parts above ip b v k f = (f.nonempty, (f.no_row, (f.var, (f.lower, (f.upper, f.narrow refl)))))

split_decides : (above : ℕ) (ip : Ip) (b : IpBox) (v : ℕ) (k : ℤ) → Decides (is_fair_split above ip b v k) (IsFairSplit true above ip b v k)
split_decides above ip b v k =
    let last = Decides-or (no_tightening ip b) (nat_le most_above above) (tight_decides ip b) (nat_le_decides most_above above) in
    let upper = Decides-and (is_filled (upper_half b v k)) _ (filled_decides (upper_half b v k)) last in
    let lower = Decides-and (is_filled (lower_half b v k)) _ (filled_decides (lower_half b v k)) upper in
    let var = Decides-and (nat_lt v (length ip.tops)) _ (Decides-ltb v (length ip.tops)) lower in
    let row = Decides-and (no_row_leaf ip b) _ (row_decides ip b) var in
    Decides-like (is_fair_split above ip b v k) (split_from_parts above ip b v k) (split_parts above ip b v k) (Decides-and (is_filled b) _ (filled_decides b) row)

-- a point, part by part
abbrev PointParts : Ip → List ℤ → Type 0
PointParts ip x = InOrder (map (λ _. pos 0) ip.tops) x × (InOrder x ip.tops × EachOf (λ row. sum_at row.parts x ≤ℤ row.most) ip.rows)

point_from_parts : (ip : Ip) (x : List ℤ) → PointParts ip x → IsPoint ip x
point_from_parts ip x p =
    record {
      in_root = record { count = sym p.0.0; ends = λ k. (p.0.1 k, p.1.0.1 k) };
      rows = λ k d l. p.1.1 k (get_or ip.rows k d) (slice_get-get_or ip.rows k d l);
    }

point_parts : (ip : Ip) (x : List ℤ) → IsPoint ip x → PointParts ip x
point_parts ip x p =
    let in_root = p.in_root in
    ((sym in_root.count, λ k. (in_root.ends k).0), ((in_root.count ∙ length-map ip.tops (λ _. pos 0), λ k. (in_root.ends k).1), λ k row e. subst (Meets x) (get_or_from_slice_get ip.rows k row row e) (p.rows k row (slice_get_within ip.rows k row e))))

point_decides : (ip : Ip) (x : List ℤ) → Decides (is_point ip x) (IsPoint ip x)
point_decides ip x =
    let rows = all_decides (λ row. int_le (sum_at row.parts x) row.most) (λ row. sum_at row.parts x ≤ℤ row.most) (λ row. int_le_decides (sum_at row.parts x) row.most) ip.rows in
    let high = Decides-and (in_order x ip.tops) _ (in_order_decides x ip.tops) rows in
    Decides-like (is_point ip x) (point_from_parts ip x) (point_parts ip x) (Decides-and (in_order (map (λ _. pos 0) ip.tops) x) _ (in_order_decides (map (λ _. pos 0) ip.tops) x) high)

above_decides : (known : Option ℤ) (z : ℤ) → Decides (is_above known z) (ForSome known (λ u. u <ℤ z))
above_decides None z = (λ e v h. cc, λ h. refl)
above_decides (Some u) z =
    let inner : (v : ℤ) → Some u ≡ Some v → u ≡ v = λ v e. cc in
    Decides-like (int_lt u z) (λ h v e. subst (λ (w : ℤ). w <ℤ z) (inner v e) h) (λ h. h u refl) (int_lt_decides u z)

better_decides : (ip : Ip) (known : Option ℤ) (x : List ℤ) → Decides (is_better ip known x) (IsBetter ip known x)
better_decides ip known x =
    Decides-like (is_better ip known x) (λ h. record { point = h.0; above = h.1 }) (λ h. (h.point, h.above)) (Decides-and (is_point ip x) _ (point_decides ip x) (above_decides known (value_of ip x)))

open_decides : (ip : Ip) (known : Option ℤ) (b : IpBox) → Decides (is_fair_open ip known b) (IsFairOpen ip known b)
open_decides ip known b =
    let low = Decides-not (is_better ip known b.low) (better_decides ip known b.low) in
    let goal = Decides-and (is_some (goal_fault ip b known)) _ (fault_decides (goal_fault ip b known)) low in
    Decides-like (is_fair_open ip known b) (λ h. record { no_row = h.0; no_goal = h.1.0; low_point = h.1.1 }) (λ h. (h.no_row, (h.no_goal, h.low_point))) (Decides-and (no_row_leaf ip b) _ (row_decides ip b) goal)

-- a leaf other than an open one asks only how many tightenings stand above it
leaf_decides : (above : ℕ) → Decides (has_few_above above) (above ≤ most_above)
leaf_decides above = nat_le_decides above most_above

pub node_decides : (ip : Ip) (known : Option ℤ) (p : Place) (node : Node) → Decides (is_fair_node ip known p node) (IsFairNode ip known p node)
node_decides ip known p (Split v k) =
    Decides-like (is_fair_node ip known p (Split v k)) (λ h. record { fair = h.0; few = h.1 }) (λ h. (h.fair, h.few)) (Decides-and (is_fair_split p.above ip p.within v k) _ (split_decides p.above ip p.within v k) (leaf_decides p.above))
node_decides ip known p (Tight v r) = (λ e. record { fair = tt; few = tt }, λ h. refl)
node_decides ip known p Unsolved =
    Decides-like (is_fair_node ip known p Unsolved) (λ h. record { fair = h.0; few = h.1 }) (λ h. (h.fair, h.few)) (Decides-and (is_fair_open ip known p.within) _ (open_decides ip known p.within) (leaf_decides p.above))
node_decides ip known p other =
    Decides-like (is_fair_node ip known p other) (λ h. record { fair = tt; few = h }) (λ h. h.few) (leaf_decides p.above)
