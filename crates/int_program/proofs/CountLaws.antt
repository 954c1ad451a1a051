-- Each split uses up one of the splits that the points of the open boxes allow.
use Rattle.std.proofs.Common.{◌≡◌, ℕ, zero, suc, ℤ, pos, ◌+◌, ◌-◌, ◌*◌, ◌<◌, ◌≤◌, ◌+ℤ◌, ◌-ℤ◌, ◌≤ℤ◌, ◌<ℤ◌, List, [], ◌∷◌, ◌++◌, length, map, set, Bool, true, false, cond, ◌&&◌, ◌⊎◌, inl, inr, nat_lt, int_lt, int_le, Option, Some, None, unsigned_abs, slice_get, arith, refl, sym, ap, ◌∙◌, subst, ⊎_elim}
use Rattle.std.proofs.lemmas.Int.{ints}
use Rattle.std.proofs.lemmas.Bool.{and_parts, ltb-true}
use Rattle.std.proofs.lemmas.Option.{cond_some}
use Rattle.std.proofs.lemmas.List.{length-set, length-map, get_or-set_same}
use Rattle.std.proofs.lemmas.List.Sums.{sum_by-cons}
use Rattle.std.proofs.Math.Nat.{mul-le-mul_left}
use Rattle.int_program.specs.Sums.{at}
use Rattle.int_program.specs.Boxes.{IsNonempty, root_of}
use Rattle.int_program.specs.Tightening.{factor, left_over, floor, ceiling, shrunk, tight_ends}
use Rattle.int_program.specs.Accepts.{IsAccepted, split_fault, with_ends, tight_child, children, Leads, Accepts}
use Rattle.int_program.specs.Counting.{tops_product, root_points, is_split, split_count, IsCut, CutsOnly, IsCutTree}
use Rattle.int_program.specs.declared.program.Ip.{Ip}
use Rattle.int_program.specs.declared.program.IpBox.{IpBox}
use Rattle.int_program.specs.declared.program.Row.{Row}
use Rattle.int_program.specs.declared.program.Tree.{Tree}
use Rattle.int_program.specs.declared.program.Node.{Node}
use Rattle.int_program.specs.declared.program.Node.TheVariants.{Split, Tight, RowLeaf, GoalLeaf, Dual, Far, Unsolved}
use Rattle.int_program.specs.declared.program.Why.TheVariants as why
use Rattle.int_program.proofs.BoundLaws.{at_set}
use Rattle.int_program.proofs.TreeLaws.{test_from_none, fault_after}

-- how many points lie between two lists of ends
abbrev pub points : List ℤ → List ℤ → ℕ
points [] high = 1
points (l ∷ low) [] = 1
points (l ∷ low) (h ∷ high) = (unsigned_abs (h -ℤ l) + 1) * points low high

-- how many splits the open boxes can still take at most
abbrev pub splits_left : List IpBox → ℕ
splits_left [] = 0
splits_left (b ∷ bs) = (points b.low b.high - 1) + splits_left bs

pub points_positive : (low high : List ℤ) → 0 < points low high
points_positive [] high = omega arith
points_positive (l ∷ low) [] = omega arith
points_positive (l ∷ low) (h ∷ high) =
    let rest = points_positive low high in
    omega (arith, mul-le-mul_left (unsigned_abs (h -ℤ l) + 1) rest)

spans : (l k h : ℤ) → l ≤ℤ k → k <ℤ h → (unsigned_abs (k -ℤ l) + 1) + (unsigned_abs (h -ℤ (k +ℤ pos 1)) + 1) ≡ unsigned_abs (h -ℤ l) + 1
spans l k h p q = omega (arith, ints)

-- a split shares the points of a box out
pub points_split : (low high : List ℤ) (v : ℕ) (k : ℤ) → v < length low → length low ≡ length high → at low v ≤ℤ k → k <ℤ at high v → points low (set high v k) + points (set low v (k +ℤ pos 1)) high ≡ points low high
points_split [] high v k l e p q = absurd (omega arith)
points_split (x ∷ low) [] v k l e p q = absurd (omega arith)
points_split (x ∷ low) (y ∷ high) zero k l e p q =
    let s = ap (λ t. t * points low high) (spans x k y p q) in
    omega arith
points_split (x ∷ low) (y ∷ high) (suc v) k l e p q =
    let rest = ap (λ t. (unsigned_abs (y -ℤ x) + 1) * t) (points_split low high v k (omega arith) (omega arith) p q) in
    omega arith

narrower : (x l h y : ℤ) → x ≤ℤ l → l ≤ℤ h → h ≤ℤ y → unsigned_abs (h -ℤ l) + 1 ≤ unsigned_abs (y -ℤ x) + 1
narrower x l h y p q r = omega (arith, ints)

times_le : (a b c : ℕ) → a ≤ b → a * c ≤ b * c
times_le a b c h = omega (arith, mul-le-mul_left c h)

-- narrower ends leave no more points
points_shrunk : (low high : List ℤ) (v : ℕ) (l h : ℤ) → at low v ≤ℤ l → l ≤ℤ h → h ≤ℤ at high v → points (set low v l) (set high v h) ≤ points low high
points_shrunk [] high v l h p q r = omega arith
points_shrunk (x ∷ low) [] zero l h p q r = omega arith
points_shrunk (x ∷ low) [] (suc v) l h p q r = omega arith
points_shrunk (x ∷ low) (y ∷ high) zero l h p q r =
    times_le (unsigned_abs (h -ℤ l) + 1) (unsigned_abs (y -ℤ x) + 1) (points low high) (narrower x l h y p q r)
points_shrunk (x ∷ low) (y ∷ high) (suc v) l h p q r =
    mul-le-mul_left (unsigned_abs (y -ℤ x) + 1) (points_shrunk low high v l h p q r)

root_counts : (tops : List ℤ) → points (map (λ _. pos 0) tops) tops ≡ tops_product tops
root_counts [] = refl
root_counts (top ∷ tops) =
    let same : unsigned_abs (top -ℤ pos 0) + 1 ≡ unsigned_abs top + 1 = omega (arith, ints) in
    ap (λ t. t * points (map (λ _. pos 0) tops) tops) same ∙ ap (λ t. (unsigned_abs top + 1) * t) (root_counts tops)

-- a nonempty box with the program's variables
pub record Fits (ip : Ip) (b : IpBox) : Type 0 where
  pub nonempty : IsNonempty b
  pub count : length b.low ≡ length ip.tops

abbrev pub AllFit : Ip → List IpBox → Type 0
AllFit ip [] = Unit {0}
AllFit ip (b ∷ bs) = Fits ip b × AllFit ip bs

all_fit_append : (ip : Ip) (bs cs : List IpBox) → AllFit ip bs → AllFit ip cs → AllFit ip (bs ++ cs)
all_fit_append ip [] cs h k = k
all_fit_append ip (b ∷ bs) cs h k = (h.0, all_fit_append ip bs cs h.1 k)

-- a node's children fit, and a split uses up one of the splits that are left
pub record Uses (ip : Ip) (b : IpBox) (bs : List IpBox) (node : Node) : Type 0 where
  pub fit : AllFit ip (children ip b node)
  pub less : splits_left (children ip b node ++ bs) + cond (is_split node) 1 0 ≤ splits_left (b ∷ bs)

cut_low : (b : IpBox) (v : ℕ) (k : ℤ) → IsCut b v k → at b.low v ≤ℤ k
cut_low b v k c =
    let same = get_or-set_same b.high v k (pos 0) (omega (arith, c.var, c.nonempty.lengths)) in
    subst (λ (z : ℤ). at b.low v ≤ℤ z) same (c.lower.ends v)

cut_high : (b : IpBox) (v : ℕ) (k : ℤ) → IsCut b v k → k <ℤ at b.high v
cut_high b v k c =
    let same = get_or-set_same b.low v (k +ℤ pos 1) (pos 0) c.var in
    let above : (k +ℤ pos 1) ≤ℤ at b.high v = subst (λ (z : ℤ). z ≤ℤ at b.high v) same (c.upper.ends v) in
    omega (arith, ints)

split_uses : (ip : Ip) (b : IpBox) (bs : List IpBox) (v : ℕ) (k : ℤ) → Fits ip b → IsCut b v k → Uses ip b bs (Split v k)
split_uses ip b bs v k f c =
    let s = points_split b.low b.high v k c.var c.nonempty.lengths (cut_low b v k c) (cut_high b v k c) in
    let one = points_positive b.low (set b.high v k) in
    let two = points_positive (set b.low v (k +ℤ pos 1)) b.high in
    record {
      fit = (record { nonempty = c.lower; count = f.count }, (record { nonempty = c.upper; count = length-set b.low v (k +ℤ pos 1) ∙ f.count }, tt));
      less = omega arith;
    }

-- the ends that are left lie between the old ones
pub shrunk_between : (a low high up down : ℤ) (ends : ℤ × ℤ) → low ≤ℤ high → shrunk a low high up down ≡ Some ends → (low ≤ℤ ends.0) × (ends.0 ≤ℤ ends.1) × (ends.1 ≤ℤ high)
shrunk_between a low high up down ends h = by (int_lt (pos 0) a) (int_lt a (pos 0))
  where
    by : (t s : Bool) → cond t (cond {A = Option (ℤ × ℤ)} (int_le low down && int_lt down high) (Some (low, down)) None) (cond {A = Option (ℤ × ℤ)} (s && (int_lt low up && int_le up high)) (Some (up, high)) None) ≡ Some ends → (low ≤ℤ ends.0) × (ends.0 ≤ℤ ends.1) × (ends.1 ≤ℤ high)
    by true s e =
        let is = cond_some (int_le low down && int_lt down high) (low, down) ends e in
        let t = and_parts (int_le low down) (int_lt down high) is.0 in
        subst (λ (w : ℤ × ℤ). (low ≤ℤ w.0) × (w.0 ≤ℤ w.1) × (w.1 ≤ℤ high)) is.1 (omega (arith, ints), omega (arith, ints), omega (arith, ints))
    by false true e =
        let is = cond_some (int_lt low up && int_le up high) (up, high) ends e in
        let t = and_parts (int_lt low up) (int_le up high) is.0 in
        subst (λ (w : ℤ × ℤ). (low ≤ℤ w.0) × (w.0 ≤ℤ w.1) × (w.1 ≤ℤ high)) is.1 (omega (arith, ints), omega (arith, ints), omega (arith, ints))
    by false false e = cc

-- a pair of written ends stays in order at each place
ordered : (b : IpBox) (v : ℕ) (l h : ℤ) → IsNonempty b → at b.low v ≤ℤ l → l ≤ℤ h → h ≤ℤ at b.high v → (j : ℕ) → at (set b.low v l) j ≤ℤ at (set b.high v h) j
ordered b v l h n p q r j = by (at_set b.low v l j) (at_set b.high v h j)
  where
    by : (at (set b.low v l) j ≡ at b.low j) ⊎ ((j ≡ v) × (at (set b.low v l) j ≡ l)) → (at (set b.high v h) j ≡ at b.high j) ⊎ ((j ≡ v) × (at (set b.high v h) j ≡ h)) → at (set b.low v l) j ≤ℤ at (set b.high v h) j
    by (inl e) (inl f) = rw (e, f) (n.ends j)
    by (inl e) (inr f) = rw (e, f.1) (subst (λ i. at b.low i ≤ℤ h) (sym f.0) (omega (arith, ints)))
    by (inr e) (inl f) = rw (e.1, f) (subst (λ i. l ≤ℤ at b.high i) (sym e.0) (omega (arith, ints)))
    by (inr e) (inr f) = rw (e.1, f.1) q

record Shrinks (ip : Ip) (b c : IpBox) : Type 0 where
  fits : Fits ip c
  less : points c.low c.high ≤ points b.low b.high

shrinks_ends : (ip : Ip) (b : IpBox) (v : ℕ) (l h : ℤ) → Fits ip b → (at b.low v ≤ℤ l) × (l ≤ℤ h) × (h ≤ℤ at b.high v) → Shrinks ip b (with_ends b v (l, h))
shrinks_ends ip b v l h f k =
    record {
      fits = record {
        nonempty = record { lengths = length-set b.low v l ∙ f.nonempty.lengths ∙ sym (length-set b.high v h); ends = ordered b v l h f.nonempty k.0 k.1 k.2 };
        count = length-set b.low v l ∙ f.count;
      };
      less = points_shrunk b.low b.high v l h k.0 k.1 k.2;
    }

shrinks_by : (ends : Option (ℤ × ℤ)) (ip : Ip) (row : Row) (v : ℕ) (b : IpBox) → Fits ip b → tight_ends row v b ≡ ends → Shrinks ip b (elim ends [ Some e ↦ with_ends b v e | None ↦ b ])
shrinks_by None ip row v b f e = record { fits = f; less = omega arith }
shrinks_by (Some (low, high)) ip row v b f e =
    let a = factor row.parts v in
    shrinks_ends ip b v low high f (shrunk_between a (at b.low v) (at b.high v) (ceiling (left_over row v b) a) (floor (left_over row v b) a) (low, high) (f.nonempty.ends v) e)

shrinks : (o : Option Row) (ip : Ip) (v : ℕ) (b : IpBox) → Fits ip b → Shrinks ip b (tight_child b v o)
shrinks None ip v b f = record { fits = f; less = omega arith }
shrinks (Some row) ip v b f = shrinks_by (tight_ends row v b) ip row v b f refl

pub cut_uses : (ip : Ip) (b : IpBox) (bs : List IpBox) (node : Node) → Fits ip b → CutsOnly ip b node → Uses ip b bs node
cut_uses ip b bs (Split v k) f c = split_uses ip b bs v k f c
cut_uses ip b bs (Tight v r) f c =
    let s = shrinks (slice_get ip.rows r) ip v b f in
    record { fit = (s.fits, tt); less = omega (arith, s.less) }
cut_uses ip b bs other f c = record { fit = tt; less = omega arith }

-- an accepted split cuts
pub accepted_cut : (ip : Ip) (b : IpBox) (v : ℕ) (k : ℤ) → Fits ip b → split_fault (length ip.tops) b v k ≡ None → IsCut b v k
accepted_cut ip b v k f e =
    let there = fault_after (nat_lt v (length ip.tops)) _ why.BadVar e in
    let t = and_parts (int_le (at b.low v) k) (int_lt k (at b.high v)) (test_from_none _ why.BadSplit there.1) in
    let var : v < length ip.tops = ltb-true v (length ip.tops) there.0 in
    let n = f.nonempty in
    record {
      nonempty = n;
      var = omega (arith, var, f.count);
      lower = record {
        lengths = n.lengths ∙ sym (length-set b.high v k);
        ends = λ j. ⊎_elim (λ e. rw e (n.ends j)) (λ e. rw (e.1) (subst (λ i. at b.low i ≤ℤ k) (sym e.0) (omega (arith, ints)))) (at_set b.high v k j);
      };
      upper = record {
        lengths = length-set b.low v (k +ℤ pos 1) ∙ n.lengths;
        ends = λ j. ⊎_elim (λ e. rw e (n.ends j)) (λ e. rw (e.1) (subst (λ i. (k +ℤ pos 1) ≤ℤ at b.high i) (sym e.0) (omega (arith, ints)))) (at_set b.low v (k +ℤ pos 1) j);
      };
    }

pub accepted_uses : (ip : Ip) (known : Option ℤ) (b : IpBox) (bs : List IpBox) (node : Node) → Fits ip b → IsAccepted ip known b node → Uses ip b bs node
accepted_uses ip known b bs (Split v k) f e = split_uses ip b bs v k f (accepted_cut ip b v k f e)
accepted_uses ip known b bs (Tight v r) f e = cut_uses ip b bs (Tight v r) f e
accepted_uses ip known b bs (RowLeaf r) f e = cut_uses ip b bs (RowLeaf r) f tt
accepted_uses ip known b bs GoalLeaf f e = cut_uses ip b bs GoalLeaf f tt
accepted_uses ip known b bs (Dual over ws) f e = cut_uses ip b bs (Dual over ws) f tt
accepted_uses ip known b bs (Far ws) f e = cut_uses ip b bs (Far ws) f tt
accepted_uses ip known b bs Unsolved f e = cut_uses ip b bs Unsolved f tt

pub splits_at_most : (ip : Ip) (G : IpBox → Node → Type 0) → ((b : IpBox) (bs : List IpBox) (node : Node) → Fits ip b → G b node → Uses ip b bs node) → (bs : List IpBox) (nodes : List Node) → AllFit ip bs → Leads ip G bs nodes [] → split_count nodes ≤ splits_left bs
splits_at_most ip G uses bs [] f l = omega arith
splits_at_most ip G uses [] (node ∷ nodes) f l = absurd l
splits_at_most ip G uses (b ∷ bs) (node ∷ nodes) f l =
    let u = uses b bs node f.0 l.0 in
    let rest = splits_at_most ip G uses (children ip b node ++ bs) nodes (all_fit_append ip (children ip b node) bs u.fit f.1) l.1 in
    omega (arith, u.less, sum_by-cons (λ x. cond (is_split x) 1 0) node nodes)

pub fewer : (ip : Ip) (G : IpBox → Node → Type 0) → ((b : IpBox) (bs : List IpBox) (node : Node) → Fits ip b → G b node → Uses ip b bs node) → (nodes : List Node) → IsNonempty (root_of ip) → Leads ip G (root_of ip ∷ []) nodes [] → split_count nodes < root_points ip
fewer ip G uses nodes n l =
    let most = splits_at_most ip G uses (root_of ip ∷ []) nodes (record { nonempty = n; count = length-map ip.tops (λ _. pos 0) }, tt) l in
    let some = points_positive (root_of ip).low (root_of ip).high in
    omega (arith, root_counts ip.tops)

pub accepted_fewer : (ip : Ip) (known : Option ℤ) (tree : Tree) → IsNonempty (root_of ip) → Accepts ip known tree → split_count tree.nodes < root_points ip
accepted_fewer ip known tree n a = fewer ip (IsAccepted ip known) (accepted_uses ip known) tree.nodes n a

pub cut_fewer : (ip : Ip) (tree : Tree) → IsNonempty (root_of ip) → IsCutTree ip tree → split_count tree.nodes < root_points ip
cut_fewer ip tree n a = fewer ip (CutsOnly ip) (cut_uses ip) tree.nodes n a
