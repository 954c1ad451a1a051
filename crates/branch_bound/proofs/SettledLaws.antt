-- The tree of settled lines: what is open, what is accepted, and that it is fair.
use Rattle.std.proofs.Common.{◌≡◌, ℕ, zero, suc, ℤ, ◌<◌, ◌≤◌, ◌+ℤ◌, Bool, true, false, cond, List, [], ◌∷◌, ◌++◌, map, Option, Some, None, int_le, count_by, arith, refl, sym, ap, ◌∙◌, subst}
use Rattle.std.proofs.lemmas.Bool.{true≢false}
use Rattle.std.proofs.lemmas.List.Sums.{sum_by-cons}
use Rattle.std.specs.Option.{ForSome}
use Rattle.int_program.specs.Boxes.{root_of}
use Rattle.int_program.specs.Bounds.{most_of}
use Rattle.int_program.specs.Limits.{IsInLimits}
use Rattle.int_program.specs.Points.{IsPoint, value_of}
use Rattle.int_program.specs.Accepts.{IsAccepted, Accepts}
use Rattle.int_program.specs.Counting.{is_split, split_count, is_open, open_count}
use Rattle.int_program.specs.Fair.{most_above}
use Rattle.int_program.specs.Places.{place, opened, Fills}
use Rattle.int_program.specs.FairTrees.{IsFairNode, IsOpenOrAccepted, IsAcceptedButOpen}
use Rattle.int_program.specs.declared.program.Ip.{Ip}
use Rattle.int_program.specs.declared.program.Place.{Place}
use Rattle.int_program.specs.declared.program.Point.{Point}
use Rattle.int_program.specs.declared.program.Tree.{Tree}
use Rattle.int_program.specs.declared.program.Node.{Node}
use Rattle.int_program.specs.declared.program.Node.TheVariants.{Split, Tight, RowLeaf, GoalLeaf, Dual, Far, Unsolved}
use Rattle.int_program.specs.declared.program.Why.TheVariants as why
use Rattle.int_program.proofs.InsideLaws.{root_inside, inside_nonempty}
use Rattle.int_program.proofs.PlaceLaws.{same_boxes, open_fewer}
use Rattle.int_program.proofs.TreeLaws.{test_from_none}
use Rattle.branch_bound.specs.Found.{known_by, IsSearched, IsBest, IsNoPoint, IsUnfinished}
use Rattle.branch_bound.specs.Lines.{node_of, settled_node, is_split_line, is_left, IsLeft, IsBestKnown, IsPlaced, Follows, IsClosed}
use Rattle.branch_bound.specs.declared.line.Line.{Line}
use Rattle.branch_bound.specs.declared.line.Line.TheVariants.{Done, Left}

-- the two ways in which a box that is left is settled
by_value : (P : Node → Type 0) (t : Bool) → P GoalLeaf → P Unsolved → P (cond t GoalLeaf Unsolved)
by_value P true g u = g
by_value P false g u = u

-- a settled line opens what the line opened
settled_opens : (ip : Ip) (known : Option ℤ) (p : Place) (line : Line) → opened ip p (node_of line) ≡ opened ip p (settled_node known line)
settled_opens ip known p (Done node) = refl
settled_opens ip None p (Left most) = refl
settled_opens ip (Some value) p (Left most) = by_value (λ node. [] ≡ opened ip p node) (int_le most value) refl refl

pub settled_fills : (ip : Ip) (known : Option ℤ) (G : Place → Line → Type 0) (H : Place → Node → Type 0) → ((p : Place) (line : Line) → G p line → H p (settled_node known line)) → (ps : List Place) (lines : List Line) (rest : List Place) → Follows ip G ps lines rest → Fills ip H ps (map (settled_node known) lines) rest
settled_fills ip known G H f ps [] rest h = h
settled_fills ip known G H f [] (l ∷ lines) rest h = absurd h
settled_fills ip known G H f (p ∷ ps) (l ∷ lines) rest h =
    let more = settled_fills ip known G H f (opened ip p (node_of l) ++ ps) lines rest h.1 in
    (f p l h.0, subst (λ qs. Fills ip H (qs ++ ps) (map (settled_node known) lines) rest) (settled_opens ip known p l) more)

test_passes : {W : Type 0} (t : Bool) (w : W) → t ≡ true → cond t None (Some w) ≡ None
test_passes true w e = refl
test_passes false w e = cc

-- a goal leaf that stands for a box that was left is accepted, and one that doesn't isn't
goal_settled : (ip : Ip) (value : ℤ) (p : Place) (most : ℤ) → most ≡ most_of ip.goal p.within +ℤ ip.base → int_le most value ≡ true → IsAccepted ip (Some value) p.within GoalLeaf
goal_settled ip value p most e t = test_passes (int_le (most_of ip.goal p.within +ℤ ip.base) value) why.ObjAbove (subst (λ (z : ℤ). int_le z value ≡ true) e t)

goal_open : (ip : Ip) (value : ℤ) (p : Place) (most : ℤ) → most ≡ most_of ip.goal p.within +ℤ ip.base → int_le most value ≡ false → IsAccepted ip (Some value) p.within GoalLeaf → ⊥
goal_open ip value p most e t a =
    let yes : int_le (most_of ip.goal p.within +ℤ ip.base) value ≡ true = test_from_none (int_le (most_of ip.goal p.within +ℤ ip.base) value) why.ObjAbove a in
    let no : int_le (most_of ip.goal p.within +ℤ ip.base) value ≡ false = subst (λ (z : ℤ). int_le z value ≡ false) e t in
    true≢false (sym yes ∙ no)

-- each settled node is accepted, or open
left_accepted : (ip : Ip) (value : ℤ) (p : Place) (most : ℤ) (t : Bool) → int_le most value ≡ t → most ≡ most_of ip.goal p.within +ℤ ip.base → IsOpenOrAccepted ip (Some value) p (cond t GoalLeaf Unsolved)
left_accepted ip value p most true e m = goal_settled ip value p most m e
left_accepted ip value p most false e m = tt

settled_accepted : (ip : Ip) (known : Option ℤ) (p : Place) (line : Line) → IsPlaced ip known p line → IsOpenOrAccepted ip known p (settled_node known line)
settled_accepted ip known p (Done (Split v k)) w = w.written.0
settled_accepted ip known p (Done (Tight v r)) w = w.written.0
settled_accepted ip known p (Done (RowLeaf r)) w = w.written
settled_accepted ip known p (Done GoalLeaf) w = w.written
settled_accepted ip known p (Done (Dual over ws)) w = w.written
settled_accepted ip known p (Done (Far ws)) w = w.written
settled_accepted ip known p (Done Unsolved) w = tt
settled_accepted ip None p (Left most) w = tt
settled_accepted ip (Some value) p (Left most) w = left_accepted ip value p most (int_le most value) refl w.written.most_is

-- each settled node is fair
left_fair : (ip : Ip) (value : ℤ) (p : Place) (most : ℤ) (t : Bool) → int_le most value ≡ t → IsLeft ip (Some value) p most → p.above ≤ most_above → IsFairNode ip (Some value) p (cond t GoalLeaf Unsolved)
left_fair ip value p most true e w few = record { fair = tt; few = few }
left_fair ip value p most false e w few =
    record { fair = record { no_row = w.no_row; no_goal = goal_open ip value p most w.most_is e; low_point = w.low_point }; few = few }

settled_fair : (ip : Ip) (known : Option ℤ) (p : Place) (line : Line) → IsPlaced ip known p line → IsFairNode ip known p (settled_node known line)
settled_fair ip known p (Done (Split v k)) w = record { fair = w.written.1; few = w.few }
settled_fair ip known p (Done (Tight v r)) w = record { fair = tt; few = tt }
settled_fair ip known p (Done (RowLeaf r)) w = record { fair = tt; few = w.few }
settled_fair ip known p (Done GoalLeaf) w = record { fair = tt; few = w.few }
settled_fair ip known p (Done (Dual over ws)) w = record { fair = tt; few = w.few }
settled_fair ip known p (Done (Far ws)) w = record { fair = tt; few = w.few }
settled_fair ip known p (Done Unsolved) w = let h = w.written in cc
settled_fair ip None p (Left most) w =
    record { fair = record { no_row = w.written.no_row; no_goal = λ a. cc; low_point = w.written.low_point }; few = w.few }
settled_fair ip (Some value) p (Left most) w = left_fair ip value p most (int_le most value) refl w.written w.few

-- the splits stay
settled_split : (known : Option ℤ) (line : Line) → is_split (settled_node known line) ≡ is_split_line line
settled_split known (Done node) = refl
settled_split None (Left most) = refl
settled_split (Some value) (Left most) = by_value (λ node. is_split node ≡ false) (int_le most value) refl refl

settled_splits : (known : Option ℤ) (lines : List Line) → split_count (map (settled_node known) lines) ≡ count_by is_split_line lines
settled_splits known [] = refl
settled_splits known (l ∷ lines) =
    let here : cond {A = ℕ} (is_split (settled_node known l)) 1 0 ≡ cond {A = ℕ} (is_split_line l) 1 0 = ap (λ t. cond {A = ℕ} t 1 0) (settled_split known l) in
    omega (arith, settled_splits known lines, sum_by-cons (λ x. cond (is_split x) 1 0) (settled_node known l) (map (settled_node known) lines), sum_by-cons (λ x. cond (is_split_line x) 1 0) l lines)

-- only what was left is open
settled_open : (ip : Ip) (known : Option ℤ) (p : Place) (line : Line) → IsPlaced ip known p line → cond {A = ℕ} (is_open (settled_node known line)) 1 0 ≤ cond {A = ℕ} (is_left line) 1 0
settled_open ip known p (Done (Split v k)) w = omega arith
settled_open ip known p (Done (Tight v r)) w = omega arith
settled_open ip known p (Done (RowLeaf r)) w = omega arith
settled_open ip known p (Done GoalLeaf) w = omega arith
settled_open ip known p (Done (Dual over ws)) w = omega arith
settled_open ip known p (Done (Far ws)) w = omega arith
settled_open ip known p (Done Unsolved) w = let h = w.written in cc
settled_open ip None p (Left most) w = omega arith
settled_open ip (Some value) p (Left most) w = by_value (λ node. cond {A = ℕ} (is_open node) 1 0 ≤ 1) (int_le most value) (omega arith) (omega arith)

open_were_left : (ip : Ip) (known : Option ℤ) (ps : List Place) (lines : List Line) (rest : List Place) → Follows ip (IsPlaced ip known) ps lines rest → open_count (map (settled_node known) lines) ≤ count_by is_left lines
open_were_left ip known ps [] rest h = omega arith
open_were_left ip known [] (l ∷ lines) rest h = absurd h
open_were_left ip known (p ∷ ps) (l ∷ lines) rest h =
    let here = settled_open ip known p l h.0 in
    let more = open_were_left ip known (opened ip p (node_of l) ++ ps) lines rest h.1 in
    omega (arith, sum_by-cons (λ x. cond (is_open x) 1 0) (settled_node known l) (map (settled_node known) lines), sum_by-cons (λ x. cond (is_left x) 1 0) l lines)

-- where nothing is open, each node is accepted
node_accepted : (ip : Ip) (known : Option ℤ) (p : Place) (node : Node) → IsOpenOrAccepted ip known p node → cond {A = ℕ} (is_open node) 1 0 ≡ 0 → IsAccepted ip known p.within node
node_accepted ip known p Unsolved a e = absurd (omega arith)
node_accepted ip known p node a e = a

all_accepted : (ip : Ip) (known : Option ℤ) (ps : List Place) (nodes : List Node) (rest : List Place) → Fills ip (IsOpenOrAccepted ip known) ps nodes rest → open_count nodes ≡ 0 → Fills ip (λ p node. IsAccepted ip known p.within node) ps nodes rest
all_accepted ip known ps [] rest h e = h
all_accepted ip known [] (node ∷ nodes) rest h e = h
all_accepted ip known (p ∷ ps) (node ∷ nodes) rest h e =
    let sum = sum_by-cons (λ x. cond (is_open x) 1 0) node nodes in
    (node_accepted ip known p node h.0 (omega arith), all_accepted ip known (opened ip p node ++ ps) nodes rest h.1 (omega arith))

-- the tree of the settled lines
pub record IsSettled (ip : Ip) (limit : ℕ) (known : Option ℤ) (tree : Tree) : Type 0 where
  pub searched : IsSearched ip limit known tree
  pub accepted : IsAcceptedButOpen ip known tree
  pub full : 0 < open_count tree.nodes → split_count tree.nodes ≡ limit

pub settles : (ip : Ip) (limit : ℕ) (best : Option Point) (known : Option ℤ) (lines : List Line) (tree : Tree) → IsClosed ip limit best known lines → tree.nodes ≡ map (settled_node known) lines → IsSettled ip limit known tree
settles ip limit best known lines tree c e =
    let root = place (root_of ip) 0 ∷ [] in
    let fair = settled_fills ip known (IsPlaced ip known) (IsFairNode ip known) (settled_fair ip known) root lines [] c.follows in
    let accepted = settled_fills ip known (IsPlaced ip known) (IsOpenOrAccepted ip known) (settled_accepted ip known) root lines [] c.follows in
    let splits : split_count tree.nodes ≡ count_by is_split_line lines = ap split_count e ∙ settled_splits known lines in
    let opens = ap open_count e in
    record {
      searched = record { splits = omega (arith, c.at_most); fair = subst (λ nodes. Fills ip (IsFairNode ip known) root nodes []) (sym e) fair };
      accepted = subst (λ nodes. Fills ip (IsOpenOrAccepted ip known) root nodes []) (sym e) accepted;
      full = λ some. splits ∙ c.full (omega (arith, open_were_left ip known root lines [] c.follows));
    }

-- the known value is that of the best point
pub known_is : (ip : Ip) (best : Option Point) (known : Option ℤ) → IsBestKnown ip best known → known ≡ known_by ip best
known_is ip None None b = refl
known_is ip None (Some u) b = absurd b
known_is ip (Some x) None b = absurd b
known_is ip (Some x) (Some u) b = ap (λ (z : ℤ). Some z) b.1

pub best_is_point : (ip : Ip) (best : Option Point) (known : Option ℤ) → IsBestKnown ip best known → ForSome best (λ x. IsPoint ip x.values)
best_is_point ip None known b x e = cc
best_is_point ip (Some y) None b x e = absurd b
best_is_point ip (Some y) (Some u) b x e = subst (λ (z : Point). IsPoint ip z.values) (same y x e) b.0
  where
    same : (y x : Point) → Some y ≡ Some x → y ≡ x
    same y x e = cc

pub unfinished : (ip : Ip) (limit : ℕ) (best : Option Point) (known : Option ℤ) (tree : Tree) → IsInLimits ip → IsBestKnown ip best known → IsSettled ip limit known tree → 0 < open_count tree.nodes → IsUnfinished ip limit best tree
unfinished ip limit best known tree limits b s some =
    let same = known_is ip best known b in
    let nonempty = (inside_nonempty ip (root_of ip) (root_inside ip limits)).0 in
    let full = s.full some in
    record {
      is_point = best_is_point ip best known b;
      splits = full;
      few = omega (arith, open_fewer ip known tree nonempty s.accepted);
      some_open = some;
      accepted = subst (λ k. IsAcceptedButOpen ip k tree) same s.accepted;
      searched = subst (λ k. IsSearched ip limit k tree) same s.searched;
    }

accepts : (ip : Ip) (limit : ℕ) (known : Option ℤ) (tree : Tree) → IsSettled ip limit known tree → open_count tree.nodes ≡ 0 → Accepts ip known tree
accepts ip limit known tree s e =
    (same_boxes ip known tree).0 (all_accepted ip known (place (root_of ip) 0 ∷ []) tree.nodes [] s.accepted e)

pub finished_best : (ip : Ip) (limit : ℕ) (point : Point) (known : Option ℤ) (tree : Tree) → IsBestKnown ip (Some point) known → IsSettled ip limit known tree → open_count tree.nodes ≡ 0 → IsBest ip limit point tree
finished_best ip limit point None tree b s e = absurd b
finished_best ip limit point (Some u) tree b s e =
    let same : Some u ≡ Some (value_of ip point.values) = known_is ip (Some point) (Some u) b in
    record {
      is_point = b.0;
      accepted = subst (λ k. Accepts ip k tree) same (accepts ip limit (Some u) tree s e);
      searched = subst (λ k. IsSearched ip limit k tree) same s.searched;
    }

pub finished_none : (ip : Ip) (limit : ℕ) (known : Option ℤ) (tree : Tree) → IsBestKnown ip None known → IsSettled ip limit known tree → open_count tree.nodes ≡ 0 → IsNoPoint ip limit tree
finished_none ip limit None tree b s e = record { accepted = accepts ip limit None tree s e; searched = s.searched }
finished_none ip limit (Some u) tree b s e = absurd b

pub none_open : (nodes seen : List Node) → seen ≡ nodes → (0 < open_count seen → false ≡ true) → open_count nodes ≡ 0
none_open nodes seen e h = subst (λ ns. open_count ns ≡ 0) e (by (open_count seen) h)
  where
    by : (n : ℕ) → (0 < n → false ≡ true) → n ≡ 0
    by zero f = refl
    by (suc n) f = absurd (differ (f (omega arith)))
      where
        differ : false ≡ true → ⊥
        differ g = cc
