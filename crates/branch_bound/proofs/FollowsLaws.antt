-- Lines that follow the open places, while they are written and when they are settled.
use Rattle.std.proofs.Common.{◌≡◌, ℕ, ℤ, ◌+◌, ◌-◌, ◌*◌, ◌<◌, ◌≤◌, ◌<ℤ◌, Bool, true, false, cond, List, [], ◌∷◌, ◌++◌, length, Option, Some, None, nat_lt, count_by, arith, refl, sym, ap, ◌∙◌, subst}
use Rattle.std.proofs.lemmas.Int.{ints}
use Rattle.std.proofs.lemmas.Bool.{ltb-true}
use Rattle.std.proofs.lemmas.Bool.Decides.{nat_tests}
use Rattle.std.proofs.lemmas.List.Sums.{sum_by_push}
use Rattle.int_program.specs.Boxes.{root_of}
use Rattle.int_program.specs.Limits.{IsInLimits}
use Rattle.int_program.specs.Points.{IsBetter, value_of}
use Rattle.int_program.specs.Accepts.{IsAccepted}
use Rattle.int_program.specs.Fair.{most_above}
use Rattle.int_program.specs.Places.{place, opened}
use Rattle.int_program.specs.declared.program.Ip.{Ip}
use Rattle.int_program.specs.declared.program.Place.{Place}
use Rattle.int_program.specs.declared.program.Node.{Node}
use Rattle.int_program.specs.declared.program.Node.TheVariants.{Split, Tight, RowLeaf, GoalLeaf, Dual, Far, Unsolved}
use Rattle.int_program.proofs.InsideLaws.{root_inside}
use Rattle.int_program.proofs.ChildLaws.{split_parts, lower_inside, upper_inside, tight_inside}
use Rattle.int_program.proofs.KnownLaws.{accepted_more, accepted_none}
use Rattle.branch_bound.specs.Lines.{node_of, is_split_line, is_left, IsWritten, IsOpenPlace, AtMost, IsGrown, IsPlaced, Follows}
use Rattle.branch_bound.specs.declared.line.Line.{Line}
use Rattle.branch_bound.specs.declared.line.Line.TheVariants.{Done, Left}

-- one more line, at the first place that is open then
pub follows_push : (ip : Ip) (G : Place → Line → Type 0) (ps : List Place) (lines : List Line) (p : Place) (rest : List Place) (line : Line) → Follows ip G ps lines (p ∷ rest) → G p line → Follows ip G ps (lines ++ line ∷ []) (opened ip p (node_of line) ++ rest)
follows_push ip G [] [] p rest line h g = absurd (cons_nil h)
  where
    cons_nil : [] ≡ p ∷ rest → ⊥
    cons_nil e = cc
follows_push ip G (q ∷ qs) [] p rest line h g = subst (λ cs. Follows ip G cs (line ∷ []) (opened ip p (node_of line) ++ rest)) (sym h) (g, refl)
follows_push ip G [] (l ∷ lines) p rest line h g = h
follows_push ip G (q ∷ qs) (l ∷ lines) p rest line h g = (h.0, follows_push ip G (opened ip q (node_of l) ++ qs) lines p rest line h.1 g)

pub follows_weaker : (ip : Ip) (G H : Place → Line → Type 0) → ((p : Place) (line : Line) → G p line → H p line) → (ps : List Place) (lines : List Line) (rest : List Place) → Follows ip G ps lines rest → Follows ip H ps lines rest
follows_weaker ip G H f ps [] rest h = h
follows_weaker ip G H f [] (l ∷ lines) rest h = h
follows_weaker ip G H f (p ∷ ps) (l ∷ lines) rest h = (f p l h.0, follows_weaker ip G H f (opened ip p (node_of l) ++ ps) lines rest h.1)

-- what is written stays so for a greater known value
accepted_known : (ip : Ip) (before after : Option ℤ) (p : Place) (node : Node) → AtMost before after → IsAccepted ip before p.within node → IsAccepted ip after p.within node
accepted_known ip None None p node m a = a
accepted_known ip None (Some v) p node m a = accepted_none ip v p.within node a
accepted_known ip (Some u) None p node m a = absurd m
accepted_known ip (Some u) (Some v) p node m a = accepted_more ip u v m p.within node a

better_known : (ip : Ip) (before after : Option ℤ) (x : List ℤ) → AtMost before after → IsBetter ip after x → IsBetter ip before x
better_known ip None after x m b = record { point = b.point; above = λ u e. cc }
better_known ip (Some u) None x m b = absurd m
better_known ip (Some u) (Some v) x m b = record { point = b.point; above = λ w e. subst (λ (z : ℤ). z <ℤ value_of ip x) (same u w e) (omega (arith, ints, b.above v refl)) }
  where
    same : (y z : ℤ) → Some y ≡ Some z → y ≡ z
    same y z e = cc

written_known : (ip : Ip) (before after : Option ℤ) → AtMost before after → (p : Place) (line : Line) → IsPlaced ip before p line → IsPlaced ip after p line
written_known ip before after m p (Done (Split v k)) w = record { written = w.written; few = w.few }
written_known ip before after m p (Done (Tight v r)) w = record { written = w.written; few = w.few }
written_known ip before after m p (Done (RowLeaf r)) w = record { written = w.written; few = w.few }
written_known ip before after m p (Done GoalLeaf) w = record { written = accepted_known ip before after p GoalLeaf m w.written; few = w.few }
written_known ip before after m p (Done (Dual over ws)) w = record { written = accepted_known ip before after p (Dual over ws) m w.written; few = w.few }
written_known ip before after m p (Done (Far ws)) w = record { written = w.written; few = w.few }
written_known ip before after m p (Done Unsolved) w = record { written = w.written; few = w.few }
written_known ip before after m p (Left most) w =
    record { written = record { no_row = w.written.no_row; low_point = λ b. w.written.low_point (better_known ip before after p.within.low m b); most_is = w.written.most_is }; few = w.few }

abbrev pub AreOpenPlaces : Ip → List Place → Type 0
AreOpenPlaces ip [] = Unit {0}
AreOpenPlaces ip (p ∷ ps) = IsOpenPlace ip p × AreOpenPlaces ip ps

open_append : (ip : Ip) (ps qs : List Place) → AreOpenPlaces ip ps → AreOpenPlaces ip qs → AreOpenPlaces ip (ps ++ qs)
open_append ip [] qs h k = k
open_append ip (p ∷ ps) qs h k = (h.0, open_append ip ps qs h.1 k)

-- what a line opens is open
line_opens : (ip : Ip) (known : Option ℤ) (p : Place) (line : Line) → IsOpenPlace ip p → IsWritten ip known p line → AreOpenPlaces ip (opened ip p (node_of line))
line_opens ip known p (Done (Split v k)) o w =
    let ends = split_parts (length ip.tops) p.within v k w.0 in
    (record { inside = lower_inside ip p.within v k o.inside ends.0 ends.1; above = omega arith }, (record { inside = upper_inside ip p.within v k o.inside ends.0 ends.1; above = omega arith }, tt))
line_opens ip known p (Done (Tight v r)) o w = (record { inside = tight_inside _ ip v p.within o.inside; above = omega (arith, w.1) }, tt)
line_opens ip known p (Done (RowLeaf r)) o w = tt
line_opens ip known p (Done GoalLeaf) o w = tt
line_opens ip known p (Done (Dual over ws)) o w = tt
line_opens ip known p (Done (Far ws)) o w = tt
line_opens ip known p (Done Unsolved) o w = tt
line_opens ip known p (Left most) o w = tt

-- what the search keeps
pub record Keeps (ip : Ip) (known : Option ℤ) (limit : ℕ) (ps : List Place) (lines : List Line) (splits : ℕ) : Type 0 where
  pub follows : Follows ip (IsPlaced ip known) (place (root_of ip) 0 ∷ []) lines ps
  pub places : AreOpenPlaces ip ps
  pub counted : count_by is_split_line lines ≡ splits
  pub at_most : splits ≤ limit
  pub full : 0 < count_by is_left lines → splits ≡ limit

pub keeps_known : (ip : Ip) (before after : Option ℤ) (limit : ℕ) (ps : List Place) (lines : List Line) (splits : ℕ) → AtMost before after → Keeps ip before limit ps lines splits → Keeps ip after limit ps lines splits
keeps_known ip before after limit ps lines splits m k =
    record {
      follows = follows_weaker ip (IsPlaced ip before) (IsPlaced ip after) (written_known ip before after m) (place (root_of ip) 0 ∷ []) lines ps k.follows;
      places = k.places;
      counted = k.counted;
      at_most = k.at_most;
      full = k.full;
    }

pub keeps_start : (ip : Ip) (known : Option ℤ) (limit : ℕ) (ps : List Place) (lines : List Line) → IsInLimits ip → ps ≡ place (root_of ip) 0 ∷ [] → lines ≡ [] → Keeps ip known limit ps lines 0
keeps_start ip known limit ps lines limits e f =
    rw e (rw f (record { follows = refl; places = (record { inside = root_inside ip limits; above = omega arith }, tt); counted = refl; at_most = omega arith; full = λ h. absurd (omega arith) }))

not_less : (a b : ℕ) → nat_lt a b ≡ false → b ≤ a
not_less a b h = grind (arith, nat_tests)

left_no_split : (line : Line) → is_left line ≡ true → is_split_line line ≡ false
left_no_split (Done node) e = cc
left_no_split (Left most) e = refl

count_one : (t : Bool) → t ≡ true → cond {A = ℕ} t 1 0 ≡ 1
count_one t e = ap (λ s. cond {A = ℕ} s 1 0) e

count_none : (t : Bool) → t ≡ false → cond {A = ℕ} t 1 0 ≡ 0
count_none t e = ap (λ s. cond {A = ℕ} s 1 0) e

may_go : (splits limit : ℕ) (line : Line) (t : Bool) → is_split_line line ≡ t → (is_split_line line ≡ true → nat_lt splits limit ≡ true) → splits ≤ limit → splits + cond {A = ℕ} (is_split_line line) 1 0 ≤ limit
may_go splits limit line true e f h =
    let l = ltb-true splits limit (f e) in
    omega (arith, count_one (is_split_line line) e)
may_go splits limit line false e f h = omega (arith, count_none (is_split_line line) e)

stays_full : (splits limit before : ℕ) (line : Line) (s t : Bool) → is_split_line line ≡ s → is_left line ≡ t → (is_split_line line ≡ true → nat_lt splits limit ≡ true) → (is_left line ≡ true → nat_lt splits limit ≡ false) → splits ≤ limit → (0 < before → splits ≡ limit) → 0 < before + cond {A = ℕ} (is_left line) 1 0 → splits + cond {A = ℕ} (is_split_line line) 1 0 ≡ limit
stays_full splits limit before line s true e g f h l k some =
    let none = count_none (is_split_line line) (left_no_split line g) in
    let full = not_less splits limit (h g) in
    omega arith
stays_full splits limit before line true false e g f h l k some =
    let less = ltb-true splits limit (f e) in
    let same = k (omega (arith, count_none (is_left line) g)) in
    absurd (omega arith)
stays_full splits limit before line false false e g f h l k some =
    let same = k (omega (arith, count_none (is_left line) g)) in
    omega (arith, count_none (is_split_line line) e)

pub grown_keeps : (ip : Ip) (known : Option ℤ) (limit : ℕ) (p : Place) (ps after : List Place) (lines grown : List Line) (split : Bool) (splits : ℕ) → Keeps ip known limit (p ∷ ps) lines splits → IsGrown ip known (nat_lt splits limit) p ps after lines grown split → Keeps ip known limit after grown (splits + cond split 1 0)
grown_keeps ip known limit p ps after lines grown split splits k g =
    let one : cond {A = ℕ} split 1 0 ≡ cond {A = ℕ} (is_split_line g.line) 1 0 = ap (λ t. cond {A = ℕ} t 1 0) g.splits in
    let all = ap (λ ls. count_by is_split_line ls) g.pushed ∙ sum_by_push (λ x. cond (is_split_line x) 1 0) lines g.line in
    let lefts = ap (λ ls. count_by is_left ls) g.pushed ∙ sum_by_push (λ x. cond (is_left x) 1 0) lines g.line in
    let go = may_go splits limit g.line (is_split_line g.line) refl g.decided.split k.at_most in
    record {
      follows = rw (g.places) (rw (g.pushed) (follows_push ip (IsPlaced ip known) (place (root_of ip) 0 ∷ []) lines p ps g.line k.follows (record { written = g.decided.written; few = k.places.0.above })));
      places = rw (g.places) (open_append ip (opened ip p (node_of g.line)) ps (line_opens ip known p g.line k.places.0 g.decided.written) k.places.1);
      counted = omega (arith, all, k.counted);
      at_most = omega arith;
      full = λ some. one_more _ _ splits limit one (stays_full splits limit (count_by is_left lines) g.line (is_split_line g.line) (is_left g.line) refl refl g.decided.split g.decided.left k.at_most k.full (omega (arith, lefts)));
    }
  where
    one_more : (m n s l : ℕ) → m ≡ n → s + n ≡ l → s + m ≡ l
    one_more m n s l e f = omega arith

-- how many tightenings the open places can still take, and the nodes below them
abbrev pub room : List Place → ℕ
room [] = 0
room (p ∷ ps) = ((most_above + 1) - p.above) + room ps

abbrev pub work_left : ℕ → ℕ → List Place → ℕ
work_left limit splits ps = 203 * (limit - splits) + room ps

line_smaller : (ip : Ip) (known : Option ℤ) (limit splits : ℕ) (p : Place) (ps : List Place) (line : Line) → p.above ≤ most_above → IsWritten ip known p line → splits + cond {A = ℕ} (is_split_line line) 1 0 ≤ limit → work_left limit (splits + cond (is_split_line line) 1 0) (opened ip p (node_of line) ++ ps) < work_left limit splits (p ∷ ps)
line_smaller ip known limit splits p ps (Done (Split v k)) a w l = omega arith
line_smaller ip known limit splits p ps (Done (Tight v r)) a w l = omega (arith, w.1)
line_smaller ip known limit splits p ps (Done (RowLeaf r)) a w l = omega arith
line_smaller ip known limit splits p ps (Done GoalLeaf) a w l = omega arith
line_smaller ip known limit splits p ps (Done (Dual over ws)) a w l = omega arith
line_smaller ip known limit splits p ps (Done (Far ws)) a w l = omega arith
line_smaller ip known limit splits p ps (Done Unsolved) a w l = omega arith
line_smaller ip known limit splits p ps (Left most) a w l = omega arith

pub grown_smaller : (ip : Ip) (known : Option ℤ) (limit : ℕ) (p : Place) (ps after : List Place) (lines grown : List Line) (split : Bool) (splits : ℕ) → Keeps ip known limit (p ∷ ps) lines splits → IsGrown ip known (nat_lt splits limit) p ps after lines grown split → work_left limit (splits + cond split 1 0) after < work_left limit splits (p ∷ ps)
grown_smaller ip known limit p ps after lines grown split splits k g =
    let go = may_go splits limit g.line (is_split_line g.line) refl g.decided.split k.at_most in
    rw (g.places) (rw (g.splits) (line_smaller ip known limit splits p ps g.line k.places.0.above g.decided.written go))
