-- The lines that a search writes, and what it keeps while it writes them; this project's own.
use Rattle.std.specs.Prelude.{◌≡◌, ℕ, ℤ, pos, ◌<◌, ◌≤◌, ◌+ℤ◌, ◌≤ℤ◌, Bool, true, false, List, [], ◌∷◌, ◌++◌, length, Option, Some, None, ◌⊎◌, count_by, int_le, if◌then◌else◌}
use Rattle.int_program.specs.declared.program.Ip.{Ip}
use Rattle.int_program.specs.declared.program.IpBox.{IpBox}
use Rattle.int_program.specs.declared.program.Point.{Point}
use Rattle.int_program.specs.declared.program.Place.{Place}
use Rattle.int_program.specs.declared.program.Node.{Node}
use Rattle.int_program.specs.declared.program.Node.TheVariants.{Split, Tight, GoalLeaf, Unsolved}
use Rattle.int_program.specs.Sums.{at}
use Rattle.int_program.specs.Boxes.{IsInside, root_of}
use Rattle.int_program.specs.Bounds.{most_of}
use Rattle.int_program.specs.Points.{IsPoint, IsBetter, value_of}
use Rattle.int_program.specs.Accepts.{IsAccepted}
use Rattle.int_program.specs.Counting.{is_split}
use Rattle.int_program.specs.Fair.{NoRowLeaf, NoTightening, IsFairSplit, most_above}
use Rattle.int_program.specs.Places.{place, opened}
use Rattle.branch_bound.specs.declared.line.Line.{Line}
use Rattle.branch_bound.specs.declared.line.Line.TheVariants.{Done, Left}

-- the node of a line as long as the search goes on
abbrev pub node_of : Line → Node
node_of (Done node) = node
node_of (Left most) = Unsolved

-- the node of a line for the value that is known at the end: a box that is left is tried again
abbrev pub settled_node : Option ℤ → Line → Node
settled_node known (Done node) = node
settled_node None (Left most) = Unsolved
settled_node (Some value) (Left most) = if int_le most value then GoalLeaf else Unsolved

abbrev pub is_split_line : Line → Bool
is_split_line line = is_split (node_of line)

abbrev pub is_left : Line → Bool
is_left (Done node) = false
is_left (Left most) = true

-- a node that is written: a split is fair, a tightening has room above it, and each is accepted
abbrev pub IsDone : Ip → Option ℤ → Place → Node → Type 0
IsDone ip known p (Split v k) = IsAccepted ip known p.within (Split v k) × IsFairSplit true p.above ip p.within v k
IsDone ip known p (Tight v r) = IsAccepted ip known p.within (Tight v r) × (p.above < most_above)
IsDone ip known p node = IsAccepted ip known p.within node

-- a box that is left: no row closes it, its lowest point is no better one, and the objective is known on it
pub record IsLeft (ip : Ip) (known : Option ℤ) (p : Place) (most : ℤ) : Type 0 where
  pub no_row : NoRowLeaf ip p.within
  pub low_point : IsBetter ip known p.within.low → ⊥
  pub most_is : most ≡ most_of ip.goal p.within +ℤ ip.base

abbrev pub IsWritten : Ip → Option ℤ → Place → Line → Type 0
IsWritten ip known p (Done node) = IsDone ip known p node
IsWritten ip known p (Left most) = IsLeft ip known p most

-- a place inside the root box, with no more tightenings directly above it than may stand there
pub record IsOpenPlace (ip : Ip) (p : Place) : Type 0 where
  pub inside : IsInside ip p.within
  pub above : p.above ≤ most_above

-- nothing known is at most anything
abbrev pub AtMost : Option ℤ → Option ℤ → Type 0
AtMost None more = Unit {0}
AtMost (Some u) None = ⊥
AtMost (Some u) (Some v) = u ≤ℤ v

-- the best point, and the value that is known by it
abbrev pub IsBestKnown : Ip → Option Point → Option ℤ → Type 0
IsBestKnown ip None None = Unit {0}
IsBestKnown ip None (Some u) = ⊥
IsBestKnown ip (Some x) None = ⊥
IsBestKnown ip (Some x) (Some u) = IsPoint ip x.values × (u ≡ value_of ip x.values)

-- the best point and its value after the lowest point of a box was tried
pub record IsTried (ip : Ip) (x : List ℤ) (before after : Option ℤ) (best : Option Point) : Type 0 where
  pub at_most : AtMost before after
  pub best_known : IsBestKnown ip best after
  pub no_better : IsBetter ip after x → ⊥

-- a number for each variable, from 0 to its top
pub record AreWithinTops (ip : Ip) (x : List ℤ) : Type 0 where
  pub count : length x ≡ length ip.tops
  pub ends : (k : ℕ) → (pos 0 ≤ℤ at x k) × (at x k ≤ℤ at ip.tops k)

-- a box of one point
abbrev pub IsSingle : IpBox → Type 0
IsSingle b = (k : ℕ) → at b.high k ≡ at b.low k

-- a place at which no leaf is accepted, and no tightening, or as many as may stand directly above it
pub record IsSearchedThrough (ip : Ip) (known : Option ℤ) (p : Place) : Type 0 where
  pub no_row : NoRowLeaf ip p.within
  pub no_goal : IsAccepted ip known p.within GoalLeaf → ⊥
  pub narrow : NoTightening ip p.within ⊎ (most_above ≤ p.above)

-- a node that is written and is no split
abbrev pub IsUnsplit : Ip → Option ℤ → Place → Node → Type 0
IsUnsplit ip known p node = IsDone ip known p node × (is_split node ≡ false)

-- a line that is written where splits are allowed or not: a split only where they are, a box left only where they aren't
pub record IsDecided (ip : Ip) (known : Option ℤ) (may_split : Bool) (p : Place) (line : Line) : Type 0 where
  pub written : IsWritten ip known p line
  pub split : is_split_line line ≡ true → may_split ≡ true
  pub left : is_left line ≡ true → may_split ≡ false

-- what is known and the best point change, and a line is decided for what is known then
pub record IsStep (ip : Ip) (before after : Option ℤ) (best : Option Point) (may_split : Bool) (p : Place) (line : Line) : Type 0 where
  pub at_most : AtMost before after
  pub best_known : IsBestKnown ip best after
  pub decided : IsDecided ip after may_split p line

-- one line is written at a place, and the places that it opens come before the others
pub record IsGrown (ip : Ip) (known : Option ℤ) (may_split : Bool) (p : Place) (before after : List Place) (lines grown : List Line) (split : Bool) : Type 0 where
  pub line : Line
  pub decided : IsDecided ip known may_split p line
  pub pushed : grown ≡ lines ++ line ∷ []
  pub places : after ≡ opened ip p (node_of line) ++ before
  pub splits : split ≡ is_split_line line

-- the lines, each at the first open place and as G says of it, lead from the open places to those that are open after them
abbrev pub Follows : Ip → (Place → Line → Type 0) → List Place → List Line → List Place → Type 0
Follows ip G ps [] rest = ps ≡ rest
Follows ip G [] (line ∷ lines) rest = ⊥
Follows ip G (p ∷ ps) (line ∷ lines) rest = G p line × Follows ip G (opened ip p (node_of line) ++ ps) lines rest

-- a line is written at a place with no more tightenings directly above it than may stand there
pub record IsPlaced (ip : Ip) (known : Option ℤ) (p : Place) (line : Line) : Type 0 where
  pub written : IsWritten ip known p line
  pub few : p.above ≤ most_above

-- all places are filled, with few splits, and with all that are allowed where a box is left
pub record IsClosed (ip : Ip) (limit : ℕ) (best : Option Point) (known : Option ℤ) (lines : List Line) : Type 0 where
  pub best_known : IsBestKnown ip best known
  pub follows : Follows ip (IsPlaced ip known) (place (root_of ip) 0 ∷ []) lines []
  pub at_most : count_by is_split_line lines ≤ limit
  pub full : 0 < count_by is_left lines → count_by is_split_line lines ≡ limit
