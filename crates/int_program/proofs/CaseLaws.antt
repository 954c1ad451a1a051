-- The list of open places and the tree say the same.
use Rattle.std.proofs.Common.{◌≡◌, ℕ, zero, suc, ℤ, ◌+◌, ◌<◌, List, [], ◌∷◌, ◌++◌, length, Option, slice_get, arith, refl, sym, ap, ◌∙◌, subst}
use Rattle.std.proofs.lemmas.List.{append_assoc, append-nil, length-append}
use Rattle.int_program.specs.Boxes.{root_of}
use Rattle.int_program.specs.Accepts.{IsAccepted, Accepts, lower_half, upper_half, tight_child}
use Rattle.int_program.specs.Places.{place, Fills, OfEachNode, FillsRoot}
use Rattle.int_program.specs.FairTrees.{IsFairNode, IsFairTree, IsOpenOrAccepted, IsAcceptedButOpen}
use Rattle.int_program.specs.Cases.{Cases, split, tight, row_leaf, goal_leaf, dual, far, unsolved, preorder, AreAll, AreCases, AreAccepted, IsWhole}
use Rattle.int_program.specs.declared.program.Ip.{Ip}
use Rattle.int_program.specs.declared.program.Place.{Place}
use Rattle.int_program.specs.declared.program.Tree.{Tree}
use Rattle.int_program.specs.declared.program.Node.{Node}
use Rattle.int_program.specs.declared.program.Node.TheVariants.{Split, Tight, RowLeaf, GoalLeaf, Dual, Far, Unsolved}
use Rattle.int_program.proofs.PlaceLaws.{same_boxes}

abbrev lower_place : Place → ℕ → ℤ → Place
lower_place p v k = place (lower_half p.within v k) 0

abbrev upper_place : Place → ℕ → ℤ → Place
upper_place p v k = place (upper_half p.within v k) 0

abbrev tight_place : Ip → Place → ℕ → ℕ → Place
tight_place ip p v r = place (tight_child p.within v (slice_get ip.rows r)) (p.above + 1)

fills_from_cases : (ip : Ip) (G : Place → Node → Type 0) (p : Place) (c : Cases) (ps : List Place) (rest : List Node) → AreAll ip G p c → Fills ip G ps rest [] → Fills ip G (p ∷ ps) (preorder c ++ rest) []
fills_from_cases ip G p (split v k s t) ps rest a l =
    let low = lower_place p v k in
    let high = upper_place p v k in
    let second = fills_from_cases ip G high t ps rest a.2 l in
    let first = fills_from_cases ip G low s (high ∷ ps) (preorder t ++ rest) a.1 second in
    (a.0, subst (λ ns. Fills ip G (low ∷ high ∷ ps) ns []) (sym (append_assoc (preorder s) (preorder t) rest)) first)
fills_from_cases ip G p (tight v r s) ps rest a l = (a.0, fills_from_cases ip G (tight_place ip p v r) s ps rest a.1 l)
fills_from_cases ip G p other ps rest a l = (a, l)

-- a front of the nodes is a tree whose nodes are as G says from the first place on
record HasCases (ip : Ip) (G : Place → Node → Type 0) (p : Place) (ps : List Place) (nodes : List Node) : Type 0 where
  cases : Cases
  rest : List Node
  is : nodes ≡ preorder cases ++ rest
  all : AreAll ip G p cases
  fills : Fills ip G ps rest []

shorter : (nodes rest : List Node) (c : Cases) → nodes ≡ preorder c ++ rest → length rest < suc (length nodes)
shorter nodes rest c e = omega (arith, ap length e, length-append (preorder c) rest)

joined : (node : Node) (nodes rest last : List Node) (c d : Cases) → nodes ≡ preorder c ++ rest → rest ≡ preorder d ++ last → node ∷ nodes ≡ node ∷ ((preorder c ++ preorder d) ++ last)
joined node nodes rest last c d e f =
    let back : preorder c ++ (preorder d ++ last) ≡ (preorder c ++ preorder d) ++ last = sym (append_assoc (preorder c) (preorder d) last) in
    let more : preorder c ++ rest ≡ preorder c ++ (preorder d ++ last) = ap (λ ns. preorder c ++ ns) f in
    ap (λ ns. node ∷ ns) (e ∙ more ∙ back)

cases_from_fills : (fuel : ℕ) (ip : Ip) (G : Place → Node → Type 0) (p : Place) (ps : List Place) (nodes : List Node) → length nodes < fuel → Fills ip G (p ∷ ps) nodes [] → HasCases ip G p ps nodes
cases_from_fills zero ip G p ps nodes l c = absurd (omega arith)
cases_from_fills (suc fuel) ip G p ps [] l c = cc
cases_from_fills (suc fuel) ip G p ps (Split v k ∷ nodes) l c =
    let s = cases_from_fills fuel ip G (lower_place p v k) (upper_place p v k ∷ ps) nodes (omega arith) c.1 in
    let less = shorter nodes s.rest s.cases s.is in
    let t = cases_from_fills fuel ip G (upper_place p v k) ps s.rest (omega arith) s.fills in
    record {
      cases = split v k s.cases t.cases;
      rest = t.rest;
      is = joined (Split v k) nodes s.rest t.rest s.cases t.cases s.is t.is;
      all = (c.0, s.all, t.all);
      fills = t.fills;
    }
cases_from_fills (suc fuel) ip G p ps (Tight v r ∷ nodes) l c =
    let s = cases_from_fills fuel ip G (tight_place ip p v r) ps nodes (omega arith) c.1 in
    record { cases = tight v r s.cases; rest = s.rest; is = ap (λ ns. Tight v r ∷ ns) s.is; all = (c.0, s.all); fills = s.fills }
cases_from_fills (suc fuel) ip G p ps (RowLeaf r ∷ nodes) l c =
    record { cases = row_leaf r; rest = nodes; is = refl; all = c.0; fills = c.1 }
cases_from_fills (suc fuel) ip G p ps (GoalLeaf ∷ nodes) l c =
    record { cases = goal_leaf; rest = nodes; is = refl; all = c.0; fills = c.1 }
cases_from_fills (suc fuel) ip G p ps (Dual over ws ∷ nodes) l c =
    record { cases = dual over ws; rest = nodes; is = refl; all = c.0; fills = c.1 }
cases_from_fills (suc fuel) ip G p ps (Far ws ∷ nodes) l c =
    record { cases = far ws; rest = nodes; is = refl; all = c.0; fills = c.1 }
cases_from_fills (suc fuel) ip G p ps (Unsolved ∷ nodes) l c =
    record { cases = unsolved; rest = nodes; is = refl; all = c.0; fills = c.1 }

none_left : (ip : Ip) (G : Place → Node → Type 0) (nodes : List Node) → Fills ip G [] nodes [] → nodes ≡ []
none_left ip G [] l = refl
none_left ip G (node ∷ nodes) l = absurd l

pub cases_from_each : (ip : Ip) (G : Place → Node → Type 0) (tree : Tree) → OfEachNode ip G tree → AreCases ip G tree
cases_from_each ip G tree a =
    let h = cases_from_fills (suc (length tree.nodes)) ip G (place (root_of ip) 0) [] tree.nodes (omega arith) a in
    record {
      cases = h.cases;
      listed = sym (h.is ∙ ap (λ ns. preorder h.cases ++ ns) (none_left ip G h.rest h.fills) ∙ append-nil (preorder h.cases));
      all = h.all;
    }

pub each_from_cases : (ip : Ip) (G : Place → Node → Type 0) (tree : Tree) → AreCases ip G tree → OfEachNode ip G tree
each_from_cases ip G tree c =
    let root = place (root_of ip) 0 in
    subst (λ ns. Fills ip G (root ∷ []) ns []) (append-nil (preorder c.cases) ∙ c.listed) (fills_from_cases ip G root c.cases [] [] c.all refl)

-- what the clauses say of accepted, fair and whole trees

pub accepted_alike : (ip : Ip) (known : Option ℤ) (tree : Tree) → (Accepts ip known tree → AreAccepted ip known tree) × (AreAccepted ip known tree → Accepts ip known tree)
accepted_alike ip known tree =
    let G : Place → Node → Type 0 = λ p node. IsAccepted ip known p.within node in
    let same = same_boxes ip known tree in
    (λ a. cases_from_each ip G tree (same.1 a), λ c. same.0 (each_from_cases ip G tree c))

pub fair_alike : (ip : Ip) (known : Option ℤ) (tree : Tree) → (IsFairTree ip known tree → AreCases ip (IsFairNode ip known) tree) × (AreCases ip (IsFairNode ip known) tree → IsFairTree ip known tree)
fair_alike ip known tree = (cases_from_each ip (IsFairNode ip known) tree, each_from_cases ip (IsFairNode ip known) tree)

pub whole_from_each : (ip : Ip) (G : Place → Node → Type 0) (tree : Tree) → OfEachNode ip G tree → IsWhole tree
whole_from_each ip G tree a =
    let c = cases_from_each ip G tree a in
    record { cases = c.cases; listed = c.listed }

abbrev Any : Place → Node → Type 0
Any p node = Unit {0}

all_any : (ip : Ip) (p : Place) (c : Cases) → AreAll ip Any p c
all_any ip p (split v k s t) = (tt, all_any ip (lower_place p v k) s, all_any ip (upper_place p v k) t)
all_any ip p (tight v r s) = (tt, all_any ip (tight_place ip p v r) s)
all_any ip p other = tt

pub root_filled : (ip : Ip) (tree : Tree) → IsWhole tree → FillsRoot ip tree
root_filled ip tree w =
    each_from_cases ip Any tree (record { cases = w.cases; listed = w.listed; all = all_any ip (place (root_of ip) 0) w.cases })

pub filled_whole : (ip : Ip) (tree : Tree) → (FillsRoot ip tree → IsWhole tree) × (IsWhole tree → FillsRoot ip tree)
filled_whole ip tree = (whole_from_each ip Any tree, root_filled ip tree)

pub accepted_whole : (ip : Ip) (known : Option ℤ) (tree : Tree) → Accepts ip known tree → IsWhole tree
accepted_whole ip known tree a = whole_from_each ip (λ p node. IsAccepted ip known p.within node) tree ((same_boxes ip known tree).1 a)

pub open_whole : (ip : Ip) (known : Option ℤ) (tree : Tree) → IsAcceptedButOpen ip known tree → IsWhole tree
open_whole ip known tree a = whole_from_each ip (IsOpenOrAccepted ip known) tree a

pub fair_whole : (ip : Ip) (known : Option ℤ) (tree : Tree) → IsFairTree ip known tree → IsWhole tree
fair_whole ip known tree a = whole_from_each ip (IsFairNode ip known) tree a
