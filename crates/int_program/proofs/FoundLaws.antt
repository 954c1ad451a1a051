-- The first node that fails a test is found.
use Rattle.std.proofs.Common.{◌≡◌, ℕ, zero, suc, ℤ, ◌+◌, Bool, true, false, cond, List, [], ◌∷◌, ◌++◌, take, Option, Some, None, slice_get, zero-add, add-zero, arith, refl, sym, ap, ◌∙◌, subst}
use Rattle.std.specs.Bool.{Decides}
use Rattle.std.proofs.lemmas.Bool.{both_ways, false_from_ne_true}
use Rattle.int_program.specs.Boxes.{root_of}
use Rattle.int_program.specs.Places.{place, opened, Fills}
use Rattle.int_program.specs.FairTrees.{IsFairNode, IsFairTree}
use Rattle.int_program.specs.Cases.{IsWhole}
use Rattle.int_program.specs.FirstUnfair.{is_fair_node, first_failing, first_unfair, IsFirstUnfair}
use Rattle.int_program.specs.declared.program.Ip.{Ip}
use Rattle.int_program.specs.declared.program.Place.{Place}
use Rattle.int_program.specs.declared.program.Tree.{Tree}
use Rattle.int_program.specs.declared.program.Node.{Node}
use Rattle.int_program.proofs.CaseLaws.{root_filled}
use Rattle.int_program.proofs.FirstLaws.{node_decides}

-- a test that passes, and goes on
passed : {W : Type 0} (t : Bool) (o : Option W) (w : W) → cond t o (Some w) ≡ None → (t ≡ true) × (o ≡ None)
passed true o w e = (refl, e)
passed false o w e = cc

-- none: each node is at a place as the test says, and no place is left
filled_from_none : (ip : Ip) (test : Place → Node → Bool) (G : Place → Node → Type 0) → ((p : Place) (node : Node) → Decides (test p node) (G p node)) → (ps : List Place) (n : ℕ) (nodes : List Node) → first_failing ip test ps n nodes ≡ None → Fills ip G ps nodes []
filled_from_none ip test G d [] n [] e = refl
filled_from_none ip test G d [] n (node ∷ nodes) e = cc
filled_from_none ip test G d (p ∷ ps) n [] e = cc
filled_from_none ip test G d (p ∷ ps) n (node ∷ nodes) e =
    let rest = first_failing ip test (opened ip p node ++ ps) (n + 1) nodes in
    let here = passed (test p node) rest n e in
    ((d p node).0 here.0, filled_from_none ip test G d (opened ip p node ++ ps) (n + 1) nodes here.1)

none_from_filled : (ip : Ip) (test : Place → Node → Bool) (G : Place → Node → Type 0) → ((p : Place) (node : Node) → Decides (test p node) (G p node)) → (ps : List Place) (n : ℕ) (nodes : List Node) → Fills ip G ps nodes [] → first_failing ip test ps n nodes ≡ None
none_from_filled ip test G d [] n [] f = refl
none_from_filled ip test G d [] n (node ∷ nodes) f = absurd f
none_from_filled ip test G d (p ∷ ps) n [] f = cc
none_from_filled ip test G d (p ∷ ps) n (node ∷ nodes) f =
    subst (λ t. cond t (first_failing ip test (opened ip p node ++ ps) (n + 1) nodes) (Some n) ≡ None) (sym ((d p node).1 f.0)) (none_from_filled ip test G d (opened ip p node ++ ps) (n + 1) nodes f.1)

-- the nodes before number k are as G says, and the node of that number isn't
record Stops (ip : Ip) (G : Place → Node → Type 0) (ps : List Place) (nodes : List Node) (k : ℕ) : Type 0 where
  here : Place
  later : List Place
  node : Node
  before : Fills ip G ps (take k nodes) (here ∷ later)
  is : slice_get nodes k ≡ Some node
  fails : G here node → ⊥

record StopsAt (ip : Ip) (G : Place → Node → Type 0) (ps : List Place) (nodes : List Node) (n m : ℕ) : Type 0 where
  far : ℕ
  sum : m ≡ n + far
  stops : Stops ip G ps nodes far

stops_later : (ip : Ip) (G : Place → Node → Type 0) (p : Place) (ps : List Place) (node : Node) (nodes : List Node) (n m : ℕ) → G p node → StopsAt ip G (opened ip p node ++ ps) nodes (n + 1) m → StopsAt ip G (p ∷ ps) (node ∷ nodes) n m
stops_later ip G p ps node nodes n m g s =
    let t = s.stops in
    record {
      far = suc s.far;
      sum = omega (arith, s.sum);
      stops = record { here = t.here; later = t.later; node = t.node; before = (g, t.before); is = t.is; fails = t.fails };
    }

stops_here : (ip : Ip) (G : Place → Node → Type 0) (p : Place) (ps : List Place) (node : Node) (nodes : List Node) (n m : ℕ) → (G p node → ⊥) → n ≡ m → StopsAt ip G (p ∷ ps) (node ∷ nodes) n m
stops_here ip G p ps node nodes n m g e =
    record { far = 0; sum = omega (arith, e); stops = record { here = p; later = ps; node = node; before = refl; is = refl; fails = g } }

Some_inner : {W : Type 0} (v w : W) → Some v ≡ Some w → v ≡ w
Some_inner v w e = cc

-- some: the nodes before it are as the test says, and that one isn't
stops_from_some : (ip : Ip) (test : Place → Node → Bool) (G : Place → Node → Type 0) → ((p : Place) (node : Node) → Decides (test p node) (G p node)) → (ps : List Place) (n m : ℕ) (nodes : List Node) → Fills ip (λ p node. Unit {0}) ps nodes [] → first_failing ip test ps n nodes ≡ Some m → StopsAt ip G ps nodes n m
stops_from_some ip test G d [] n m [] f e = cc
stops_from_some ip test G d [] n m (node ∷ nodes) f e = absurd f
stops_from_some ip test G d (p ∷ ps) n m [] f e = cc
stops_from_some ip test G d (p ∷ ps) n m (node ∷ nodes) f e =
    let qs = opened ip p node ++ ps in
    by (test p node) refl e (stops_from_some ip test G d qs (n + 1) m nodes f.1)
  where
    by : (t : Bool) → test p node ≡ t → cond t (first_failing ip test (opened ip p node ++ ps) (n + 1) nodes) (Some n) ≡ Some m → (first_failing ip test (opened ip p node ++ ps) (n + 1) nodes ≡ Some m → StopsAt ip G (opened ip p node ++ ps) nodes (n + 1) m) → StopsAt ip G (p ∷ ps) (node ∷ nodes) n m
    by true is more later = stops_later ip G p ps node nodes n m ((d p node).0 is) (later more)
    by false is more later = stops_here ip G p ps node nodes n m (λ g. both_ways (test p node) is ((d p node).1 g)) (Some_inner n m more)

some_from_stops : (ip : Ip) (test : Place → Node → Bool) (G : Place → Node → Type 0) → ((p : Place) (node : Node) → Decides (test p node) (G p node)) → (ps : List Place) (n k : ℕ) (nodes : List Node) → Stops ip G ps nodes k → first_failing ip test ps n nodes ≡ Some (n + k)
some_from_stops ip test G d ps n k [] s = absurd (no_node k s.node s.is)
  where
    no_node : (k : ℕ) (node : Node) → slice_get {X = Node} [] k ≡ Some node → ⊥
    no_node k node e = cc
some_from_stops ip test G d [] n zero (node ∷ nodes) s = let e = s.before in cc
some_from_stops ip test G d [] n (suc k) (node ∷ nodes) s = absurd s.before
some_from_stops ip test G d (p ∷ ps) n zero (node ∷ nodes) s =
    let not_here : test p node ≡ false = false_from_ne_true (test p node) (λ t. s.fails (moved p ps node s.here s.later s.node s.before s.is ((d p node).0 t))) in
    subst (λ t. cond t (first_failing ip test (opened ip p node ++ ps) (n + 1) nodes) (Some n) ≡ Some (n + 0)) (sym not_here) (ap (λ (j : ℕ). Some j) (sym (add-zero n)))
  where
    moved : (p : Place) (ps : List Place) (node : Node) (here : Place) (later : List Place) (other : Node) → p ∷ ps ≡ here ∷ later → Some node ≡ Some other → G p node → G here other
    moved p ps node here later other e f g =
        let same : p ≡ here = cc in
        let alike : node ≡ other = cc in
        subst (λ q. G q other) same (subst (λ m. G p m) alike g)
some_from_stops ip test G d (p ∷ ps) n (suc k) (node ∷ nodes) s =
    let more = some_from_stops ip test G d (opened ip p node ++ ps) (n + 1) k nodes (record { here = s.here; later = s.later; node = s.node; before = s.before.1; is = s.is; fails = s.fails }) in
    let sum : n + 1 + k ≡ n + suc k = omega arith in
    subst (λ t. cond t (first_failing ip test (opened ip p node ++ ps) (n + 1) nodes) (Some n) ≡ Some (n + suc k)) (sym ((d p node).1 s.before.0)) (more ∙ ap (λ (j : ℕ). Some j) sum)

pub fair_none : (ip : Ip) (known : Option ℤ) (tree : Tree) → (first_unfair ip known tree ≡ None → IsFairTree ip known tree) × (IsFairTree ip known tree → first_unfair ip known tree ≡ None)
fair_none ip known tree =
    let root = place (root_of ip) 0 ∷ [] in
    let test = is_fair_node ip known in
    (filled_from_none ip test (IsFairNode ip known) (node_decides ip known) root 0 tree.nodes, none_from_filled ip test (IsFairNode ip known) (node_decides ip known) root 0 tree.nodes)

first_from_some : (ip : Ip) (known : Option ℤ) (tree : Tree) (k : ℕ) → IsWhole tree → first_unfair ip known tree ≡ Some k → IsFirstUnfair ip known tree k
first_from_some ip known tree k w e =
    let s = stops_from_some ip (is_fair_node ip known) (IsFairNode ip known) (node_decides ip known) (place (root_of ip) 0 ∷ []) 0 k tree.nodes (root_filled ip tree w) e in
    let same : s.far ≡ k = omega (arith, s.sum) in
    subst (IsFirstUnfair ip known tree) same (record { here = s.stops.here; later = s.stops.later; node = s.stops.node; before = s.stops.before; is = s.stops.is; unfair = s.stops.fails })

some_from_first : (ip : Ip) (known : Option ℤ) (tree : Tree) (k : ℕ) → IsFirstUnfair ip known tree k → first_unfair ip known tree ≡ Some k
some_from_first ip known tree k f =
    let s : Stops ip (IsFairNode ip known) (place (root_of ip) 0 ∷ []) tree.nodes k = record { here = f.here; later = f.later; node = f.node; before = f.before; is = f.is; fails = f.unfair } in
    some_from_stops ip (is_fair_node ip known) (IsFairNode ip known) (node_decides ip known) (place (root_of ip) 0 ∷ []) 0 k tree.nodes s ∙ ap (λ (j : ℕ). Some j) (zero-add k)

pub first_found : (ip : Ip) (known : Option ℤ) (tree : Tree) (k : ℕ) → IsWhole tree → (first_unfair ip known tree ≡ Some k → IsFirstUnfair ip known tree k) × (IsFirstUnfair ip known tree k → first_unfair ip known tree ≡ Some k)
first_found ip known tree k w = (first_from_some ip known tree k w, some_from_first ip known tree k)
