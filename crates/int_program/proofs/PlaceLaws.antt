-- Places have the boxes of the list of open boxes.
use Rattle.std.proofs.Common.{◌≡◌, ℤ, ◌<◌, List, [], ◌∷◌, ◌++◌, map, Option, refl, sym, ap, subst}
use Rattle.int_program.specs.Boxes.{IsNonempty, root_of}
use Rattle.int_program.specs.Accepts.{IsAccepted, children, Leads, Accepts}
use Rattle.int_program.specs.Places.{place, opened, Fills, OfEachNode}
use Rattle.int_program.specs.FairTrees.{IsOpenOrAccepted, IsAcceptedButOpen}
use Rattle.int_program.specs.Counting.{root_points, split_count}
use Rattle.int_program.specs.declared.program.Ip.{Ip}
use Rattle.int_program.specs.declared.program.IpBox.{IpBox}
use Rattle.int_program.specs.declared.program.Place.{Place}
use Rattle.int_program.specs.declared.program.Tree.{Tree}
use Rattle.int_program.specs.declared.program.Node.{Node}
use Rattle.int_program.specs.declared.program.Node.TheVariants.{Split, Tight, RowLeaf, GoalLeaf, Dual, Far, Unsolved}
use Rattle.int_program.proofs.CountLaws.{Fits, Uses, cut_uses, accepted_uses, fewer}

abbrev pub box_of : Place → IpBox
box_of p = p.within

-- a node opens the same boxes
pub boxes_opened : (ip : Ip) (p : Place) (node : Node) (ps : List Place) → map box_of (opened ip p node ++ ps) ≡ children ip p.within node ++ map box_of ps
boxes_opened ip p (Split v k) ps = refl
boxes_opened ip p (Tight v r) ps = refl
boxes_opened ip p (RowLeaf r) ps = refl
boxes_opened ip p GoalLeaf ps = refl
boxes_opened ip p (Dual over ws) ps = refl
boxes_opened ip p (Far ws) ps = refl
boxes_opened ip p Unsolved ps = refl

pub leads_from_fills : (ip : Ip) (H : IpBox → Node → Type 0) (ps : List Place) (nodes : List Node) (rest : List Place) → Fills ip (λ p node. H p.within node) ps nodes rest → Leads ip H (map box_of ps) nodes (map box_of rest)
leads_from_fills ip H ps [] rest f = ap (λ qs. map box_of qs) f
leads_from_fills ip H [] (node ∷ nodes) rest f = absurd f
leads_from_fills ip H (p ∷ ps) (node ∷ nodes) rest f =
    let more = leads_from_fills ip H (opened ip p node ++ ps) nodes rest f.1 in
    (f.0, subst (λ bs. Leads ip H bs nodes (map box_of rest)) (boxes_opened ip p node ps) more)

pub fills_from_leads : (ip : Ip) (H : IpBox → Node → Type 0) (ps : List Place) (nodes : List Node) → Leads ip H (map box_of ps) nodes [] → Fills ip (λ p node. H p.within node) ps nodes []
fills_from_leads ip H [] [] l = refl
fills_from_leads ip H (p ∷ ps) [] l = cc
fills_from_leads ip H [] (node ∷ nodes) l = absurd l
fills_from_leads ip H (p ∷ ps) (node ∷ nodes) l =
    let same = sym (boxes_opened ip p node ps) in
    (l.0, fills_from_leads ip H (opened ip p node ++ ps) nodes (subst (λ bs. Leads ip H bs nodes []) same l.1))

-- what holds of each node, holds in a weaker form
pub fills_weaker : (ip : Ip) (G H : Place → Node → Type 0) → ((p : Place) (node : Node) → G p node → H p node) → (ps : List Place) (nodes : List Node) (rest : List Place) → Fills ip G ps nodes rest → Fills ip H ps nodes rest
fills_weaker ip G H f ps [] rest h = h
fills_weaker ip G H f [] (node ∷ nodes) rest h = h
fills_weaker ip G H f (p ∷ ps) (node ∷ nodes) rest h =
    (f p node h.0, fills_weaker ip G H f (opened ip p node ++ ps) nodes rest h.1)

pub same_boxes : (ip : Ip) (known : Option ℤ) (tree : Tree) → (OfEachNode ip (λ p node. IsAccepted ip known p.within node) tree → Accepts ip known tree) × (Accepts ip known tree → OfEachNode ip (λ p node. IsAccepted ip known p.within node) tree)
same_boxes ip known tree =
    let root = place (root_of ip) 0 ∷ [] in
    (leads_from_fills ip (IsAccepted ip known) root tree.nodes [], fills_from_leads ip (IsAccepted ip known) root tree.nodes)

-- the same of a box
abbrev OnBox : Ip → Option ℤ → IpBox → Node → Type 0
OnBox ip known b Unsolved = Unit {0}
OnBox ip known b node = IsAccepted ip known b node

on_box : (ip : Ip) (known : Option ℤ) (p : Place) (node : Node) → IsOpenOrAccepted ip known p node → OnBox ip known p.within node
on_box ip known p Unsolved a = tt
on_box ip known p node a = a

open_uses : (ip : Ip) (known : Option ℤ) (b : IpBox) (bs : List IpBox) (node : Node) → Fits ip b → OnBox ip known b node → Uses ip b bs node
open_uses ip known b bs Unsolved f a = cut_uses ip b bs Unsolved f tt
open_uses ip known b bs node f a = accepted_uses ip known b bs node f a

pub open_fewer : (ip : Ip) (known : Option ℤ) (tree : Tree) → IsNonempty (root_of ip) → IsAcceptedButOpen ip known tree → split_count tree.nodes < root_points ip
open_fewer ip known tree n a =
    let weaker = fills_weaker ip (IsOpenOrAccepted ip known) (λ p node. OnBox ip known p.within node) (on_box ip known) (place (root_of ip) 0 ∷ []) tree.nodes [] a in
    fewer ip (OnBox ip known) (open_uses ip known) tree.nodes n (leads_from_fills ip (OnBox ip known) (place (root_of ip) 0 ∷ []) tree.nodes [] weaker)
