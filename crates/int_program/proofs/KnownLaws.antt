-- What is accepted stays accepted for a greater known value.
use Rattle.std.proofs.Common.{◌≡◌, ℤ, ◌+ℤ◌, ◌≤ℤ◌, Bool, true, false, cond, ◌&&◌, List, [], ◌∷◌, ◌++◌, Option, Some, None, pos, int_le, arith, refl}
use Rattle.std.proofs.lemmas.Int.{ints}
use Rattle.int_program.specs.Boxes.{root_of}
use Rattle.int_program.specs.Bounds.{most_of}
use Rattle.int_program.specs.Tightening.{floor}
use Rattle.int_program.specs.Weighted.{rows_there, none_negative}
use Rattle.int_program.specs.Stopping.{tried_dual}
use Rattle.int_program.specs.Accepts.{goal_fault, dual_short, dual_fault, IsAccepted, children, Leads, Accepts}
use Rattle.int_program.specs.declared.program.Ip.{Ip}
use Rattle.int_program.specs.declared.program.IpBox.{IpBox}
use Rattle.int_program.specs.declared.program.Weight.{Weight}
use Rattle.int_program.specs.declared.program.Tree.{Tree}
use Rattle.int_program.specs.declared.program.Why.TheVariants as why
use Rattle.int_program.specs.declared.program.Node.{Node}
use Rattle.int_program.specs.declared.program.Node.TheVariants.{GoalLeaf, Dual}
use Rattle.int_program.proofs.TreeLaws.{test_from_none, fault_after, dual_never}

none_from_test : {W : Type 0} (t : Bool) (o : Option W) (w : W) → t ≡ true → o ≡ None → cond t o (Some w) ≡ None
none_from_test true o w h e = e
none_from_test false o w h e = cc

le_more : (z u v : ℤ) → u ≤ℤ v → int_le z u ≡ true → int_le z v ≡ true
le_more z u v h e = grind (arith, ints)

goal_more : (ip : Ip) (b : IpBox) (u v : ℤ) → u ≤ℤ v → goal_fault ip b (Some u) ≡ None → goal_fault ip b (Some v) ≡ None
goal_more ip b u v h e =
    none_from_test _ None why.ObjAbove (le_more (most_of ip.goal b +ℤ ip.base) u v h (test_from_none _ _ e)) refl

short_more : (u v over : ℤ) (o : Option ℤ) → u ≤ℤ v → dual_short u over o ≡ None → dual_short v over o ≡ None
short_more u v over None h e = cc
short_more u v over (Some bound) h e = none_from_test _ None why.DualShort (le_more (floor bound over) u v h (test_from_none _ _ e)) refl

dual_more : (ip : Ip) (b : IpBox) (over : ℤ) (ws : List Weight) (u v : ℤ) → u ≤ℤ v → dual_fault ip b (Some u) over ws ≡ None → dual_fault ip b (Some v) over ws ≡ None
dual_more ip b over ws u v h e =
    let o = tried_dual ip b over ws in
    let there = fault_after (rows_there ip ws) _ why.BadVar e in
    let signs = fault_after (int_le (pos 1) over && none_negative ws) (dual_short u over o) why.DualShort there.1 in
    let short = short_more u v over o h signs.1 in
    none_from_test (rows_there ip ws) _ why.BadVar there.0 (none_from_test (int_le (pos 1) over && none_negative ws) (dual_short v over o) why.DualShort signs.0 short)

pub accepted_more : (ip : Ip) (u v : ℤ) → u ≤ℤ v → (b : IpBox) (node : Node) → IsAccepted ip (Some u) b node → IsAccepted ip (Some v) b node
accepted_more ip u v h b GoalLeaf e = goal_more ip b u v h e
accepted_more ip u v h b (Dual over ws) e = dual_more ip b over ws u v h e
accepted_more ip u v h b other e = e

pub accepted_none : (ip : Ip) (u : ℤ) (b : IpBox) (node : Node) → IsAccepted ip None b node → IsAccepted ip (Some u) b node
accepted_none ip u b GoalLeaf e = cc
accepted_none ip u b (Dual over ws) e = absurd (dual_never (rows_there ip ws) e)
accepted_none ip u b other e = e

pub leads_weaker : (ip : Ip) (G H : IpBox → Node → Type 0) → ((b : IpBox) (node : Node) → G b node → H b node) → (bs : List IpBox) (nodes : List Node) (rest : List IpBox) → Leads ip G bs nodes rest → Leads ip H bs nodes rest
leads_weaker ip G H f bs [] rest h = h
leads_weaker ip G H f [] (n ∷ nodes) rest h = h
leads_weaker ip G H f (b ∷ bs) (n ∷ nodes) rest h = (f b n h.0, leads_weaker ip G H f (children ip b n ++ bs) nodes rest h.1)

pub accepts_greater : (ip : Ip) (known more : ℤ) (tree : Tree) → known ≤ℤ more → Accepts ip (Some known) tree → Accepts ip (Some more) tree
accepts_greater ip known more tree h a =
    leads_weaker ip (IsAccepted ip (Some known)) (IsAccepted ip (Some more)) (accepted_more ip known more h) (root_of ip ∷ []) tree.nodes [] a

pub accepts_none : (ip : Ip) (known : ℤ) (tree : Tree) → Accepts ip None tree → Accepts ip (Some known) tree
accepts_none ip known tree a =
    leads_weaker ip (IsAccepted ip None) (IsAccepted ip (Some known)) (accepted_none ip known) (root_of ip ∷ []) tree.nodes [] a
