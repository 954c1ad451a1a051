-- Fair splits cut, and owe less before tightening is owed.
use Rattle.std.proofs.Common.{◌≡◌, ℕ, ℤ, ◌<◌, Bool, true, false, length, Option, IsTrue, sym, subst}
use Rattle.int_program.specs.Counting.{IsCut}
use Rattle.int_program.specs.Fair.{IsFairSplit, IsFair}
use Rattle.int_program.specs.declared.program.Ip.{Ip}
use Rattle.int_program.specs.declared.program.IpBox.{IpBox}
use Rattle.int_program.specs.declared.program.Node.{Node}
use Rattle.int_program.specs.declared.program.Node.TheVariants.{Split}

pub fair_cut : (owed : Bool) (above : ℕ) (ip : Ip) (b : IpBox) (v : ℕ) (k : ℤ) → length b.low ≡ length ip.tops → IsFairSplit owed above ip b v k → IsCut b v k
fair_cut owed above ip b v k e f =
    record { nonempty = f.nonempty; var = subst (λ n. v < n) (sym e) f.var; lower = f.lower; upper = f.upper }

not_owed : {P : Type 0} → IsTrue false → P
not_owed h = cc

pub fair_before : (above : ℕ) (ip : Ip) (known : Option ℤ) (b : IpBox) (node : Node) → IsFair true above ip known b node → IsFair false above ip known b node
fair_before above ip known b (Split v k) f =
    record { nonempty = f.nonempty; no_row = f.no_row; var = f.var; lower = f.lower; upper = f.upper; narrow = not_owed }
fair_before above ip known b other f = f
