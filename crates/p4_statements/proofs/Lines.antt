-- Where statements without statements in them pass a bound: what more stands before, in the same line.
use Rattle.std.proofs.Common.{◌≡◌, ℕ, List, [], sym, subst, arith}
use Rattle.spelling.specs.Words.{Word}
use Rattle.spelling.specs.Grammar.{Grammar}
use Rattle.spelling.specs.Reading.{MayTake}
use Rattle.spelling.specs.Bounds.{Line, OpensNext, Stops}
use Rattle.spelling.proofs.Balance.{Stays}
use Rattle.spelling.proofs.Bounds.{InLine, in_line, line_none, stop_line}
use Rattle.p4_expr.specs.Passing.{BoundPassed}
use Rattle.p4_expr.proofs.Bound.{bound_line}

pub past : {Of : Grammar} {a b c : List Word} (depth : ℕ) → MayTake Of a b → Stays depth Of → InLine Of → BoundPassed (Line depth) 0 b c → BoundPassed (Line depth) 0 a c
past depth m stays inside p = bound_line depth 0 depth (omega arith) (in_line depth stays inside m) p

pub stop_after : {Of : Grammar} {a b c : List Word} (depth : ℕ) → MayTake Of a b → Stays depth Of → InLine Of → Stops (Line depth) OpensNext b c → Stops (Line depth) OpensNext a c
stop_after depth m stays inside s = stop_line depth 0 depth (omega arith) (in_line depth stays inside m) s

-- an opening bracket that may not open stands where the line begins
pub line_here : {depth : ℕ} {a b : List Word} → b ≡ a → OpensNext a × (depth ≡ 0) → Stops (Line depth) OpensNext a b
line_here same h = record { front = []; joined = sym same; begun = subst (λ n. Line n []) (sym h.1) line_none; next = subst OpensNext (sym same) h.0 }
