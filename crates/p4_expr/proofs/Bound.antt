-- Where one of the two numbers is passed, behind more words.
use Rattle.std.proofs.Common.{◌≡◌, ℕ, ◌+◌, ◌≤◌, List, [], ◌++◌, refl, ap, sym, subst, ◌∙◌, append_assoc, arith, inl, inr}
use Rattle.spelling.specs.Words.{Word}
use Rattle.spelling.specs.Grammar.{Grammar}
use Rattle.spelling.specs.Reading.{MayTake}
use Rattle.spelling.specs.Bounds.{Opens, Line}
use Rattle.spelling.proofs.Bounds.{opens_both, opens_none, line_both, stop_as, stop_past}
use Rattle.p4_expr.specs.Expressions.{most_operators}
use Rattle.p4_expr.specs.Passing.{OperatorsWithin, BoundPassed, ExprPassed}

-- an expression that stands within any number of brackets
pub expr_bound : {depth : ℕ} {a c : List Word} → ExprPassed depth most_operators a c → BoundPassed (Line depth) 0 a c
expr_bound (inl s) = inl s
expr_bound {a = a} (inr p) = inr record { front = []; back = a; joined = refl; count = 0; at_least = omega arith; opened = opens_none; passed = p }

pub bound_as : {Begun Whole : Grammar} {enclosed fewer : ℕ} {a c : List Word} → ((ws : List Word) → Begun ws → Whole ws) → fewer ≤ enclosed → BoundPassed Begun enclosed a c → BoundPassed Whole fewer a c
bound_as f le (inl s) = inl (stop_as f s)
bound_as f le (inr p) = let h = p.at_least in inr record { front = p.front; back = p.back; joined = p.joined; count = p.count; at_least = omega (arith, le, h); opened = p.opened; passed = p.passed }

within_past : (j enclosed whole : ℕ) {a b c : List Word} → whole ≤ j + enclosed → MayTake (Opens j) a b → OperatorsWithin enclosed b c → OperatorsWithin whole a c
within_past j enclosed whole le m p =
    let h = p.at_least in
    record {
      front = m.front ++ p.front;
      back = p.back;
      joined = m.joined ∙ ap (λ ws. m.front ++ ws) p.joined ∙ sym (append_assoc m.front p.front p.back);
      count = j + p.count;
      at_least = omega (arith, le, h);
      opened = opens_both j p.count m.front p.front m.spelled p.opened;
      passed = p.passed;
    }

-- Behind words that open so many brackets: how they and what is begun make what is begun in all, and the brackets around an expression.
pub bound_past : (j enclosed whole : ℕ) {Front Begun Whole : Grammar} {a b c : List Word} → whole ≤ j + enclosed → ((ws : List Word) → Front ws → Opens j ws) → ((front back : List Word) → Front front → Begun back → Whole (front ++ back)) → MayTake Front a b → BoundPassed Begun enclosed b c → BoundPassed Whole whole a c
bound_past j enclosed whole le opened f m (inl s) = inl (stop_past f m s)
bound_past j enclosed whole le opened f m (inr p) = inr (within_past j enclosed whole le record { front = m.front; joined = m.joined; spelled = opened m.front m.spelled } p)

-- the same of brackets alone, of which a depth allows so many
pub bound_opens : (depth j k enclosed whole : ℕ) {a b c : List Word} → depth ≡ j + k → whole ≤ j + enclosed → MayTake (Opens j) a b → BoundPassed (Opens k) enclosed b c → BoundPassed (Opens depth) whole a c
bound_opens depth j k enclosed whole {a = a} {c = c} e le m p = subst (λ n. BoundPassed (Opens n) whole a c) (sym e) (bound_past j enclosed whole le (λ ws h. h) (opens_both j k) m p)

-- the same within one line
pub bound_line : (depth j k : ℕ) {a b c : List Word} → depth ≡ j + k → MayTake (Line j) a b → BoundPassed (Line k) 0 b c → BoundPassed (Line depth) 0 a c
bound_line depth j k {a = a} {c = c} e m p = subst (λ n. BoundPassed (Line n) 0 a c) (sym e) (bound_past j 0 0 (omega arith) (λ ws h. h.opened) (line_both j k) m p)
