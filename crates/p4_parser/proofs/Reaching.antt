-- Where a reader of a part of a program refuses as too deep.
use Rattle.p4_parser.specs.Reading.{AppliesPassed}
use Rattle.p4_statements.proofs.FewReading.{passes_opens}
use Rattle.spelling.proofs.ByParts.{PassesIn}
use Rattle.std.proofs.Common.{◌≡◌, ℕ, ◌+◌, ◌≤◌, List, ◌++◌, ap, arith, refl, subst, sym, ◌∙◌, append_assoc, inl, inr, codes}
use Rattle.spelling.specs.Words.{Word}
use Rattle.spelling.specs.Grammar.{Grammar, Named, Reserved}
use Rattle.spelling.specs.Reading.{Takes, MayTake}
use Rattle.spelling.specs.Bounds.{Opens, OpensNext, Stops}
use Rattle.spelling.proofs.Balance.{stays_both, stays_named, stays_reserved}
use Rattle.spelling.proofs.Bounds.{even, opens_both, stop_as, one_open}
use Rattle.spelling.proofs.Taking.{may, takes_both}
use Rattle.p4_expr.specs.Passing.{BoundPassed}
use Rattle.p4_expr.proofs.Bound.{bound_as, bound_past}
use Rattle.p4_statements.specs.Begun.{StmtsBegun}
use Rattle.p4_parser.specs.Reaching.{Reaches, ProgramPassed}

-- the reserved word and the name with which a part of a program begins
pub headed : (text name : List ℕ) {a b c : List Word} → Takes (Reserved text) a b → Takes (Named name) b c → MayTake (Opens 0) a c
headed text name r n = even 0 (stays_both (stays_reserved text) (stays_named name)) (may (takes_both r n))

-- brackets behind which the parts of a program stand
reaches_behind : {after : List Word} (j k : ℕ) (front back : List Word) → Opens j front → Reaches after k back → Reaches after (j + k) (front ++ back)
reaches_behind j k front back o (Reaches.brackets p) = Reaches.brackets (opens_both j k front back o p)
reaches_behind {after = after} j k front back o (Reaches.statements {outside = outside} {within = within} one other p q e) =
    let many : j + (outside + within) ≡ (j + outside) + within = omega arith in
    let words : front ++ back ≡ (front ++ one) ++ other = ap (λ ws. front ++ ws) e ∙ sym (append_assoc front one other) in
    subst (λ n. Reaches after n (front ++ back)) (sym many) (Reaches.statements (front ++ one) other (opens_both j outside front one o p) q words)

pub reaches_past : (depth j k enclosed whole : ℕ) {a b c : List Word} → depth ≡ j + k → whole ≤ j + enclosed → MayTake (Opens j) a b → BoundPassed (Reaches c k) enclosed b c → BoundPassed (Reaches c depth) whole a c
reaches_past depth j k enclosed whole {a = a} {c = c} e le m p = subst (λ n. BoundPassed (Reaches c n) whole a c) (sym e) (bound_past j enclosed whole le (λ ws h. h) (reaches_behind j k) m p)

-- brackets behind which statements stand
pub reaches_within : (depth j k whole : ℕ) {a b c : List Word} → depth ≡ j + k → whole ≤ j → MayTake (Opens j) a b → BoundPassed (StmtsBegun c k) 0 b c → BoundPassed (Reaches c depth) whole a c
reaches_within depth j k whole {a = a} {c = c} e le m p = subst (λ n. BoundPassed (Reaches c n) whole a c) (sym e) (bound_past j 0 whole (omega (arith, le)) (λ ws h. h) (λ front back o s. Reaches.statements front back o s refl) m p)

-- no statements of a control
pub reaches_all : {depth enclosed whole : ℕ} {a c : List Word} → whole ≤ enclosed → BoundPassed (Opens depth) enclosed a c → BoundPassed (Reaches c depth) whole a c
reaches_all le p = bound_as (λ ws h. Reaches.brackets h) le p

pub reaches_stop : {depth enclosed : ℕ} {a c : List Word} → Stops (Opens depth) OpensNext a c → BoundPassed (Reaches c depth) enclosed a c
reaches_stop s = inl (stop_as (λ ws h. Reaches.brackets h) s)

-- the words before a place where a bound is passed
pub passed_front : {Begun : Grammar} {enclosed : ℕ} {a c : List Word} → BoundPassed Begun enclosed a c → (front : List Word) × (a ≡ front ++ c)
passed_front (inl s) = (s.front, s.joined)
passed_front {c = c} (inr p) = (p.front ++ p.passed.front, p.joined ∙ ap (λ ws. p.front ++ ws) p.passed.joined ∙ sym (append_assoc p.front p.passed.front c))

-- how the bounds are passed in the brackets of a control and of what it applies
pub passes_contents : (depth : ℕ) → PassesIn (codes "{") depth (ProgramPassed depth) AppliesPassed
passes_contents depth =
    let here = passes_opens (codes "{") depth 1 2 refl (omega arith) in
    record {
      stops = λ a next e. reaches_all (omega arith) (here.stops a next e);
      grows = λ inner a b c e m p. reaches_past depth 1 inner 1 2 (omega (arith, e)) (omega arith) (one_open (codes "{") refl m) p;
    }

pub passes_apply : (depth : ℕ) → PassesIn (codes "{") depth (AppliesPassed depth) (λ inner b c. BoundPassed (StmtsBegun c inner) 0 b c)
passes_apply depth =
    let here = passes_opens (codes "{") depth 0 1 refl (omega arith) in
    record {
      stops = λ a next e. reaches_all (omega arith) (here.stops a next e);
      grows = λ inner a b c e m p. reaches_within depth 1 inner 1 (omega (arith, e)) (omega arith) (one_open (codes "{") refl m) p;
    }
