-- What the spelling of a term of the utility leaves no choice of.
use Rattle.std.proofs.Common.{◌≡◌, ℕ, Bool, List, [], ◌∷◌, Option, Some, None, codes, refl, sym, ap, subst, ◌∙◌, inl, inr}
use Rattle.std.proofs.lemmas.Bool.{false≢true}
use Rattle.elastic_ast.specs.declared.declarations.LinTerm.{LinTerm}
use Rattle.elastic_ast.specs.declared.declarations.UtilTerm.{UtilTerm}
use Rattle.elastic_ast.specs.declared.declarations.UtilTerm.TheVariants as util
use Rattle.spelling.specs.Words.{Word}
use Rattle.spelling.specs.Grammar.{Grammar, ◌⨟◌, Each, Begins, IsReserved, IsSign, is_reserved}
use Rattle.spelling.specs.Reading.{Ends, MayTake, Takes}
use Rattle.spelling.proofs.Only.{begins, begins_both, begins_first, empty_same, fact_of, of_where, regroup, split, which}
use Rattle.spelling.proofs.Taking.{may_both, may_where, takes_as, takes_both}
use Rattle.p4_declarations.specs.GoesOn.{product_signs, sum_signs}
use Rattle.p4_declarations.specs.Sums.{SpellsProduct, SpellsSign}
use Rattle.p4_declarations.specs.Flat.{SpellsGainBehind, SpellsLaterGain, SpellsSteps}
use Rattle.p4_declarations.proofs.Signs.{sign_follows}
use Rattle.p4_declarations.proofs.SumSpelling.{later_term}

-- whether a term is subtracted, and what follows its sign
abbrev pub is_subtracted : UtilTerm → Bool
is_subtracted (util.Lin term) = term.minus
is_subtracted (util.Steps minus symbol steps) = minus

abbrev pub SpellsGain : ℕ → UtilTerm → Grammar
SpellsGain depth (util.Lin term) = SpellsProduct term.by term.symbol
SpellsGain depth (util.Steps minus symbol steps) = SpellsSteps depth symbol steps

pub of_behind : (minus : Bool) (depth : ℕ) (gain : UtilTerm) {a c : List Word} → MayTake (SpellsGainBehind minus depth gain) a c → (is_subtracted gain ≡ minus) × MayTake (SpellsGain depth gain) a c
of_behind minus depth (util.Lin term) m = (fact_of m, of_where m)
of_behind minus depth (util.Steps own symbol steps) m = (fact_of m, of_where m)

pub as_behind : {minus : Bool} (depth : ℕ) (gain : UtilTerm) {a c : List Word} → is_subtracted gain ≡ minus → MayTake (SpellsGain depth gain) a c → MayTake (SpellsGainBehind minus depth gain) a c
as_behind depth (util.Lin term) e m = may_where e m
as_behind depth (util.Steps own symbol steps) e m = may_where e m

-- a term with its sign
pub later_gain : (depth : ℕ) (gain : UtilTerm) (minus : Bool) {a b c : List Word} → Takes (SpellsSign minus) a b → Takes (SpellsGainBehind minus depth gain) b c → Takes (SpellsLaterGain depth gain) a c
later_gain depth (util.Lin term) minus sign t = later_term term minus sign t
later_gain depth (util.Steps own symbol steps) minus {a = a} {b = b} sign t =
    takes_both (subst (λ m. Takes (SpellsSign m) a b) (sym t.spelled.0) sign) (takes_as (λ ws h. h.1) t)

pub of_later : (depth : ℕ) (gain : UtilTerm) {a c : List Word} → MayTake (SpellsLaterGain depth gain) a c → MayTake (SpellsSign (is_subtracted gain) ⨟ SpellsGain depth gain) a c
of_later depth (util.Lin term) m = m
of_later depth (util.Steps minus symbol steps) m = m

-- the first word of a product is no reserved word
no_product : (by : ℕ) (symbol : Option (List ℕ)) (text : List ℕ) {a c : List Word} → MayTake (SpellsProduct by symbol) a c → Begins (IsReserved text) a → ⊥
no_product by None text {a = a} m at =
    let b = begins_both a (begins (of_where m)) at in
    false≢true (sym (ap is_reserved b.1) ∙ b.2.0)
no_product by (Some symbol) text {a = a} m at =
    elim (which m) [
      | inl n ↦ let b = begins_both a (begins (of_where n)) at in false≢true (sym (ap is_reserved b.1.0) ∙ b.2.0)
      | inr n ↦ let b = begins_both a (begins_first (of_where n)) at in false≢true (sym (ap is_reserved b.1) ∙ b.2.0)
    ]

-- a term that begins with this reserved word is one of steps
pub record OfSteps (depth : ℕ) (gain : UtilTerm) (a c : List Word) : Type 0 where
  pub symbol : List ℕ
  pub steps : List (ℕ × ℕ)
  pub is : gain ≡ util.Steps (is_subtracted gain) symbol steps
  pub ahead : MayTake (SpellsSteps depth symbol steps) a c

pub of_steps : (depth : ℕ) (gain : UtilTerm) {a c : List Word} → MayTake (SpellsGain depth gain) a c → Begins (IsReserved (codes "table")) a → OfSteps depth gain a c
of_steps depth (util.Lin term) m at = absurd (no_product term.by term.symbol (codes "table") m at)
of_steps depth (util.Steps minus symbol steps) m at = record { symbol = symbol; steps = steps; is = refl; ahead = m }

-- any other is a product
pub record OfProduct (gain : UtilTerm) (a c : List Word) : Type 0 where
  pub term : LinTerm
  pub is : gain ≡ util.Lin term
  pub minus : term.minus ≡ is_subtracted gain
  pub ahead : MayTake (SpellsProduct term.by term.symbol) a c

pub of_product : (depth : ℕ) (gain : UtilTerm) {a c : List Word} → MayTake (SpellsGain depth gain) a c → (Begins (IsReserved (codes "table")) a → ⊥) → OfProduct gain a c
of_product depth (util.Lin term) m not_at = record { term = term; is = refl; minus = refl; ahead = m }
of_product depth (util.Steps minus symbol steps) m not_at = absurd (not_at (begins_first m))

-- a later term begins with its sign
pub later_apart : (depth : ℕ) (gain : UtilTerm) {Q : Grammar} {a c : List Word} → MayTake (SpellsLaterGain depth gain ⨟ Q) a c → MayTake (SpellsSign (is_subtracted gain) ⨟ SpellsGain depth gain ⨟ Q) a c
later_apart depth gain m = let s = split m in regroup (may_both (of_later depth gain s.first) s.second)

-- what follows a term within the utility ends it
pub gains_follow : (depth : ℕ) (later : List UtilTerm) {a c : List Word} → MayTake (Each (SpellsLaterGain depth) later) a c → Ends sum_signs c → Ends product_signs a
gains_follow depth [] m ends = (λ at. ends.0 (subst (Begins (IsSign (codes "*"))) (empty_same m) at), tt)
gains_follow depth (gain ∷ later) m ends = sign_follows (is_subtracted gain) (later_apart depth gain m)
