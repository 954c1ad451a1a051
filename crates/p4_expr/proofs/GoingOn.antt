-- Where an expression of a level goes no further.
use Rattle.std.proofs.Common.{◌≡◌, ℕ, suc, List, arith, inl, inr}
use Rattle.std.proofs.Math.Nat.{eq-or-lt_of_le}
use Rattle.spelling.specs.Words.{Word}
use Rattle.p4_expr.specs.Standing.{GoesNoFurther, NoneStands, StandsSlice}

pub further_none : (ws : List Word) → (StandsSlice ws → ⊥) → GoesNoFurther 0 ws
further_none ws none = record { operators = λ operator above within stands. absurd (omega (arith, above, within)); slice = none }

-- where no operator of a level stands, nor one of a stronger level
pub further_below : (level below : ℕ) (ws : List Word) → level ≡ suc below → GoesNoFurther below ws → NoneStands level ws → GoesNoFurther level ws
further_below level below ws is lower none =
    record {
      operators = λ operator above within stands. elim (eq-or-lt_of_le within) [ inl same ↦ none operator same stands | inr less ↦ lower.operators operator above (omega (arith, less, is)) stands ];
      slice = lower.slice;
    }
