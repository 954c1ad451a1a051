-- The boxes that nodes open lie inside the root box.
use Rattle.std.proofs.Common.{◌≡◌, ℕ, ℤ, ◌<◌, ◌≤◌, List, length, slice_get, Option, Some, None, ⊎_elim, sym, ap, refl, ◌∙◌}
use Rattle.std.proofs.lemmas.Bool.{cases_lt}
use Rattle.std.proofs.lemmas.Option.{slice_get_past}
use Rattle.int_program.specs.Accepts.{tight_child, tight_fault, with_ends}
use Rattle.int_program.specs.Tightening.{tight_ends}
use Rattle.int_program.specs.declared.program.IpBox.{IpBox}
use Rattle.int_program.specs.declared.program.Row.{Row}

-- the box that ends leave, where there are some
abbrev pub box_left : IpBox → ℕ → Option (ℤ × ℤ) → IpBox
box_left b v None = b
box_left b v (Some ends) = with_ends b v ends

left_is : (b : IpBox) (v : ℕ) (ends : Option (ℤ × ℤ)) → elim ends [ Some e ↦ with_ends b v e | None ↦ b ] ≡ box_left b v ends
left_is b v None = refl
left_is b v (Some e) = refl

pub child_is : (b : IpBox) (v : ℕ) (row : Row) (o : Option Row) (ends : Option (ℤ × ℤ)) → ends ≡ tight_ends row v b → o ≡ Some row → box_left b v ends ≡ tight_child b v o
child_is b v row o ends e s = rw (s, e, left_is b v (tight_ends row v b)) refl

-- a row that tightens is one of the rows
pub row_within : (n : ℕ) (b : IpBox) (v : ℕ) (rows : List Row) (k : ℕ) → tight_fault n b v (slice_get rows k) ≡ None → k < length rows
row_within n b v rows k h = ⊎_elim (λ l. l) (λ (past : length rows ≤ k). absurd (no_row (sym (ap (tight_fault n b v) (slice_get_past rows k past)) ∙ h))) (cases_lt k (length rows))
  where
    no_row : tight_fault n b v None ≡ None → ⊥
    no_row e = cc
