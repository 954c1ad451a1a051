-- A row tightens none but the variables that it names.
use Rattle.std.proofs.Common.{◌≡◌, ℕ, suc, ℤ, pos, ◌+ℤ◌, ◌<◌, ◌≤◌, Bool, true, false, cond, List, [], ◌∷◌, length, get_or, slice_get, Option, Some, None, nat_eq, nat_lt, ◌⊎◌, inl, inr, ⊎_elim, arith, refl, sym, ap, ◌∙◌, subst}
use Rattle.std.proofs.lemmas.Int.{ints}
use Rattle.std.proofs.lemmas.Bool.{cases_lt, eqb-true}
use Rattle.std.proofs.lemmas.Option.{slice_get_past}
use Rattle.int_program.specs.Sums.{at}
use Rattle.int_program.specs.Tightening.{factor, left_over, floor, ceiling, shrunk, tight_ends}
use Rattle.int_program.specs.Accepts.{tight_fault}
use Rattle.int_program.specs.Fair.{NoTightening}
use Rattle.int_program.specs.declared.program.Ip.{Ip}
use Rattle.int_program.specs.declared.program.IpBox.{IpBox}
use Rattle.int_program.specs.declared.program.Part.{Part}
use Rattle.int_program.specs.declared.program.Row.{Row}
use Rattle.int_program.specs.declared.program.Why.{Why}
use Rattle.int_program.specs.declared.program.Why.TheVariants as why

-- a variable stands at some place, or its coefficient is 0
record StandsAt (ps : List Part) (d : Part) (v : ℕ) : Type 0 where
  place : ℕ
  within : place < length ps
  same : (get_or ps place d).var ≡ v

stands : (ps : List Part) (d : Part) (v : ℕ) → (factor ps v ≡ pos 0) ⊎ StandsAt ps d v
stands [] d v = inl refl
stands (p ∷ ps) d v = by (nat_eq p.var v) refl (stands ps d v)
  where
    by : (t : Bool) → nat_eq p.var v ≡ t → (factor ps v ≡ pos 0) ⊎ StandsAt ps d v → (cond t p.by (pos 0) +ℤ factor ps v ≡ pos 0) ⊎ StandsAt (p ∷ ps) d v
    by true e s = inr (record { place = 0; within = omega arith; same = eqb-true p.var v e })
    by false e (inl z) = inl (omega (arith, ints))
    by false e (inr s) = inr (record { place = suc s.place; within = omega (arith, s.within); same = s.same })

pub no_ends : (row : Row) (v : ℕ) (b : IpBox) → factor row.parts v ≡ pos 0 → tight_ends row v b ≡ None
no_ends row v b e =
    let a = factor row.parts v in
    ap (λ (t : ℤ). shrunk t (at b.low v) (at b.high v) (ceiling (left_over row v b) a) (floor (left_over row v b) a)) e

is_not_tight : (o : Option (ℤ × ℤ)) → o ≡ None → elim o [ Some _ ↦ None | None ↦ Some why.NotTight ] ≡ Some why.NotTight
is_not_tight None e = refl
is_not_tight (Some ends) e = cc

-- no tightening without ends
pub unshrunk : (n : ℕ) (b : IpBox) (v : ℕ) (row : Row) → tight_ends row v b ≡ None → tight_fault n b v (Some row) ≡ None → ⊥
unshrunk n b v row e = by (nat_lt v n) (elim (tight_ends row v b) [ Some _ ↦ None | None ↦ Some why.NotTight ]) (is_not_tight (tight_ends row v b) e)
  where
    by : (t : Bool) (o : Option Why) → o ≡ Some why.NotTight → cond t o (Some why.BadVar) ≡ None → ⊥
    by true o g h = absurd (differ (sym g ∙ h))
      where
        differ : Some why.NotTight ≡ None → ⊥
        differ f = cc
    by false o g h = cc

pub row_loose : (n : ℕ) (b : IpBox) (row : Row) (d : Part) (ps : List Part) (i : ℕ) → ps ≡ row.parts → length ps ≤ i → ((k : ℕ) → k < i → tight_fault n b (get_or ps k d).var (Some row) ≡ None → ⊥) → (v : ℕ) → tight_fault n b v (Some row) ≡ None → ⊥
row_loose n b row d ps i e l h v f =
    ⊎_elim
    (λ z. unshrunk n b v row (no_ends row v b (subst (λ qs. factor qs v ≡ pos 0) e z)) f)
    (λ (s : StandsAt ps d v). h s.place (omega (arith, s.within)) (subst (λ w. tight_fault n b w (Some row) ≡ None) (sym s.same) f))
    (stands ps d v)

-- no row past the end tightens
pub tight_none : (ip : Ip) (b : IpBox) (n : ℕ) → length ip.rows ≤ n → ((k : ℕ) → k < n → (v : ℕ) → tight_fault (length ip.tops) b v (slice_get ip.rows k) ≡ None → ⊥) → NoTightening ip b
tight_none ip b n e h v r f =
    ⊎_elim (λ (l : r < length ip.rows). h r (omega arith) v f) (λ (past : length ip.rows ≤ r). no_row (sym (ap (tight_fault (length ip.tops) b v) (slice_get_past ip.rows r past)) ∙ f)) (cases_lt r (length ip.rows))
  where
    no_row : tight_fault (length ip.tops) b v None ≡ None → ⊥
    no_row g = cc
