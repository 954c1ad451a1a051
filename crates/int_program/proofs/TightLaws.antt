-- The two ends that a row leaves are one division.
use Rattle.std.proofs.Common.{◌≡◌, ℕ, ℤ, pos, negsuc, ◌<ℤ◌, Bool, true, false, cond, ◌&&◌, Option, Some, None, int_lt, int_le, arith, refl, sym, ap, ◌∙◌, ◌-ℤ◌}
use Rattle.std.proofs.lemmas.Int.{ints}
use Rattle.std.specs.Int.{int_div_euclid}
use Rattle.int_program.specs.Sums.{at}
use Rattle.int_program.specs.Bounds.{least_of}
use Rattle.int_program.specs.Tightening.{factor, others, floor, ceiling, shrunk, tight_ends}
use Rattle.int_program.specs.declared.program.IpBox.{IpBox}
use Rattle.int_program.specs.declared.program.Row.{Row}
use Rattle.int_program.proofs.OrderLaws.{div_by_negative}

pub ceiling_is : (z a : ℤ) → a <ℤ pos 0 → ceiling z a ≡ int_div_euclid z a
ceiling_is z (pos a) h = absurd (omega (arith, ints))
ceiling_is z (negsuc a) h = sym (div_by_negative z a)

pub ends_are : (a low high z : ℤ) → shrunk a low high (ceiling z a) (floor z a) ≡ shrunk a low high (int_div_euclid z a) (int_div_euclid z a)
ends_are a low high z = by (int_lt (pos 0) a) (int_lt a (pos 0)) refl
  where
    by : (t s : Bool) → int_lt a (pos 0) ≡ s → cond t (cond {A = Option (ℤ × ℤ)} (int_le low (int_div_euclid z a) && int_lt (int_div_euclid z a) high) (Some (low, int_div_euclid z a)) None) (cond {A = Option (ℤ × ℤ)} (s && (int_lt low (ceiling z a) && int_le (ceiling z a) high)) (Some (ceiling z a, high)) None) ≡ cond t (cond {A = Option (ℤ × ℤ)} (int_le low (int_div_euclid z a) && int_lt (int_div_euclid z a) high) (Some (low, int_div_euclid z a)) None) (cond {A = Option (ℤ × ℤ)} (s && (int_lt low (int_div_euclid z a) && int_le (int_div_euclid z a) high)) (Some (int_div_euclid z a, high)) None)
    by true s e = refl
    by false true e = ap (λ (up : ℤ). cond {A = Option (ℤ × ℤ)} (int_lt low up && int_le up high) (Some (up, high)) None) (ceiling_is z a (omega (arith, ints)))
    by false false e = refl

pub tight_is : (row : Row) (v : ℕ) (b : IpBox) (r : Option (ℤ × ℤ)) (a m e : ℤ) → r ≡ shrunk a (at b.low v) (at b.high v) e e → e ≡ int_div_euclid (row.most -ℤ m) a → a ≡ factor row.parts v → m ≡ least_of (others row.parts v) b → r ≡ tight_ends row v b
tight_is row v b r a m e h he ha hm =
    let low = at b.low v in
    let high = at b.high v in
    h ∙ ap (λ (t : ℤ). shrunk a low high t t) he ∙ sym (ends_are a low high (row.most -ℤ m))
    ∙ ap (λ (t : ℤ). shrunk t low high (ceiling (row.most -ℤ m) t) (floor (row.most -ℤ m) t)) ha
    ∙ ap (λ (n : ℤ). shrunk (factor row.parts v) low high (ceiling (row.most -ℤ n) (factor row.parts v)) (floor (row.most -ℤ n) (factor row.parts v))) hm
