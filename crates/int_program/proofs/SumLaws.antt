-- Turns of the loops that add up parts, and that no sum leaves 128 bits.
use Rattle.std.proofs.Common.{◌≡◌, ℕ, ℤ, pos, negsuc, ◌+◌, ◌*◌, ◌^◌, ◌<◌, ◌≤◌, ◌+ℤ◌, ◌*ℤ◌, ◌≤ℤ◌, ◌<ℤ◌, Bool, true, false, not, nat_eq, cond, List, ◌∷◌, length, get_or, drop, max, unsigned_abs, FitsSigned, to_z, of_z, int_lt, arith, refl, ◌∙◌, ap}
use Rattle.std.proofs.lemmas.Int.{ints, to_z-of_z, unsigned_abs-mul, fits_signed_from_abs}
use Rattle.std.proofs.lemmas.List.{at_drop_more}
use Rattle.std.proofs.Math.Nat.{mul-le-mul_left}
use Rattle.std.specs.Int.{w128}
use Rattle.int_program.specs.Sums.{at}
use Rattle.int_program.specs.declared.bounds.End.{End}
use Rattle.int_program.specs.Bounds.{least_term, most_term, least_of, part_least, part_end, sum_end}
use Rattle.int_program.specs.Limits.{part_weight, weight}
use Rattle.int_program.specs.Tightening.{factor, others}
use Rattle.int_program.specs.declared.program.Part.{Part}
use Rattle.int_program.specs.declared.program.IpBox.{IpBox}

-- what the code reads past the end
abbrev pub no_part : Part
no_part = record { var = 0; by = pos 0 }

pub unsigned_abs-le : (v high : ℤ) → pos 0 ≤ℤ v → v ≤ℤ high → unsigned_abs v ≤ unsigned_abs high
unsigned_abs-le (pos v) (pos high) h k = omega (arith, ints)
unsigned_abs-le (pos v) (negsuc high) h k = omega (arith, ints)
unsigned_abs-le (negsuc v) high h k = omega (arith, ints)

pub term_small : (by v high : ℤ) → pos 0 ≤ℤ v → v ≤ℤ high → unsigned_abs (by *ℤ v) ≤ unsigned_abs by * max (unsigned_abs high) 1
term_small by v high h k =
    let below = unsigned_abs-le v high h k in
    let up : unsigned_abs v ≤ max (unsigned_abs high) 1 = omega arith in
    omega (arith, mul-le-mul_left (unsigned_abs by) up, unsigned_abs-mul by v)

-- a product that fits, as the code computes it
pub times_back : (a b : ℤ) (n : ℕ) → FitsSigned w128 a → FitsSigned w128 b → unsigned_abs (a *ℤ b) ≤ n → n < 2 ^ 100 → to_z w128 (of_z w128 (to_z w128 (of_z w128 a) *ℤ to_z w128 (of_z w128 b))) ≡ a *ℤ b
times_back a b n f g small top =
    let fits : FitsSigned w128 (a *ℤ b) = fits_signed_from_abs w128 (a *ℤ b) (omega arith) in
    simp to_z-of_z

pub sum_small : (a b : ℤ) → unsigned_abs (a +ℤ b) ≤ unsigned_abs a + unsigned_abs b
sum_small (pos a) (pos b) = omega arith
sum_small (pos a) (negsuc b) = omega (arith, ints)
sum_small (negsuc a) (pos b) = omega (arith, ints)
sum_small (negsuc a) (negsuc b) = omega (arith, ints)

pub int_lt_no : (a b : ℤ) → b ≤ℤ a → int_lt a b ≡ false
int_lt_no a b h = grind (arith, ints)

pub int_lt_yes : (a b : ℤ) → a <ℤ b → int_lt a b ≡ true
int_lt_yes a b h = grind (arith, ints)

pub least_term_up : (by l h : ℤ) → pos 0 ≤ℤ by → least_term by l h ≡ by *ℤ l
least_term_up by l h p = ap (λ t. cond t (by *ℤ h) (by *ℤ l)) (int_lt_no by (pos 0) p)

pub least_term_down : (by l h : ℤ) → by <ℤ pos 0 → least_term by l h ≡ by *ℤ h
least_term_down by l h p = ap (λ t. cond t (by *ℤ h) (by *ℤ l)) (int_lt_yes by (pos 0) p)

pub most_term_up : (by l h : ℤ) → pos 0 ≤ℤ by → most_term by l h ≡ by *ℤ h
most_term_up by l h p = ap (λ t. cond t (by *ℤ l) (by *ℤ h)) (int_lt_no by (pos 0) p)

pub most_term_down : (by l h : ℤ) → by <ℤ pos 0 → most_term by l h ≡ by *ℤ l
most_term_down by l h p = ap (λ t. cond t (by *ℤ l) (by *ℤ h)) (int_lt_yes by (pos 0) p)

-- the loop's step
pub end_more : (which : End) (ps : List Part) (i : ℕ) (d : Part) (b : IpBox) → i < length ps → sum_end which (drop i ps) b ≡ part_end which (get_or ps i d) b +ℤ sum_end which (drop (i + 1) ps) b
end_more which ps i d b h = at_drop_more (λ q. sum_end which q b) ps i d h

pub weight_more : (ps : List Part) (i : ℕ) (d : Part) (tops : List ℤ) → i < length ps → weight (drop i ps) tops ≡ part_weight (get_or ps i d) tops + weight (drop (i + 1) ps) tops
weight_more ps i d tops h = at_drop_more (λ q. weight q tops) ps i d h

-- a sum that fits, as the code computes it
pub plus_back : (a b : ℤ) → FitsSigned w128 a → FitsSigned w128 b → FitsSigned w128 (a +ℤ b) → to_z w128 (of_z w128 (to_z w128 (of_z w128 a) +ℤ to_z w128 (of_z w128 b))) ≡ a +ℤ b
plus_back a b f g h = simp to_z-of_z

pub fits_small : (z : ℤ) (n : ℕ) → unsigned_abs z ≤ n → n < 2 ^ 100 → FitsSigned w128 z
fits_small z n h k = fits_signed_from_abs w128 z (omega arith)

pub plus_fits : (a r : ℤ) (m n : ℕ) → FitsSigned w128 r → unsigned_abs a + m ≤ n → unsigned_abs r ≤ m → n < 2 ^ 100 → FitsSigned w128 (a +ℤ to_z w128 (of_z w128 r))
plus_fits a r m n f h k top =
    let fits : FitsSigned w128 (a +ℤ r) = fits_small (a +ℤ r) n (omega (arith, sum_small a r)) top in
    rw to_z-of_z fits

pub plus_is : (a r : ℤ) (m n : ℕ) → FitsSigned w128 r → unsigned_abs a + m ≤ n → unsigned_abs r ≤ m → n < 2 ^ 100 → to_z w128 (of_z w128 (a +ℤ to_z w128 (of_z w128 r))) ≡ a +ℤ r
plus_is a r m n f h k top =
    let fits : FitsSigned w128 (a +ℤ r) = fits_small (a +ℤ r) n (omega (arith, sum_small a r)) top in
    simp to_z-of_z

pub step_sum : (a r now rest all : ℤ) → a +ℤ now ≡ all → now ≡ r +ℤ rest → (a +ℤ r) +ℤ rest ≡ all
step_sum a r now rest all h k = omega (arith, ints)

-- the loop's step for a variable's factor
pub factor_more : (ps : List Part) (i : ℕ) (d : Part) (v : ℕ) → i < length ps → factor (drop i ps) v ≡ cond (nat_eq (get_or ps i d).var v) (get_or ps i d).by (pos 0) +ℤ factor (drop (i + 1) ps) v
factor_more ps i d v h = at_drop_more (λ q. factor q v) ps i d h

-- and for the other parts
pub others_more : (ps : List Part) (i : ℕ) (d : Part) (v : ℕ) (b : IpBox) → i < length ps → least_of (others (drop i ps) v) b ≡ cond (nat_eq (get_or ps i d).var v) (pos 0) (part_least (get_or ps i d) b) +ℤ least_of (others (drop (i + 1) ps) v) b
others_more ps i d v b h = at_drop_more (λ q. least_of (others q v) b) ps i d h ∙ first (nat_eq (get_or ps i d).var v)
  where
    first : (t : Bool) → least_of (cond (not t) (get_or ps i d ∷ others (drop (i + 1) ps) v) (others (drop (i + 1) ps) v)) b ≡ cond t (pos 0) (part_least (get_or ps i d) b) +ℤ least_of (others (drop (i + 1) ps) v) b
    first true = omega (arith, ints)
    first false = refl

pub by_small : (p : Part) (tops : List ℤ) → unsigned_abs p.by ≤ part_weight p tops
by_small p tops =
    let one : 1 ≤ max (unsigned_abs (at tops p.var)) 1 = omega arith in
    omega (arith, mul-le-mul_left (unsigned_abs p.by) one)

-- the step of a sum that takes a number or skips it
pub step_skip : (a now rest all : ℤ) → a +ℤ now ≡ all → now ≡ pos 0 +ℤ rest → a +ℤ rest ≡ all
step_skip a now rest all h k = omega (arith, ints)

-- a loop's turn, where the term is known and small
pub sum_turn : (a r term now rest all : ℤ) (m left whole : ℕ) → FitsSigned w128 r → a +ℤ now ≡ all → now ≡ term +ℤ rest → r ≡ term → unsigned_abs a + (m + left) ≤ whole → unsigned_abs r ≤ m → whole < 2 ^ 100 → (to_z w128 (of_z w128 (a +ℤ to_z w128 (of_z w128 r))) +ℤ rest ≡ all) × (unsigned_abs (to_z w128 (of_z w128 (a +ℤ to_z w128 (of_z w128 r)))) + left ≤ whole)
sum_turn a r term now rest all m left whole f h k e small bound top =
    let is = plus_is a r m whole f (omega arith) bound top in
    rw is (step_sum a r now rest all h (rw e k), omega (arith, sum_small a r))
