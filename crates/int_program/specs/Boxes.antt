-- Boxes: the points between two ends in each variable; this project's own.
use Rattle.std.specs.Prelude.{◌≡◌, ℕ, ℤ, pos, ◌≤ℤ◌, List, length, map}
use Rattle.int_program.specs.declared.program.Ip.{Ip}
use Rattle.int_program.specs.declared.program.IpBox.{IpBox}
use Rattle.int_program.specs.Sums.{at}

-- the box holds a point: one number for each variable, between its ends
pub record InBox (x : List ℤ) (b : IpBox) : Type 0 where
  pub count : length x ≡ length b.low
  pub ends : (k : ℕ) → (at b.low k ≤ℤ at x k) × (at x k ≤ℤ at b.high k)

-- each variable has two ends, and the low one isn't above the high one
pub record IsNonempty (b : IpBox) : Type 0 where
  pub lengths : length b.low ≡ length b.high
  pub ends : (k : ℕ) → at b.low k ≤ℤ at b.high k

-- no number of the box is below 0
pub record IsFromZero (b : IpBox) : Type 0 where
  pub low : (k : ℕ) → pos 0 ≤ℤ at b.low k

-- the root box: 0 to the tops
abbrev pub root_of : Ip → IpBox
root_of ip = record { low = map (λ _. pos 0) ip.tops; high = ip.tops }

-- a nonempty box inside the root box
pub record IsInside (ip : Ip) (b : IpBox) : Type 0 where
  pub low_count : length b.low ≡ length ip.tops
  pub high_count : length b.high ≡ length ip.tops
  pub ends : (k : ℕ) → (pos 0 ≤ℤ at b.low k) × (at b.low k ≤ℤ at b.high k) × (at b.high k ≤ℤ at ip.tops k)
