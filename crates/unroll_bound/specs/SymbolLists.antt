-- Lists with one entry for each symbol; this project's own.
use Rattle.std.specs.Prelude.{◌≡◌, ℕ, ◌<◌, List, length, get_or}

-- the entries of the symbols, in order
pub record IsListOf {A : Type 0} (symbols : ℕ) (of : ℕ → A) (list : List A) : Type 0 where
  pub dense : length list ≡ symbols
  pub each : (symbol : ℕ) (other : A) → symbol < symbols → get_or list symbol other ≡ of symbol

-- each entry is made of the one before
pub record Changes {A : Type 0} (made : ℕ → A → A) (old new : List A) : Type 0 where
  pub dense : length new ≡ length old
  pub each : (symbol : ℕ) (other : A) → symbol < length old → get_or new symbol other ≡ made symbol (get_or old symbol other)
