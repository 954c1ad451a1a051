-- A text describes at most one target; this project's own.
use Rattle.std.specs.Prelude.{◌≡◌, ℕ, List}
use Rattle.target_desc.specs.TargetText.{IsTargetText}
use Rattle.target_desc.specs.declared.target.Target.{Target}

-- a text describes at most one target
abbrev pub DescribesAtMostOne : Type 0
DescribesAtMostOne = (text : List ℕ) (one other : Target) → IsTargetText text one → IsTargetText text other → one ≡ other
