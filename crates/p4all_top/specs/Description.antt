-- Which texts are taken as descriptions of targets, and why others aren't; this project's own.
use Rattle.std.specs.Prelude.{◌<◌, ◌≤◌, ◌⊎◌, ℕ, List, length, Result, Ok, Err}
use Rattle.target_desc.specs.declared.target.Target.{Target}
use Rattle.target_desc.specs.declared.target.TargetError.{TargetError}
use Rattle.target_desc.specs.declared.target.TargetError.TheVariants as described
use Rattle.target_desc.specs.TargetText.{IsRefusedText, IsTargetText}
use Rattle.p4all_top.specs.Limits.{IsTaken, most_target}
use Rattle.p4all_top.specs.declared.parsing.Refusal.{Refusal}
use Rattle.p4all_top.specs.declared.parsing.Refusal.TheVariants as refusal

-- the text describes no target
abbrev pub HasNoTarget : List ℕ → Type 0
HasNoTarget text = (target : Target) → IsTargetText text target → ⊥

-- a description is taken: it is no longer than `most_target` bytes, and describes this target
abbrev pub IsDescription : List ℕ → Target → Type 0
IsDescription = IsTaken most_target IsTargetText

-- a description isn't taken: it is too long, or describes no target
abbrev pub IsNoDescription : List ℕ → Type 0
IsNoDescription text = (most_target < length text) ⊎ HasNoTarget text

-- a description that isn't too long is refused for this cause
abbrev pub IsShortRefused : List ℕ → TargetError → Type 0
IsShortRefused text why = (length text ≤ most_target) × IsRefusedText text why

-- why a description isn't taken
abbrev pub IsTargetRefused : List ℕ → Refusal → Type 0
IsTargetRefused text refusal.LongTarget = most_target < length text
IsTargetRefused text refusal.Toml = IsShortRefused text described.NotToml
IsTargetRefused text refusal.UnknownKey = IsShortRefused text described.UnknownKey
IsTargetRefused text (refusal.MissingKey key) = IsShortRefused text (described.MissingKey key)
IsTargetRefused text (refusal.OutOfRange key) = IsShortRefused text (described.OutOfRange key)
IsTargetRefused text _ = ⊥

-- what is found in a description: its target, or why it isn't taken
abbrev pub IsDescriptionFound : List ℕ → Result Target Refusal → Type 0
IsDescriptionFound text (Ok target) = IsDescription text target
IsDescriptionFound text (Err cause) = IsTargetRefused text cause
