-- The calls that each command makes of the shelf, in order; this project's own.
use Rattle.std.specs.Prelude.{◌≡◌, ◌⊎◌, ℕ, List, [], ◌∷◌}
use Rattle.elastic_ast.specs.Tree.{PlainProgram}
use Rattle.elx_io.specs.Call.{Call, Read}
use Rattle.p4all_top.specs.declared.status.Status.{Status}
use Rattle.p4all_top.specs.Command.{Command, Size}
use Rattle.p4all_top.specs.Source.{IsSource, IsNoSource}
use Rattle.p4all_top.specs.Stopping.{IsEnd}

-- `size` reads the source, and then the target's description where the source is taken. The source alone is read only where it
-- isn't taken, or where a fault or want of memory stopped the run
abbrev pub SizeCalls : List ℕ → List ℕ → List ℕ → Status → List Call → Type 0
SizeCalls source target text ended calls =
    ((decls : PlainProgram) × IsSource text decls × (calls ≡ Read source ∷ Read target ∷ []))
    ⊎ ((IsEnd ended → IsNoSource text) × (calls ≡ Read source ∷ []))

-- the calls of each command, for what the files that it reads hold
abbrev pub CallsOf : Command → List (List ℕ) → Status → List Call → Type 0
CallsOf (Size source target) (text ∷ _) ended calls = SizeCalls source target text ended calls
CallsOf (Size source target) [] ended calls = ⊥
