-- What `size` finds for the names of a source and of a target's description; this project's own.
use Rattle.std.specs.Prelude.{◌≡◌, ℕ, List, [], ◌∷◌, Option, IfSome, Result, Ok, Err}
use Rattle.elx_io.specs.Files.{Files, bytes_at}
use Rattle.p4all_top.specs.declared.sizing.Outcome.{Outcome}
use Rattle.p4all_top.specs.declared.status.Status.{Status}
use Rattle.p4all_top.specs.declared.stopping.Stop.{Stop}
use Rattle.p4all_top.specs.Answer.{Answer}
use Rattle.p4all_top.specs.Command.{Size}
use Rattle.p4all_top.specs.Stopping.{stopped_status}

-- an answer for what the two files hold: for what the shelf holds of them, where it tells that
pub record IsSizeFound (source target : List ℕ) (held : Option Files) (outcome : Outcome) : Type 0 where
  pub text : List ℕ
  pub text_there : IfSome held (λ files. text ≡ bytes_at files source)
  pub description : List ℕ
  pub description_there : IfSome held (λ files. description ≡ bytes_at files target)
  pub answer : Answer (Size source target) (text ∷ description ∷ []) outcome.status [] outcome.lines

-- the status with which a run would end by what was found
abbrev pub status_of : Result Outcome Stop → Status
status_of (Ok outcome) = outcome.status
status_of (Err stop) = stopped_status stop
