-- What a run of a command does to the shelf and the sink, and how it ends; this project's own.
use Rattle.std.specs.Prelude.{◌≡◌, ◌≤◌, ◌⊎◌, ℕ, List, [], ◌∷◌, Option, IfSome, option_map}
use Rattle.std.specs.FinMap.{insert}
use Rattle.elx_io.specs.Appends.{Appends, AppendsFront}
use Rattle.elx_io.specs.Call.{Call}
use Rattle.elx_io.specs.Counts.{Rose}
use Rattle.elx_io.specs.Files.{Files}
use Rattle.p4all_top.specs.declared.status.Status.{Status}
use Rattle.p4all_top.specs.declared.status.Status.TheVariants as status
use Rattle.p4all_top.specs.Answer.{Answer}
use Rattle.p4all_top.specs.Calls.{CallsOf}
use Rattle.p4all_top.specs.Command.{Command, Size, contents_of}
use Rattle.p4all_top.specs.Ending.{MustEndOn}
use Rattle.p4all_top.specs.Stopping.{IsEnd, IsStop}

-- what the files that a command reads hold: what the shelf holds of them, where it tells that
abbrev pub AreContents : Command → Option Files → List (List ℕ) → Type 0
AreContents command held contents = IfSome held (λ files. contents ≡ contents_of command files)

-- files with some set, the later ones last
abbrev pub with_files : List (List ℕ × List ℕ) → Files → Files
with_files [] files = files
with_files (one ∷ more) files = with_files more (insert files one.0 one.1)

-- a run of the command that ended by itself answered it: what was printed is the whole text of an answer with this status, and
-- the files that it sets are set
pub record IsAnswered (command : Command) (ended : Status) (held now : Option Files) (before written : Option (List ℕ)) : Type 0 where
  pub contents : List (List ℕ)
  pub are_contents : AreContents command held contents
  pub set : List (List ℕ × List ℕ)
  pub printed : List ℕ
  pub answer : Answer command contents ended set printed
  pub files : now ≡ option_map (with_files set) held
  pub output : Appends printed before written

-- what was printed is a front of the text of an answer
pub record PrintsFront (command : Command) (held : Option Files) (before written : Option (List ℕ)) : Type 0 where
  pub contents : List (List ℕ)
  pub are_contents : AreContents command held contents
  pub ended : Status
  pub set : List (List ℕ × List ℕ)
  pub printed : List ℕ
  pub answer : Answer command contents ended set printed
  pub output : AppendsFront printed before written

-- a run of the command that was stopped printed nothing, or a front of the text of an answer
abbrev pub IsStopped : Command → Option Files → Option (List ℕ) → Option (List ℕ) → Type 0
IsStopped command held before written = (written ≡ before) ⊎ PrintsFront command held before written

-- a run of the command ends as the causes demand, where the shelf tells what it holds
abbrev pub IsCaused : Command → Option Files → Status → Type 0
IsCaused command held ended = IfSome held (λ files. MustEndOn command (contents_of command files) ended)

-- a run of the command made its calls, where the shelf tells calls
pub record HasCalled (command : Command) (ended : Status) (held : Option Files) (before now : Option (List Call)) : Type 0 where
  pub contents : List (List ℕ)
  pub are_contents : AreContents command held contents
  pub calls : List Call
  pub order : CallsOf command contents ended calls
  pub made : Appends calls before now

-- what a command may change of the files, whatever the end: `size` nothing
abbrev pub MayChange : Command → Option Files → Option Files → Type 0
MayChange (Size _ _) before now = now ≡ before

-- what a shelf and a sink tell at one moment
pub record Outside : Type 0 where
  pub holds : Option Files
  pub told : Option (List Call)
  pub written : Option (List ℕ)

abbrev pub told_outside : {Shelf Sink : Type 0} → (Shelf → Option Files) → (Shelf → Option (List Call)) → (Sink → Option (List ℕ)) → Shelf → Sink → Outside
told_outside holds told written shelf out = record { holds = holds shelf; told = told shelf; written = written out }

-- a run of the command: all that is promised of it but what the faults are
pub record IsRun (command : Command) (ended : Status) (before now : Outside) : Type 0 where
  pub answer : IsEnd ended → IsAnswered command ended before.holds now.holds before.written now.written
  pub stopped : IsStop ended → IsStopped command before.holds before.written now.written
  pub causes : IsCaused command before.holds ended
  pub calls : HasCalled command ended before.holds before.told now.told
  pub files : MayChange command before.holds now.holds

-- a fault is the status only where the count of the shelf or that of the sink rose, and neither fell; else both are as before
abbrev pub FaultsAre : Status → ℕ → ℕ → ℕ → ℕ → Type 0
FaultsAre status.Fault shelf_before shelf_now sink_before sink_now =
    (shelf_before ≤ shelf_now) × (sink_before ≤ sink_now) × (Rose shelf_before shelf_now ⊎ Rose sink_before sink_now)
FaultsAre _ shelf_before shelf_now sink_before sink_now = (shelf_now ≡ shelf_before) × (sink_now ≡ sink_before)
