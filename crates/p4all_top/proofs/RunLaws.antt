-- What a run of `size` leaves, from what it found and what a put of the lines does.
use Rattle.std.proofs.Common.{◌≡◌, ℕ, inl, inr, List, [], ◌∷◌, length, get_or, Option, Some, None, refl, sym, subst, arith}
use Rattle.std.specs.Prelude.{option_map, ◌++◌}
use Rattle.elx_io.specs.Appends.{AppendsFront}
use Rattle.p4all_top.specs.Calls.{CallsOf}
use denote.Bor.{Bor}
use Rattle.elx_io.specs.Call.{Call}
use Rattle.elx_io.specs.Files.{Files, bytes_at}
use Rattle.p4all_top.specs.declared.sizing.Outcome.{Outcome}
use Rattle.p4all_top.specs.declared.status.Status.{Status}
use Rattle.p4all_top.specs.declared.status.Status.TheVariants as status
use Rattle.p4all_top.specs.Answer.{Answer}
use Rattle.p4all_top.specs.Command.{Size, size_in}
use Rattle.p4all_top.specs.Ending.{EndsBy}
use Rattle.p4all_top.specs.Found.{IsSizeFound}
use Rattle.p4all_top.specs.Run.{HasCalled, IsAnswered, IsCaused, IsStopped, with_files}
use Rattle.p4all_top.specs.Output.{IsShown}
use Rattle.p4all_top.specs.Stopping.{IsEnd, IsStop}
use Rattle.p4all_top.proofs.EndLaws.{ends_by, may_stop}
use Rattle.p4all_top.proofs.FoundLaws.{contents_found}

-- the command `size` has two words
pub two_words : (words : List (Bor (List ℕ))) (d e : Bor (List ℕ)) → length words ≡ 2 → size_in words ≡ Some (Size (get_or words 0 d).now (get_or words 1 e).now)
two_words [] d e h = absurd (omega arith)
two_words (x ∷ []) d e h = absurd (omega arith)
two_words (x ∷ y ∷ []) d e h = refl
two_words (x ∷ y ∷ z ∷ zs) d e h = absurd (omega arith)

-- an outcome ends a run by itself
pub found_ends : (source target : List ℕ) (held : Option Files) (outcome : Outcome) → IsSizeFound source target held outcome → IsEnd outcome.status
found_ends source target held outcome found = ends outcome.status outcome.lines found.answer
  where
    ends : (ended : Status) (lines : List ℕ) → Answer (Size source target) (found.text ∷ found.description ∷ []) ended [] lines → IsEnd ended
    ends status.Done lines a = tt
    ends status.Infeasible lines a = tt
    ends status.Unfinished lines a = tt
    ends status.Refused lines a = tt
    ends _ lines a = absurd a

-- what a put of the lines leaves: the outcome's own status with the whole lines, or a stop with a front of them
unchanged : (held now : Option Files) → now ≡ held → now ≡ option_map (with_files []) held
unchanged None now e = e
unchanged (Some files) now e = e

pub answered : (source target : List ℕ) (held holds : Option Files) (outcome : Outcome) (shown : Status) (before now : Option (List ℕ)) → IsSizeFound source target held outcome → IsShown outcome.lines outcome.status shown before now → holds ≡ held → IsEnd shown
    → IsAnswered (Size source target) shown held holds before now
answered source target held holds outcome shown before now found s kept end = by shown s end
  where
    whole : (shown : Status) → shown ≡ outcome.status → now ≡ option_map (λ old. old ++ outcome.lines) before → IsAnswered (Size source target) shown held holds before now
    whole shown e output = record {
      contents = found.text ∷ found.description ∷ [];
      are_contents = contents_found held source target outcome found;
      set = [];
      printed = outcome.lines;
      answer = subst (λ (z : Status). Answer (Size source target) (found.text ∷ found.description ∷ []) z [] outcome.lines) (sym e) found.answer;
      files = unchanged held holds kept;
      output = output;
    }

    by : (shown : Status) → IsShown outcome.lines outcome.status shown before now → IsEnd shown → IsAnswered (Size source target) shown held holds before now
    by status.Fault s end = absurd end
    by status.Memory s end = absurd end
    by shown s end = whole shown s.0 s.1

pub stopped : (source target : List ℕ) (held : Option Files) (outcome : Outcome) (shown : Status) (before now : Option (List ℕ)) → IsSizeFound source target held outcome → IsShown outcome.lines outcome.status shown before now → IsStop shown
    → IsStopped (Size source target) held before now
stopped source target held outcome shown before now found s end = by shown s end
  where
    front : AppendsFront outcome.lines before now → IsStopped (Size source target) held before now
    front output =
        inr record {
          contents = found.text ∷ found.description ∷ [];
          are_contents = contents_found held source target outcome found;
          ended = outcome.status;
          set = [];
          printed = outcome.lines;
          answer = found.answer;
          output = output;
        }

    by : (shown : Status) → IsShown outcome.lines outcome.status shown before now → IsStop shown → IsStopped (Size source target) held before now
    by status.Fault s end = front s
    by status.Memory s end = front s
    by _ s end = absurd end

pub caused : (source target : List ℕ) (held : Option Files) (outcome : Outcome) (shown : Status) (before now : Option (List ℕ)) → IsSizeFound source target held outcome → IsShown outcome.lines outcome.status shown before now → IsCaused (Size source target) held shown
caused source target None outcome shown before now found s = tt
caused source target (Some files) outcome shown before now found s =
    subst (λ (z : List ℕ). EndsBy z (bytes_at files target) shown) found.text_there (subst (λ (z : List ℕ). EndsBy found.text z shown) found.description_there (by shown s))
  where
    by : (shown : Status) → IsShown outcome.lines outcome.status shown before now → EndsBy found.text found.description shown
    by status.Fault s = may_stop found.text found.description status.Fault tt
    by status.Memory s = may_stop found.text found.description status.Memory tt
    by shown s = subst (λ (z : Status). EndsBy found.text found.description z) (sym s.0) (ends_by source target found.text found.description outcome.status [] outcome.lines found.answer)

-- the calls stay in order where a put stops the run
pub called : (source target : List ℕ) (held : Option Files) (lines : List ℕ) (ended shown : Status) (before now : Option (List ℕ)) (told_before told : Option (List Call)) → HasCalled (Size source target) ended held told_before told
    → IsEnd ended → IsShown lines ended shown before now → HasCalled (Size source target) shown held told_before told
called source target held lines ended shown before now told_before told made end s = record {
  contents = made.contents;
  are_contents = made.are_contents;
  calls = made.calls;
  order = by shown made.contents made.calls made.order s;
  made = made.made;
}
  where
    later : (shown : Status) (contents : List (List ℕ)) (calls : List Call) → (IsEnd shown → IsEnd ended) → CallsOf (Size source target) contents ended calls → CallsOf (Size source target) contents shown calls
    later shown [] calls ends order = order
    later shown (text ∷ more) calls ends (inl both) = inl both
    later shown (text ∷ more) calls ends (inr one) = inr (λ end. one.0 (ends end), one.1)

    by : (shown : Status) (contents : List (List ℕ)) (calls : List Call) → CallsOf (Size source target) contents ended calls → IsShown lines ended shown before now → CallsOf (Size source target) contents shown calls
    by shown contents calls order s = later shown contents calls (λ _. end) order
