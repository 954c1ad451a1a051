-- From what was read and decided to what `size` finds, and the calls that it made for it.
use Rattle.std.proofs.Common.{◌≡◌, ℕ, inl, inr, List, [], ◌∷◌, ◌++◌, append_assoc, Option, Some, None, refl, sym, ap, ◌∙◌, subst}
use Rattle.std.specs.Prelude.{IfSome, IsErr, Result, Ok, Err, option_map}
use Rattle.elastic_ast.specs.Tree.{PlainProgram}
use Rattle.elx_io.specs.Appends.{Appends}
use Rattle.elx_io.specs.Call.{Call, Read}
use Rattle.elx_io.specs.Files.{Files, bytes_at}
use Rattle.target_desc.specs.declared.target.Target.{Target}
use Rattle.p4all_top.specs.declared.parsing.Refusal.{Refusal}
use Rattle.p4all_top.specs.declared.sizing.Outcome.{Outcome}
use Rattle.p4all_top.specs.declared.status.Status.{Status}
use Rattle.p4all_top.specs.declared.status.Status.TheVariants as status
use Rattle.p4all_top.specs.declared.stopping.Stop.{Stop}
use Rattle.p4all_top.specs.declared.stopping.Stop.TheVariants as stop
use Rattle.p4all_top.specs.Answer.{Answer}
use Rattle.p4all_top.specs.Command.{Size}
use Rattle.p4all_top.specs.Description.{IsDescription}
use Rattle.p4all_top.specs.Found.{IsSizeFound, status_of}
use Rattle.p4all_top.specs.Printed.{refusal_text}
use Rattle.p4all_top.specs.Reading.{IsOfFile}
use Rattle.p4all_top.specs.Run.{AreContents, HasCalled}
use Rattle.p4all_top.specs.Shown.{IsAnswerFor}
use Rattle.p4all_top.specs.Source.{IsSource, IsNoSource, IsSourceRefused}
use Rattle.p4all_top.specs.Stopping.{IsEnd}
use Rattle.p4all_top.proofs.SourceLaws.{refused_source}

-- bytes that a file may hold
any_bytes : (held : Option Files) (name : List ℕ) → (bytes : List ℕ) × IfSome held (λ files. bytes ≡ bytes_at files name)
any_bytes None name = ([], tt)
any_bytes (Some files) name = (bytes_at files name, refl)

-- what a read that came later found was there before, as the reads change nothing
pub of_earlier : (held later : Option Files) (name : List ℕ) (Holds : List ℕ → Type 0) → later ≡ held → IsOfFile later name Holds → IsOfFile held name Holds
of_earlier held later name Holds e file = subst (λ (z : Option Files). IsOfFile z name Holds) e file

refused_so : (source target text description : List ℕ) (ended : Status) (lines : List ℕ) → ended ≡ status.Refused → Answer (Size source target) (text ∷ description ∷ []) status.Refused [] lines
    → Answer (Size source target) (text ∷ description ∷ []) ended [] lines
refused_so source target text description ended lines e answer = subst (λ (z : Status). Answer (Size source target) (text ∷ description ∷ []) z [] lines) (sym e) answer

-- a refusal of the source
pub found_no_source : (held : Option Files) (source target : List ℕ) (why : Refusal) (outcome : Outcome) → IsOfFile held source (λ text. IsSourceRefused text why) → outcome.status ≡ status.Refused → outcome.lines ≡ refusal_text why
    → IsSizeFound source target held outcome
found_no_source held source target why outcome file s l =
    let any = any_bytes held target in
    record {
      text = file.bytes;
      text_there = file.held_there;
      description = any.0;
      description_there = any.1;
      answer = refused_so source target file.bytes any.0 outcome.status outcome.lines s (refl, inl record { why = why; cause = file.so; line = l });
    }

-- an outcome for a program and a target
pub found_both : (held : Option Files) (source target : List ℕ) (decls : PlainProgram) (on : Target) (outcome : Outcome) → IsOfFile held source (λ text. IsSource text decls) → IsOfFile held target (λ text. IsDescription text on)
    → IsAnswerFor decls on outcome.status outcome.lines → IsSizeFound source target held outcome
found_both held source target decls on outcome file other answer = record {
  text = file.bytes;
  text_there = file.held_there;
  description = other.bytes;
  description_there = other.held_there;
  answer = answer source target file.bytes other.bytes record { source_is = file.so; target_is = other.so };
}

two_there : (held : Option Files) (source target text description : List ℕ) → IfSome held (λ files. text ≡ bytes_at files source) → IfSome held (λ files. description ≡ bytes_at files target)
    → AreContents (Size source target) held (text ∷ description ∷ [])
two_there None source target text description t d = tt
two_there (Some files) source target text description t d = ap (λ z. z ∷ description ∷ []) t ∙ ap (λ z. bytes_at files source ∷ z ∷ []) d

-- the contents that an outcome is for
pub contents_found : (held : Option Files) (source target : List ℕ) (outcome : Outcome) (found : IsSizeFound source target held outcome) → AreContents (Size source target) held (found.text ∷ found.description ∷ [])
contents_found held source target outcome found = two_there held source target found.text found.description found.text_there found.description_there

-- the source alone was read, and isn't taken or the run was stopped
called_one : (held : Option Files) (source target : List ℕ) (ended : Status) (before now : Option (List Call)) → IsOfFile held source (λ text. IsEnd ended → IsNoSource text) → Appends (Read source ∷ []) before now
    → HasCalled (Size source target) ended held before now
called_one held source target ended before now file made =
    let any = any_bytes held target in
    record {
      contents = file.bytes ∷ any.0 ∷ [];
      are_contents = two_there held source target file.bytes any.0 file.held_there any.1;
      calls = Read source ∷ [];
      order = inr (file.so, refl);
      made = made;
    }

pub called_refused : (held : Option Files) (source target : List ℕ) (why : Refusal) (ended : Status) (before now : Option (List Call)) → IsOfFile held source (λ text. IsSourceRefused text why) → Appends (Read source ∷ []) before now
    → HasCalled (Size source target) ended held before now
called_refused held source target why ended before now file made =
    called_one held source target ended before now record { bytes = file.bytes; held_there = file.held_there; so = λ _. refused_source file.bytes why file.so } made

pub called_stopped : (held : Option Files) (source target : List ℕ) (result : Result Outcome Stop) (before now : Option (List Call)) → IsErr result → Appends (Read source ∷ []) before now → HasCalled (Size source target) (status_of result) held before now
called_stopped held source target result before now failed made =
    let any = any_bytes held source in
    called_one held source target (status_of result) before now record { bytes = any.0; held_there = any.1; so = λ end. absurd (stays result failed end) } made
  where
    stays : (result : Result Outcome Stop) → IsErr result → IsEnd (status_of result) → ⊥
    stays (Ok outcome) failed end = cc
    stays (Err stop.Fault) failed end = end
    stays (Err stop.Memory) failed end = end

-- both were read, and the source is taken
pub called_both : (held : Option Files) (source target : List ℕ) (decls : PlainProgram) (ended : Status) (before between now : Option (List Call)) → IsOfFile held source (λ text. IsSource text decls) → Appends (Read source ∷ []) before between
    → Appends (Read target ∷ []) between now → HasCalled (Size source target) ended held before now
called_both held source target decls ended before between now file one other =
    let any = any_bytes held target in
    record {
      contents = file.bytes ∷ any.0 ∷ [];
      are_contents = two_there held source target file.bytes any.0 file.held_there any.1;
      calls = Read source ∷ Read target ∷ [];
      order = inl (decls, file.so, refl);
      made = joined before between now one other;
    }
  where
    joined : (before between now : Option (List Call)) → Appends (Read source ∷ []) before between → Appends (Read target ∷ []) between now → Appends (Read source ∷ Read target ∷ []) before now
    joined None between now one other = other ∙ ap (option_map (λ old. old ++ Read target ∷ [])) one
    joined (Some calls) between now one other =
        other ∙ ap (option_map (λ old. old ++ Read target ∷ [])) one ∙ ap Some (append_assoc calls (Read source ∷ []) (Read target ∷ []))
