-- How a run must end by the source and the description, from what it answers: no two causes stand together.
use Rattle.std.proofs.Common.{◌≡◌, ℕ, ◌≤◌, List, [], ◌∷◌, length, refl, sym, subst, arith, inl, inr, rules}
use Rattle.elastic_ast.specs.Tree.{PlainProgram}
use Rattle.target_desc.specs.declared.target.Target.{Target}
use Rattle.target_desc.specs.declared.target.TargetError.TheVariants as described
use Rattle.target_desc.specs.TargetText.{IsTargetText}
use Rattle.target_desc.proofs.RefusedTexts.{no_target_of}
use Rattle.p4all_top.specs.declared.parsing.Refusal.{Refusal}
use Rattle.p4all_top.specs.declared.parsing.Refusal.TheVariants as refusal
use Rattle.p4all_top.specs.declared.status.Status.{Status}
use Rattle.p4all_top.specs.declared.status.Status.TheVariants as status
use Rattle.p4all_top.specs.Answer.{Answer, AreTaken}
use Rattle.p4all_top.specs.Command.{Size}
use Rattle.p4all_top.specs.Description.{IsDescription, IsNoDescription, IsTargetRefused}
use Rattle.p4all_top.specs.Ending.{MustEnd, MustEndWithin, EndsOn, EndsBy}
use Rattle.int_program.specs.Counting.{root_points}
use Rattle.size_search.specs.Choice.{ip_of_program}
use Rattle.p4all_top.specs.Limits.{most_source}
use Rattle.p4all_top.specs.Source.{IsProgram, IsNoSource}
use Rattle.p4all_top.specs.Stopping.{IsStop}
use Rattle.p4all_top.proofs.ProgramEnds.{answers_best, answers_infeasible, answers_large, answers_unbounded, answers_unfinished, answers_unit}
use Rattle.p4all_top.proofs.SourceLaws.{refused_source}

one_target : (text : List ℕ) (one other : Target) → IsTargetText text one → IsTargetText text other → one ≡ other
one_target text one other a b = search rules

pub no_source : (text : List ℕ) (decls : PlainProgram) → length text ≤ most_source → IsProgram text decls → IsNoSource text → ⊥
no_source text decls short program (inl long) = absurd (omega arith)
no_source text decls short program (inr none) = none decls program

no_target : (text : List ℕ) (on : Target) → IsDescription text on → IsNoDescription text → ⊥
no_target text on taken (inl long) = absurd (let s = taken.short in omega arith)
no_target text on taken (inr none) = none on taken.says

-- a description that is refused isn't taken
pub refused_target : (text : List ℕ) (why : Refusal) → IsTargetRefused text why → IsNoDescription text
refused_target text refusal.LongTarget bad = inl bad
refused_target text refusal.Toml bad = inr (no_target_of text described.NotToml (λ e. cc) bad.1)
refused_target text refusal.UnknownKey bad = inr (no_target_of text described.UnknownKey (λ e. cc) bad.1)
refused_target text (refusal.MissingKey key) bad = inr (no_target_of text (described.MissingKey key) (λ e. cc) bad.1)
refused_target text (refusal.OutOfRange key) bad = inr (no_target_of text (described.OutOfRange key) (λ e. cc) bad.1)
refused_target text _ bad = absurd bad

-- the end that a program and a target demand is that of the source and the description that lead to them
ends_both : (source target : List ℕ) (decls : PlainProgram) (on : Target) (ended : Status) → AreTaken source target decls on → EndsOn decls on ended → EndsBy source target ended
ends_both source target decls on ended taken ends = record {
  no_source = λ bad. absurd (no_source source decls taken.source_is.short taken.source_is.says.program bad);
  no_target = λ bad. absurd (no_target target on taken.target_is bad);
  both = λ other there short program described.
      let P : PlainProgram → Type 0 = λ z. EndsOn z there ended in
      let Q : Target → Type 0 = λ z. EndsOn decls z ended in
      subst P (sym (taken.source_is.says.only other program))
      (subst Q (one_target target on there taken.target_is.says described.says) ends);
}

-- what a source and a description make of the end
pub ends_by : (source target text description : List ℕ) (ended : Status) (set : List (List ℕ × List ℕ)) (printed : List ℕ) → Answer (Size source target) (text ∷ description ∷ []) ended set printed → EndsBy text description ended
ends_by source target text description status.Done set printed (_, a) = ends_both text description a.decls a.on status.Done a.taken (answers_best a.decls a.on a.fits a.placed a.tree a.best)
ends_by source target text description status.Infeasible set printed (_, a) = ends_both text description a.decls a.on status.Infeasible a.taken (answers_infeasible a.decls a.on a.fits a.tree a.none)
ends_by source target text description status.Unfinished set printed (_, a) = ends_both text description a.decls a.on status.Unfinished a.taken (answers_unfinished a.decls a.on a.fits a.best a.tree a.unfinished)
ends_by source target text description status.Refused set printed (_, inl a) = record {
  no_source = λ bad. refl;
  no_target = λ bad. refl;
  both = λ decls on short program described. absurd (no_source text decls short program (refused_source text a.why a.cause));
}
ends_by source target text description status.Refused set printed (_, inr (inl a)) = record {
  no_source = λ bad. refl;
  no_target = λ bad. refl;
  both = λ decls on short program described. absurd (no_target description on described (refused_target description a.why a.cause));
}
ends_by source target text description status.Refused set printed (_, inr (inr (inl a))) = ends_both text description a.decls a.on status.Refused a.taken (answers_unit a.decls a.on a.unit a.ops a.first)
ends_by source target text description status.Refused set printed (_, inr (inr (inr (inl a)))) = ends_both text description a.decls a.on status.Refused a.taken (answers_unbounded a.decls a.on a.place a.unbounded)
ends_by source target text description status.Refused set printed (_, inr (inr (inr (inr a)))) = ends_both text description a.decls a.on status.Refused a.taken (answers_large a.decls a.on a.what a.count a.large)
ends_by source target text description _ set printed a = absurd a

-- a run that was stopped may be one of any source and description
pub may_stop : (source target : List ℕ) (ended : Status) → IsStop ended → EndsBy source target ended
may_stop source target ended stopped = record {
  no_source = λ bad. any status.Refused ended stopped;
  no_target = λ bad. any status.Refused ended stopped;
  both = λ decls on short program described. record {
    too_large = λ bad. any status.Refused ended stopped;
    unbounded = λ place u. any status.Refused ended stopped;
    large = λ part count l. any status.Refused ended stopped;
    best = λ _ bounds are sizes placement feasible. within (root_points (ip_of_program decls on bounds)) status.Done ended stopped;
    none = λ _ bounds are infeasible. within (root_points (ip_of_program decls on bounds)) status.Infeasible ended stopped;
  };
}
  where
    any : (expected ended : Status) → IsStop ended → MustEnd expected ended
    any expected status.Memory stopped = tt
    any expected status.Fault stopped = tt
    any expected _ stopped = absurd stopped

    within : (points : ℕ) (expected ended : Status) → IsStop ended → MustEndWithin points expected ended
    within points expected status.Memory stopped = tt
    within points expected status.Fault stopped = tt
    within points expected _ stopped = absurd stopped
