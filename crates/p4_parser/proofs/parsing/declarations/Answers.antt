use Rattle.std.proofs.Common.{[], ◌∷◌, ◌++◌, ◌≡◌, ap, refl, sym, subst, ◌∙◌, arith}
use Rattle.std.proofs.lemmas.List.{map-append}
use Rattle.std.proofs.lemmas.List.Elements.{All-nil}
use Rattle.elastic_ast.specs.Seen.{seen_decl, seen_decls}
use Rattle.spelling.proofs.Limits.{or_as, or_reads}
use Rattle.spelling.proofs.Only.{after, not_there, wants}
use Rattle.spelling.proofs.Taking.{all_taken, each_more, may, may_empty}
use Rattle.spelling.proofs.Whole.{left_all, left_more, none_left, one_left}
use Rattle.spelling.proofs.Bounds.{deep_answers, even, if_deep}
use Rattle.p4_expr.specs.Expressions.{HasFewOperators}
use Rattle.p4_parser.specs.Declarations.{SpellsDeclaration, SpellsProgram}
use Rattle.p4_parser.specs.Reading.{ProgramHasFew}
use Rattle.p4_parser.proofs.DeclForms.{decl_there, few_next, few_push}
use Rattle.p4_parser.proofs.DeclarationsWithin.{program_stays}
use Rattle.p4_parser.proofs.Reaching.{reaches_past}
use Rattle.p4_parser.proofs.parsing.declarations.Goals as goal

pub decls-preserved : goal.decls-preserved
decls-preserved c =
    let grown : seen_decls c.keep.new.items ≡ seen_decls c.decls.decls ++ seen_decl c.in_ok-decl.decl ∷ [] = ap seen_decls c.in_ok-keep.ensures.ok ∙ map-append seen_decl c.decls.decls (c.in_ok-decl.decl ∷ []) in
    record {
      spelled = rw grown (each_more (SpellsDeclaration c.args.depth) (seen_decls c.decls.decls) (seen_decl c.in_ok-decl.decl) c.decls.invariant.spelled (may c.in_ok-decl.ensures.taken));
      few = subst ProgramHasFew (sym grown) (few_push (seen_decls c.decls.decls) (seen_decl c.in_ok-decl.decl) c.decls.invariant.few c.in_ok-decl.ensures.few);
      only = λ more all spelled.
          let n = one_left (c.decls.invariant.only more all spelled) (not_there c.decls-test.ensures.1) in
          let r = after n.ahead (λ b f s. c.in_ok-decl.ensures.only more n.one b f) in
          left_more n grown r.0 r.1;
    }

pub decls-init : goal.decls-init
decls-init c =
    rw c.new-decls.ensures
    record {
      spelled = may_empty;
      few = All-nil HasFewOperators;
      only = λ more all spelled. left_all (SpellsDeclaration more) (all_taken (SpellsProgram more all) spelled);
    }

pub returns-in_err-decl-clause-only : goal.returns-in_err-decl-clause-only
returns-in_err-decl-clause-only c = λ more all spelled.
    let n = one_left (c.decls.invariant.only more all spelled) (not_there c.decls-test.ensures.1) in
    or_reads _ _ _ _ c.from_residual.result c.from_residual.ensures.1 (wants n.ahead (λ b f s. or_as _ _ _ (λ few. (few.0, few_next _ n.one n.later all n.whole few.1)) (c.in_err-decl.ensures.only more n.one b f)))

pub returns-clause-only : goal.returns-clause-only
returns-clause-only c = λ more all spelled.
    (none_left (c.decls.invariant.only more all spelled) (λ decl later f. decl_there more decl f (c.decls-test.ensures.0 refl))).0

pub returns-in_err-decl-clause-deep : goal.returns-in_err-decl-clause-deep
returns-in_err-decl-clause-deep c =
    let front = even c.args.depth (program_stays c.args.depth (seen_decls c.decls.decls)) c.decls.invariant.spelled in
    deep_answers _ _ c.from_residual.result c.from_residual.ensures.1 (if_deep c.in_err-decl.field-0.0 (λ p. reaches_past c.args.depth 0 c.args.depth 2 2 (omega arith) (omega arith) front p) c.in_err-decl.ensures.deep)
