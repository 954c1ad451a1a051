use Rattle.elastic_ast.specs.Seen.{seen_decls}
use Rattle.p4all_top.specs.Description.{IsDescription}
use Rattle.p4all_top.proofs.FoundLaws.{called_both, called_refused, called_stopped, found_both, found_no_source, of_earlier}
use Rattle.p4all_top.proofs.size_command.find.Goals as goal

pub returns-in_err-checked-clause-calls : goal.returns-in_err-checked-clause-calls
returns-in_err-checked-clause-calls g c =
    called_stopped (g.S.Shelf.holds c.args.shelf.now) c.args.source.now c.args.target.now c.from_residual.result _ _ c.from_residual.ensures.0 c.read_source.ensures.call

pub returns-in_err-refused-in-Err-clause-calls : goal.returns-in_err-refused-in-Err-clause-calls
returns-in_err-refused-in-Err-clause-calls g c =
    called_refused (g.S.Shelf.holds c.args.shelf.now) c.args.source.now c.args.target.now c.in-Err.refusal _ _ _ (rw c.in-Err.is at c.in_ok-checked.ensures.found) c.read_source.ensures.call

pub returns-in-Err-clause-answer : goal.returns-in-Err-clause-answer
returns-in-Err-clause-answer g c =
    found_no_source (g.S.Shelf.holds c.args.shelf.now) c.args.source.now c.args.target.now c.in-Err.refusal _ (rw c.in-Err.is at c.in_ok-checked.ensures.found) c.in_ok-refused-in-Err.ensures.status c.in_ok-refused-in-Err.ensures.lines

pub returns-in-Err-clause-calls : goal.returns-in-Err-clause-calls
returns-in-Err-clause-calls g c =
    called_refused (g.S.Shelf.holds c.args.shelf.now) c.args.source.now c.args.target.now c.in-Err.refusal _ _ _ (rw c.in-Err.is at c.in_ok-checked.ensures.found) c.read_source.ensures.call

pub returns-in_err-target-clause-calls : goal.returns-in_err-target-clause-calls
returns-in_err-target-clause-calls g c =
    called_both (g.S.Shelf.holds c.args.shelf.now) c.args.source.now c.args.target.now (seen_decls c.in-Ok.checked) _ _ _ _ (rw c.in-Ok.is at c.in_ok-checked.ensures.found) c.read_source.ensures.call c.read_target.ensures.call

pub returns-in_err-refused-in-Err-2-clause-calls : goal.returns-in_err-refused-in-Err-2-clause-calls
returns-in_err-refused-in-Err-2-clause-calls g c =
    called_both (g.S.Shelf.holds c.args.shelf.now) c.args.source.now c.args.target.now (seen_decls c.in-Ok.checked) _ _ _ _ (rw c.in-Ok.is at c.in_ok-checked.ensures.found) c.read_source.ensures.call c.read_target.ensures.call

pub returns-in-Err-2-clause-calls : goal.returns-in-Err-2-clause-calls
returns-in-Err-2-clause-calls g c =
    called_both (g.S.Shelf.holds c.args.shelf.now) c.args.source.now c.args.target.now (seen_decls c.in-Ok.checked) _ _ _ _ (rw c.in-Ok.is at c.in_ok-checked.ensures.found) c.read_source.ensures.call c.read_target.ensures.call

pub returns-in_err-size_outcome-clause-calls : goal.returns-in_err-size_outcome-clause-calls
returns-in_err-size_outcome-clause-calls g c =
    called_both (g.S.Shelf.holds c.args.shelf.now) c.args.source.now c.args.target.now (seen_decls c.in-Ok.checked) _ _ _ _ (rw c.in-Ok.is at c.in_ok-checked.ensures.found) c.read_source.ensures.call c.read_target.ensures.call

pub returns-clause-calls : goal.returns-clause-calls
returns-clause-calls g c =
    called_both (g.S.Shelf.holds c.args.shelf.now) c.args.source.now c.args.target.now (seen_decls c.in-Ok.checked) _ _ _ _ (rw c.in-Ok.is at c.in_ok-checked.ensures.found) c.read_source.ensures.call c.read_target.ensures.call

pub returns-clause-answer : goal.returns-clause-answer
returns-clause-answer g c =
    found_both (g.S.Shelf.holds c.args.shelf.now) c.args.source.now c.args.target.now (seen_decls c.in-Ok.checked) c.in-Ok-2.target c.in_ok-size_outcome.field-0 (rw c.in-Ok.is at c.in_ok-checked.ensures.found)
    (of_earlier (g.S.Shelf.holds c.args.shelf.now) (g.S.Shelf.holds c.read_source.new.shelf) c.args.target.now (λ text. IsDescription text c.in-Ok-2.target) c.read_source.ensures.kept (rw c.in-Ok-2.is at c.in_ok-target.ensures.found)) c.in_ok-size_outcome.ensures
