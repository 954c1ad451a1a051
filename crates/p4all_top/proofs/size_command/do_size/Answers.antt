use Rattle.std.proofs.Common.{sym, subst}
use Rattle.std.specs.Prelude.{IfSome, Option}
use Rattle.p4all_top.specs.Command.{Command}
use Rattle.p4all_top.specs.Run.{IsRun, told_outside}
use Rattle.p4all_top.proofs.RunLaws.{answered, called, caused, found_ends, stopped, two_words}
use Rattle.p4all_top.proofs.size_command.do_size.Goals as goal

pub returns-in-Ok-clause-run : goal.returns-in-Ok-clause-run
returns-in-Ok-clause-run g c =
    let before = told_outside g.S.Shelf.holds g.S.Shelf.told g.O.Sink.written c.args.shelf.now c.args.out.now in
    let now = told_outside g.S.Shelf.holds g.S.Shelf.told g.O.Sink.written c.find.new.shelf c.show.new.out in
    let P : Option Command → Type 0 = λ z. IfSome z (λ command. IsRun command c.show.result before now) in
    let held = g.S.Shelf.holds c.args.shelf.now in
    subst P (sym (two_words c.args.words.now _ _ c.if-words-ne2.false)) record {
      answer = answered _ _ held now.holds c.in-Ok.outcome c.show.result _ _ c.in-Ok.ensures.answer c.show.ensures.shown c.find.ensures.kept;
      stopped = stopped _ _ held c.in-Ok.outcome c.show.result _ _ c.in-Ok.ensures.answer c.show.ensures.shown;
      causes = caused _ _ held c.in-Ok.outcome c.show.result _ _ c.in-Ok.ensures.answer c.show.ensures.shown;
      calls = called _ _ held c.in-Ok.outcome.lines c.in-Ok.outcome.status c.show.result _ _ _ _ c.in-Ok.ensures.calls (found_ends _ _ held c.in-Ok.outcome c.in-Ok.ensures.answer) c.show.ensures.shown;
      files = c.find.ensures.kept;
    }
