use Rattle.size_terms.proofs.TermLaws.{grows_symbol, grows_number, passed_on}
use Rattle.size_terms.proofs.sums.add_term.Goals as goal

pub returns-in-Some : goal.returns-in-Some
returns-in-Some c =
    grows_symbol c.args.places.now c.args.sum.now c.add_to_symbol.new.sum c.in-Some.symbol c.args.term.now c.args.minus _ (passed_on c.args.term.now c.args.minus c.signed_number-number.result c.signed_number-number.ensures c.requires.near) c.in-Some.is
    c.requires.near c.add_to_symbol.ensures

pub returns-in-None : goal.returns-in-None
returns-in-None c =
    grows_number c.args.places.now c.args.sum.now c.add_number.new.sum c.args.term.now c.args.minus _ (passed_on c.args.term.now c.args.minus c.signed_number-number.result c.signed_number-number.ensures c.requires.near) c.in-None.is c.requires.near
    c.add_number.ensures
