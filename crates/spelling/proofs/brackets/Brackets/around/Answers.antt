use Rattle.spelling.proofs.brackets.Brackets.around.Goals as goal

pub returns-in-Round : goal.returns-in-Round
returns-in-Round g c = rw c.in-Round.is c.in_brackets.ensures

pub returns-in-Square : goal.returns-in-Square
returns-in-Square g c = rw c.in-Square.is c.in_brackets-in-Square.ensures

pub returns-in-Curly : goal.returns-in-Curly
returns-in-Curly g c = rw c.in-Curly.is c.in_brackets-in-Curly.ensures
