use Rattle.p4_lexer.proofs.Spacings.{block_spacing}
use Rattle.p4_lexer.proofs.spacing.spacing_end.Goals as goal

pub returns-in-42 : goal.returns-in-42
returns-in-42 c =
    let found = c.block_end.ensures in
    block_spacing _ _ _ c.requires c.if-text-at-ne47.false c.in-42.is found.after found.within found.before found.found found.none
