use Rattle.std.proofs.Common.{[], ◌++◌, false, None, ap, ◌∙◌}
use Rattle.std.specs.Prelude.{map}
use Rattle.elastic_ast.specs.Seen.{seen_stmts}
use Rattle.elastic_ast.specs.Units.Cuts.{cut_all}
use Rattle.unit_parts.specs.Spread.{outside, put_under}
use Rattle.unit_parts.specs.SeenPieces.{seen_pieces}
use Rattle.unit_parts.proofs.FlatLaws.{all_under_none}
use Rattle.unit_parts.proofs.cutting.cut_body.Goals as goal

pub returns : goal.returns
returns c =
    let cuts = cut_all (seen_stmts c.args.body.now) false 0 None in
    c.in_ok-cut_stmts.ensures.pieces ∙ ap (λ z. seen_pieces z ++ map (put_under [] []) (outside 0 cuts)) c.new.ensures.items ∙ all_under_none (outside 0 cuts)
