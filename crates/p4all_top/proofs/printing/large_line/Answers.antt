use Rattle.std.proofs.Common.{◌≡◌, ℕ, List, ap, ◌∙◌, ℤ, pos}
use Rattle.std.specs.Prelude.{codes}
use Rattle.std.proofs.lemmas.Int.{to_z_pos}
use mir.Syntax.{w128}
use Rattle.elx_io.specs.Lines.{with_end, with_number}
use Rattle.unroll_bound.specs.declared.unit_bounds.What.{What}
use Rattle.p4all_top.specs.Printed.{begun_cause, large_text, what_text}
use Rattle.p4all_top.proofs.printing.large_line.Goals as goal

put : (new line begun word : List ℕ) (part : What) (count : ℕ) (passed : ℤ) → new ≡ with_end line → line ≡ with_number begun passed → begun ≡ begun_cause (codes "large") word → word ≡ what_text part → passed ≡ pos count → new ≡ large_text part count
put new line begun word part count passed e l b w p =
    e ∙ ap with_end (l ∙ ap (λ z. with_number begun z) p ∙ ap (λ z. with_number z (pos count)) (b ∙ ap (λ z. begun_cause (codes "large") z) w))

pub returns : goal.returns
returns c = put _ _ _ _ c.args.what c.args.count _ c.in_ok-end.ensures.ok c.in_ok-number.ensures.ok c.in_ok-lines.ensures c.what_word.ensures (to_z_pos w128 c.args.count c.requires)
