use Rattle.std.proofs.Common.{◌≡◌, ℕ, ℤ, List, [], Option, ap, ◌∙◌}
use Rattle.cert_text.specs.declared.claim.Claim.{Claim}
use Rattle.cert_text.specs.Certificate.{certificate_lines}
use Rattle.cert_text.specs.WrittenLines.{with_lines}
use Rattle.int_program.specs.declared.program.Tree.{Tree}
use Rattle.p4all_top.specs.Unfinished.{with_limit, with_best, unfinished_text}
use Rattle.p4all_top.proofs.unfinished.unfinished_lines.Goals as goal

put : (whole shown begun first : List ℕ) (limit : ℕ) (value known : Option ℤ) (claim : Claim) (tree : Tree) → whole ≡ with_lines shown (certificate_lines claim tree.nodes) → shown ≡ with_best begun value → begun ≡ with_limit first limit → first ≡ []
    → value ≡ known → whole ≡ unfinished_text limit known claim tree
put whole shown begun first limit value known claim tree w s b f v =
    w
    ∙ ap (λ (z : List ℕ). with_lines z (certificate_lines claim tree.nodes))
    (s ∙ ap (λ (z : Option ℤ). with_best begun z) v ∙ ap (λ (z : List ℕ). with_best z known) (b ∙ ap (λ (z : List ℕ). with_limit z limit) f))

pub returns : goal.returns
returns c = (
  c.in_ok-claim.claim,
  c.in_ok-claim.ensures,
  put _ _ _ _ c.args.limit _ _ c.in_ok-claim.claim c.args.tree.now c.in_ok-put_certificate.ensures.text c.in_ok-put_best.ensures c.in_ok-put_limit.ensures c.new-lines.ensures c.value_of-value.ensures,
)
