use Rattle.std.proofs.Common.{ap, ◌∙◌}
use Rattle.cert_text.specs.Certificate.{certificate_lines}
use Rattle.cert_text.specs.WrittenLines.{with_lines}
use Rattle.cert_text.proofs.ClaimLines.{certificate_is}
use Rattle.cert_text.proofs.writing.write.Goals as goal

pub returns : goal.returns
returns c =
    certificate_is c.in_ok-text.text c.put_certificate.new.lines c.args.claim.now c.args.tree.now c.requires c.in_ok-put_certificate.ensures.fit
    (c.in_ok-put_certificate.ensures.text ∙ ap (λ before. with_lines before (certificate_lines c.args.claim.now c.args.tree.now.nodes)) c.new-lines.ensures) (c.in_ok-text.ensures ∙ c.bytes.ensures)
