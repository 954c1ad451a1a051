use Rattle.std.proofs.Common.{◌+◌, ◌^◌, ◌≡◌, ◌≤◌, min, ◌∙◌, ap, drop, length, arith}
use Rattle.spelling.specs.Words.{words}
use Rattle.spelling.proofs.Places.{words_later, words_within}
use Rattle.spelling.proofs.reader.Reader.later.Goals as goal

pub returns : goal.returns
returns c =
    let r = c.args.self.now in
    let all : length r.tokens.now ≤ 2 ^ 64 = omega (arith, c.count.ensures, c.count.type_inv) in
    let same : c.min.result ≡ min (r.next + c.args.count) (length r.tokens.now) = omega (arith, all, c.min.ensures, c.count.ensures, c.saturating_add.ensures, c.count.type_inv) in
    ap (λ n. words r.text.now (drop n r.tokens.now)) same ∙ words_within r.text.now r.tokens.now (r.next + c.args.count) (length r.tokens.now) (omega arith) ∙ words_later r.text.now r.tokens.now r.next c.args.count
