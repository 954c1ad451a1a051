use Rattle.std.proofs.Common.{◌≡◌, ◌<◌, ◌≢◌, All, arith, ap, length, map, refl, rules, subst, sym, ◌∙◌}
use Rattle.std.proofs.lemmas.Bool.{false≢true}
use Rattle.std.proofs.lemmas.List.{get_or-map, length-map, take_all}
use Rattle.p4_tables.specs.Seen.{seen_part}
use Rattle.p4_tables.specs.Tables.{kind_of}
use Rattle.p4_tables.proofs.reading.is_there.Goals as goal

pub returns-then-eq : goal.returns-then-eq
returns-then-eq c =
    let parts = c.args.parts.now in
    let shown = seen_part c.part-item.result in
    let within : c.loop-part.part-index < length (map seen_part parts) = omega (arith, c.loop-part-test.true, length-map parts seen_part) in
    let at = get_or-map seen_part parts c.loop-part.part-index c.part-item.result shown c.loop-part-test.true in
    let same : c.kind.result ≡ c.args.kind = search rules in
    (λ e. absurd (false≢true (sym e)), λ all. absurd (all c.loop-part.part-index shown within (ap kind_of (at ∙ ap seen_part (sym c.part-item.is)) ∙ sym c.kind.ensures ∙ same)))

pub returns : goal.returns
returns c = (λ e. subst (λ parts. All (λ one. kind_of one ≢ c.args.kind) (map seen_part parts)) (take_all _ _ c.loop-part-test.false) c.loop-part.invariant, λ all. refl)
