use Rattle.std.proofs.Common.{◌≡◌, ℕ, ◌+◌, cond, arith, ap, subst, ◌∷◌}
use Rattle.branch_bound.specs.Trail.{behind, open_places}
use Rattle.branch_bound.proofs.TrailLaws.{first}
use Rattle.branch_bound.proofs.FollowsLaws.{Keeps, keeps_start, keeps_known, grown_keeps}
use Rattle.branch_bound.proofs.searching.fill.Goals as goal

pub places-init : goal.places-init
places-init c =
    record {
      keeps = keeps_start c.args.ip.now c.args.known.now c.args.limit _ _ c.requires.limits (first c.requires.root c.new-waiting.ensures) c.new-lines.ensures;
      best_known = c.requires.best_known;
      steps = rw c.new-waiting.ensures tt;
      states = c.requires.states;
    }

pub places-preserved-then-split : goal.places-preserved-then-split
places-preserved-then-split c =
    let p = c.in-Some.place in
    let ip = c.args.ip.now in
    let ps = behind p.within c.places.waiting in
    let before : Keeps ip c.places.known c.args.limit (p ∷ ps) c.places.lines c.places.splits = subst (λ here. Keeps ip c.places.known c.args.limit (open_places here c.places.waiting) c.places.lines c.places.splits) c.in-Some.is c.places.invariant.keeps in
    let keeps = keeps_known ip c.places.known c.write_line.new.known c.args.limit (p ∷ ps) c.places.lines c.places.splits c.in_ok-next.ensures.at_most before in
    let one : cond {A = ℕ} c.in_ok-next.split 1 0 ≡ 1 = ap (λ t. cond {A = ℕ} t 1 0) c.if-split.true in
    let more = grown_keeps ip c.write_line.new.known c.args.limit p ps _ _ _ c.in_ok-next.split c.places.splits keeps c.in_ok-next.ensures.grown in
    record {
      keeps = subst (λ n. Keeps ip c.write_line.new.known c.args.limit (open_places c.in_ok-next.next c.write_line.new.waiting) c.write_line.new.lines (c.places.splits + n)) one more;
      best_known = c.in_ok-next.ensures.best;
      steps = c.in_ok-next.ensures.steps;
      states = c.in_ok-next.ensures.states;
    }

pub places-preserved : goal.places-preserved
places-preserved c =
    let p = c.in-Some.place in
    let ip = c.args.ip.now in
    let ps = behind p.within c.places.waiting in
    let before : Keeps ip c.places.known c.args.limit (p ∷ ps) c.places.lines c.places.splits = subst (λ here. Keeps ip c.places.known c.args.limit (open_places here c.places.waiting) c.places.lines c.places.splits) c.in-Some.is c.places.invariant.keeps in
    let keeps = keeps_known ip c.places.known c.write_line.new.known c.args.limit (p ∷ ps) c.places.lines c.places.splits c.in_ok-next.ensures.at_most before in
    let none : cond {A = ℕ} c.in_ok-next.split 1 0 ≡ 0 = ap (λ t. cond {A = ℕ} t 1 0) c.if-split.false in
    let more = grown_keeps ip c.write_line.new.known c.args.limit p ps _ _ _ c.in_ok-next.split c.places.splits keeps c.in_ok-next.ensures.grown in
    let same : c.places.splits + cond {A = ℕ} c.in_ok-next.split 1 0 ≡ c.places.splits = omega arith in
    record {
      keeps = subst (λ n. Keeps ip c.write_line.new.known c.args.limit (open_places c.in_ok-next.next c.write_line.new.waiting) c.write_line.new.lines n) same more;
      best_known = c.in_ok-next.ensures.best;
      steps = c.in_ok-next.ensures.steps;
      states = c.in_ok-next.ensures.states;
    }
