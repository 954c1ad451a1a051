use Rattle.std.proofs.Common.{refl, subst, sym}
use Rattle.spelling.specs.Reading.{IsWant}
use Rattle.spelling.specs.Readers.{NoneYet, OneMore, Ended, Refused, Wanting}
use Rattle.spelling.proofs.ByParts.{refused_until}
use Rattle.spelling.proofs.Only.{not_there}
use Rattle.spelling.proofs.parts.until.Goals as goal

pub items-init : goal.items-init
items-init g c = (c.requires.0, rw c.new-items.ensures NoneYet)

pub returns-in_err-item : goal.returns-in_err-item
returns-in_err-item g c = refused_until c.from_residual.ensures.1 (Refused c.items.items _ _ c.in_err-item.field-0.0 c.items.invariant.1 (not_there c.items-test.ensures.1) c.in_err-item.ensures refl)

pub items-preserved : goal.items-preserved
items-preserved g c = (c.requires.0, rw c.in_ok-keep.ensures.ok (OneMore c.items.items _ _ c.in_ok-item.item c.items.invariant.1 (not_there c.items-test.ensures.1) c.in_ok-item.ensures))

pub returns-in_err-keep : goal.returns-in_err-keep
returns-in_err-keep g c = refused_until c.from_residual-in_err-keep.ensures.1 (Wanting c.in_err-keep.field-0.0 (subst IsWant (sym c.in_err-keep.ensures.memory) tt))

pub returns : goal.returns
returns g c = Ended c.items.items c.items.invariant.1 (c.items-test.ensures.0 refl)
