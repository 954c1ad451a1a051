use Rattle.std.proofs.Common.{refl, subst, sym}
use Rattle.spelling.specs.Reading.{IsWant}
use Rattle.spelling.specs.Readers.{JustOne, OneBehind, Whole, RefusedFirst, RefusedNext, WantingMemory}
use Rattle.spelling.proofs.Series.{refused_series}
use Rattle.spelling.proofs.Only.{not_there}
use Rattle.spelling.proofs.parts.separated.Goals as goal

pub returns-in_err-first : goal.returns-in_err-first
returns-in_err-first g c = refused_series c.from_residual.ensures.1 (RefusedFirst _ _ c.in_err-first.field-0.0 refl c.in_err-first.ensures refl)

pub returns-in_err-keep : goal.returns-in_err-keep
returns-in_err-keep g c = refused_series c.from_residual-in_err-keep.ensures.1 (WantingMemory c.in_err-keep.field-0.0 (subst IsWant (sym c.in_err-keep.ensures.memory) tt))

pub items-init : goal.items-init
items-init g c = (c.requires.0, rw (c.in_ok-keep.ensures.ok, c.new-items.ensures) (JustOne _ _ c.in_ok-first.first refl c.in_ok-first.ensures))

pub returns-in_err-item : goal.returns-in_err-item
returns-in_err-item g c = refused_series c.from_residual-in_err-item.ensures.1 (RefusedNext c.items.items c.items.reader _ _ c.in_err-item.field-0.0 c.items.invariant.1 (c.items-test.ensures.taken refl) c.in_err-item.ensures refl)

pub items-preserved : goal.items-preserved
items-preserved g c = (c.requires.0, rw c.in_ok-keep-2.ensures.ok (OneBehind c.items.items c.items.reader _ _ c.in_ok-item.item c.items.invariant.1 (c.items-test.ensures.taken refl) c.in_ok-item.ensures))

pub returns-in_err-keep-2 : goal.returns-in_err-keep-2
returns-in_err-keep-2 g c = refused_series c.from_residual-in_err-keep-2.ensures.1 (WantingMemory c.in_err-keep-2.field-0.0 (subst IsWant (sym c.in_err-keep-2.ensures.memory) tt))

pub returns : goal.returns
returns g c = Whole c.items.items c.items.reader c.items.invariant.1 (not_there c.items-test.ensures.at.1) (c.items-test.ensures.left refl)
