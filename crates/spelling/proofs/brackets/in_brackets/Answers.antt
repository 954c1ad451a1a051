use Rattle.std.proofs.Common.{refl}
use Rattle.spelling.specs.Readers.{Unopened, Broken, Unclosed, Closed}
use Rattle.spelling.proofs.ByParts.{refused_brackets}
use Rattle.spelling.proofs.brackets.in_brackets.Goals as goal

pub returns-in_err-inner : goal.returns-in_err-inner
returns-in_err-inner g c = refused_brackets c.from_residual.ensures.1 (Unopened c.in_err-inner.field-0.0 c.in_err-inner.ensures.refused c.in_err-inner.ensures.left)

pub returns-in_err-read : goal.returns-in_err-read
returns-in_err-read g c = refused_brackets c.from_residual-in_err-read.ensures.1 (Broken c.in_ok-inner.inner _ _ c.in_err-read.field-0.0 c.in_ok-inner.ensures.depth c.in_ok-inner.ensures.taken c.in_err-read.ensures refl)

pub returns-in_err-sign : goal.returns-in_err-sign
returns-in_err-sign g c = refused_brackets c.from_residual-in_err-sign.ensures.1 (Unclosed c.in_ok-inner.inner _ _ c.in_ok-read.read c.in_err-sign.field-0.0 c.in_ok-inner.ensures.depth c.in_ok-inner.ensures.taken c.in_ok-read.ensures c.in_err-sign.ensures.refused c.in_err-sign.ensures.left)

pub returns : goal.returns
returns g c = Closed c.in_ok-inner.inner _ _ c.in_ok-read.read c.in_ok-inner.ensures.depth c.in_ok-inner.ensures.taken c.in_ok-read.ensures c.in_ok-sign.ensures.taken
