use Rattle.std.proofs.Common.{refl}
use Rattle.spelling.specs.Readers.{NoPart, NoSign, Both}
use Rattle.spelling.proofs.ByParts.{refused_then}
use Rattle.spelling.proofs.parts.then_sign.Goals as goal

pub returns-in_err-read : goal.returns-in_err-read
returns-in_err-read g c = refused_then c.from_residual.ensures.1 (NoPart _ _ c.in_err-read.field-0.0 refl c.in_err-read.ensures refl)

pub returns-in_err-sign : goal.returns-in_err-sign
returns-in_err-sign g c = refused_then c.from_residual-in_err-sign.ensures.1 (NoSign _ _ c.in_ok-read.read c.in_err-sign.field-0.0 refl c.in_ok-read.ensures c.in_err-sign.ensures.refused c.in_err-sign.ensures.left)

pub returns : goal.returns
returns g c = Both _ _ c.in_ok-read.read refl c.in_ok-read.ensures c.in_ok-sign.ensures.taken
