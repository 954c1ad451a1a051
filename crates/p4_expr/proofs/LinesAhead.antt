-- Names with dots between them, in one line.
use Rattle.std.proofs.Common.{ℕ, List, codes, refl}
use Rattle.spelling.specs.Words.{Word}
use Rattle.spelling.specs.Grammar.{◌⨟◌, Named, Sign}
use Rattle.spelling.specs.Reading.{Takes, MayTake}
use Rattle.spelling.specs.Bounds.{Line}
use Rattle.spelling.proofs.Balance.{stays_both, stays_named, stays_sign}
use Rattle.spelling.proofs.Bounds.{in_both, in_line, in_named}
use Rattle.spelling.proofs.Taking.{may, takes_both}
use Rattle.p4_expr.specs.Parts.{SpellsHeader}
use Rattle.p4_expr.proofs.InLines.{dot_in_line, header_in_line}
use Rattle.p4_expr.proofs.PartsWithin.{header_stays}

-- `NAME.NAME`
pub name_line : (one other : List ℕ) {a b c d : List Word} → Takes (Named one) a b → Takes (Sign (codes ".")) b c → Takes (Named other) c d → MayTake (Line 0) a d
name_line one other n s m = in_line {Of = Named one ⨟ Sign (codes ".") ⨟ Named other} 0 (stays_both (stays_named one) (stays_both (stays_sign (codes ".") refl refl) (stays_named other))) (in_both (in_named one) (in_both dot_in_line (in_named other))) (may (takes_both n (takes_both s m)))

-- `hdr.NAME.isValid`
pub test_line : (header : List ℕ) {a b c d : List Word} → Takes (SpellsHeader header) a b → Takes (Sign (codes ".")) b c → Takes (Named (codes "isValid")) c d → MayTake (Line 0) a d
test_line header h s m = in_line {Of = SpellsHeader header ⨟ Sign (codes ".") ⨟ Named (codes "isValid")} 0 (stays_both (header_stays header) (stays_both (stays_sign (codes ".") refl refl) (stays_named (codes "isValid")))) (in_both (header_in_line header) (in_both dot_in_line (in_named (codes "isValid")))) (may (takes_both h (takes_both s m)))
