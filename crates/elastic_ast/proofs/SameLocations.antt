-- Two locations are the same exactly where the test says so.
use Rattle.std.proofs.Common.{◌≡◌, ◌&&◌, Bool, true, false, refl, ap, ap₂}
use Rattle.std.proofs.lemmas.Bool.{and_parts, eqb-true, eq-eqb}
use Rattle.elastic_ast.specs.declared.flat.Location.{Location}
use Rattle.elastic_ast.specs.declared.flat.Location.TheVariants as location
use Rattle.elastic_ast.specs.Typing.Scope.{same}
use Rattle.elastic_ast.specs.Units.Reach.{same_flag, is_own, one_thing, same_location}
use Rattle.elastic_ast.proofs.Typing.SameNames.{same_self, same_told}

flag_told : (a b : Bool) → same_flag a b ≡ true → a ≡ b
flag_told true true e = refl
flag_told false false e = refl
flag_told true false e = cc
flag_told false true e = cc

thing_told : (a b : Location) → one_thing a b ≡ true → is_own a ≡ is_own b → a ≡ b
thing_told (location.Header h f) (location.Header k g) e own =
    let p = and_parts (same h k) (same f g) e in
    ap₂ location.Header (same_told h k p.0) (same_told f g p.1)
thing_told (location.Valid h) (location.Valid k) e own = ap location.Valid (same_told h k e)
thing_told (location.Meta n o) (location.Meta m p) e own = ap₂ location.Meta (same_told n m e) own
thing_told (location.Std n) (location.Std m) e own = ap location.Std (same_told n m e)
thing_told (location.Pred n o) (location.Pred m p) e own = ap₂ location.Pred (eqb-true n m e) own
thing_told (location.Reg n o) (location.Reg m p) e own = ap₂ location.Reg (same_told n m e) own
thing_told a b e own = cc

pub location_told : (a b : Location) → same_location a b ≡ true → a ≡ b
location_told a b e =
    let p = and_parts (one_thing a b) (same_flag (is_own a) (is_own b)) e in
    thing_told a b p.0 (flag_told (is_own a) (is_own b) p.1)

pub thing_self : (x : Location) → one_thing x x ≡ true
thing_self (location.Header h f) = ap₂ (λ a b. a && b) (same_self h) (same_self f)
thing_self (location.Valid h) = same_self h
thing_self (location.Meta n o) = same_self n
thing_self (location.Std n) = same_self n
thing_self (location.Pred n o) = eq-eqb n n refl
thing_self (location.Reg n o) = same_self n

flag_self : (a : Bool) → same_flag a a ≡ true
flag_self true = refl
flag_self false = refl

pub location_self : (x : Location) → same_location x x ≡ true
location_self x = ap₂ (λ a b. a && b) (thing_self x) (flag_self (is_own x))
