use Rattle.std.proofs.Common.{◌≡◌, codes, refl}
use Rattle.elastic_ast.specs.declared.statements.Lval.TheVariants as lval
use Rattle.spelling.proofs.Only.{not_there}
use Rattle.p4_expr.specs.Parts.{a_header_place, a_meta_place}
use Rattle.p4_expr.proofs.FormWords.{two_names}
use Rattle.p4_expr.proofs.IndexEnds.{any_place}
use Rattle.p4_expr.proofs.PartSpelling.{by_place}
use Rattle.p4_expr.proofs.parts.lval.Goals as goal

pub returns-then-is_at_name : goal.returns-then-is_at_name
returns-then-is_at_name c =
    let at = c.if-is_at_name.ensures.0 refl in
    any_place a_meta_place c.meta_place.ensures (λ more place rest m.
    by_place more (λ p. (of : _) × (a_meta_place of ≡ p)) place m
    (λ header field f b. absurd (two_names (codes "hdr") (codes "meta") _ refl b at))
    (λ name index f b. ((name, index), refl))
    (λ name f b. absurd (two_names (codes "std") (codes "meta") _ refl b at)))

pub returns-then-is_at_name-2 : goal.returns-then-is_at_name-2
returns-then-is_at_name-2 c =
    let at = c.if-is_at_name-2.ensures.0 refl in
    any_place lval.Std (c.std_place.ensures c.args.depth) (λ more place rest m.
    by_place more (λ p. (of : _) × (lval.Std of ≡ p)) place m
    (λ header field f b. absurd (two_names (codes "hdr") (codes "std") _ refl b at))
    (λ name index f b. absurd (two_names (codes "meta") (codes "std") _ refl b at))
    (λ name f b. (name, refl)))

pub returns : goal.returns
returns c =
    any_place a_header_place (c.header_place.ensures c.args.depth) (λ more place rest m.
    by_place more (λ p. (of : _) × (a_header_place of ≡ p)) place m
    (λ header field f b. ((header, field), refl))
    (λ name index f b. absurd (not_there c.if-is_at_name.ensures.1 b))
    (λ name f b. absurd (not_there c.if-is_at_name-2.ensures.1 b)))
