use Rattle.std.proofs.Common.{codes, refl, ◌≤◌, ap}
use Rattle.elastic_ast.specs.Seen.{seen_decl}
use Rattle.elastic_ast.specs.Tree.{PlainDecl}
use Rattle.p4_declarations.specs.Flat.{SpellsFlat}
use Rattle.spelling.specs.Grammar.{IsNamed}
use Rattle.spelling.specs.Reading.{IsReading, ahead}
use Rattle.p4_declarations.proofs.FirstWords.{by_structure}
use Rattle.spelling.proofs.ByParts.{made_of}
use Rattle.spelling.proofs.Only.{not_there, other_text}
use Rattle.spelling.proofs.Peeling.{begins_second}
use Rattle.p4_declarations.proofs.structs.structure.Goals as goal

pub returns-then-is_at_name : goal.returns-then-is_at_name
returns-then-is_at_name c =
    let r = made_of {Of = SpellsFlat} {made = PlainDecl.Meta} (λ y z is. ap seen_decl is) c.map.ensures.cases c.meta.ensures in
    record {
      taken = r.taken;
      only = λ more of rest m.
          by_structure (λ d. IsReading (more ≤ c.args.depth) seen_decl d rest (ahead c.meta.new.reader) c.map.result) more of m
          (λ members f. absurd (other_text {F = IsNamed (codes "headers_t")} {G = IsNamed (codes "meta_t")} (codes "headers_t") (codes "meta_t") (ahead c.later.result) refl (λ word h. h.1) (λ word h. h.1) (rw c.later.ensures (begins_second (ahead c.args.reader.now) f)) (c.if-is_at_name.ensures.0 refl)))
          (λ fields f. r.only more fields rest f);
      deep = r.deep;
    }

pub returns : goal.returns
returns c =
    let r = made_of {Of = SpellsFlat} {made = PlainDecl.Headers} (λ y z is. ap seen_decl is) c.map-2.ensures.cases c.headers.ensures in
    record {
      taken = r.taken;
      only = λ more of rest m.
          by_structure (λ d. IsReading (more ≤ c.args.depth) seen_decl d rest (ahead c.headers.new.reader) c.map-2.result) more of m
          (λ members f. r.only more members rest f)
          (λ fields f. absurd (not_there c.if-is_at_name.ensures.1 (rw c.later.ensures (begins_second (ahead c.args.reader.now) f))));
      deep = r.deep;
    }
