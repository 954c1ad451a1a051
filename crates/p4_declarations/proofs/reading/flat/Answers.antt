use Rattle.std.proofs.Common.{refl, ◌≤◌}
use Rattle.elastic_ast.specs.Seen.{seen_decl}
use Rattle.spelling.specs.Reading.{IsReading, ahead}
use Rattle.p4_declarations.proofs.FirstWords.{First}
use Rattle.p4_declarations.proofs.FirstWords.{at_name, at_reserved, included, made_flat}
use Rattle.spelling.proofs.Only.{not_there}
use Rattle.p4_declarations.proofs.reading.flat.Goals as goal

pub returns-then-is_at_reserved : goal.returns-then-is_at_reserved
returns-then-is_at_reserved c = made_flat First.by_symbolic (at_reserved (ahead c.args.reader.now) (c.if-is_at_reserved.ensures.0 refl)) (c.symbol.ensures c.args.depth)

pub returns-then-is_at_name : goal.returns-then-is_at_name
returns-then-is_at_name c = made_flat First.by_assume (at_name (ahead c.args.reader.now) (c.if-is_at_name.ensures.0 refl)) c.assume.ensures

pub returns-then-is_at_name-2 : goal.returns-then-is_at_name-2
returns-then-is_at_name-2 c = made_flat First.by_maximize (at_name (ahead c.args.reader.now) (c.if-is_at_name-2.ensures.0 refl)) c.maximize.ensures

pub returns-then-is_at_reserved-2 : goal.returns-then-is_at_reserved-2
returns-then-is_at_reserved-2 c = made_flat First.by_const (at_reserved (ahead c.args.reader.now) (c.if-is_at_reserved-2.ensures.0 refl)) (c.constant.ensures c.args.depth)

pub returns-then-is_at_reserved-3 : goal.returns-then-is_at_reserved-3
returns-then-is_at_reserved-3 c = made_flat First.by_header (at_reserved (ahead c.args.reader.now) (c.if-is_at_reserved-3.ensures.0 refl)) c.header.ensures

pub returns-then-is_at_reserved-4 : goal.returns-then-is_at_reserved-4
returns-then-is_at_reserved-4 c = made_flat First.by_struct (at_reserved (ahead c.args.reader.now) (c.if-is_at_reserved-4.ensures.0 refl)) c.structure.ensures

pub returns-then-is_at_name-3 : goal.returns-then-is_at_name-3
returns-then-is_at_name-3 c = made_flat First.by_register (at_name (ahead c.args.reader.now) (c.if-is_at_name-3.ensures.0 refl)) c.register.ensures

pub returns-then-is_at_reserved-5 : goal.returns-then-is_at_reserved-5
returns-then-is_at_reserved-5 c = made_flat First.by_control (at_reserved (ahead c.args.reader.now) (c.if-is_at_reserved-5.ensures.0 refl)) c.deparser.ensures

pub returns-then-is_at_name-4 : goal.returns-then-is_at_name-4
returns-then-is_at_name-4 c = made_flat First.by_main (at_name (ahead c.args.reader.now) (c.if-is_at_name-4.ensures.0 refl)) c.package.ensures

pub returns-else-is_at_name-4 : goal.returns-else-is_at_name-4
returns-else-is_at_name-4 c =
    let r = c.include.ensures c.args.depth in
    record {
      taken = r.taken;
      only = λ more decl rest m.
          included (λ d. IsReading (more ≤ c.args.depth) seen_decl d rest (ahead c.include.new.reader) c.include.result) more decl
          record {
            symbolic = not_there c.if-is_at_reserved.ensures.1;
            assume = not_there c.if-is_at_name.ensures.1;
            maximize = not_there c.if-is_at_name-2.ensures.1;
            const = not_there c.if-is_at_reserved-2.ensures.1;
            header = not_there c.if-is_at_reserved-3.ensures.1;
            struct = not_there c.if-is_at_reserved-4.ensures.1;
            register = not_there c.if-is_at_name-3.ensures.1;
            control = not_there c.if-is_at_reserved-5.ensures.1;
            main = not_there c.if-is_at_name-4.ensures.1;
          }
          m (λ file f. r.only more file rest f);
      deep = r.deep;
    }
