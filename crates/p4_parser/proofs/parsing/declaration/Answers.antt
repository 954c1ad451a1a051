use Rattle.std.proofs.lemmas.Result.{IfOk-weaker}
use Rattle.std.proofs.Common.{◌≤◌, codes, refl, arith}
use Rattle.elastic_ast.specs.Seen.{seen_decl}
use Rattle.spelling.specs.Reading.{ahead, IsReading, Takes}
use Rattle.spelling.proofs.Limits.{reading_as}
use Rattle.spelling.proofs.Only.{not_there, other_text}
use Rattle.spelling.proofs.Taking.{takes_as}
use Rattle.spelling.proofs.Bounds.{deep_as}
use Rattle.p4_declarations.specs.Flat.{SpellsFlat}
use Rattle.p4_parser.specs.Reading.{DeclHasFew}
use Rattle.p4_parser.proofs.DeclForms.{by_form, flat_declaration}
use Rattle.p4_parser.proofs.Reaching.{reaches_all, reaches_stop}
use Rattle.p4_parser.proofs.parsing.declaration.Goals as goal

pub returns-then-is_at_reserved : goal.returns-then-is_at_reserved
returns-then-is_at_reserved c =
    record {
      taken = c.parser.ensures.taken;
      few = c.parser.ensures.few;
      only = λ more decl rest m.
          by_form more (λ d. IsReading ((more ≤ c.args.depth) × DeclHasFew d) seen_decl d rest (ahead c.parser.new.reader) c.parser.result) decl m
          (λ name states f at. c.parser.ensures.only more (name, states) rest f)
          (λ name locals body f at inout. absurd (other_text (codes "control") (codes "parser") (ahead c.args.reader.now) refl (λ word h. h.1) (λ word h. h.1) at (c.if-is_at_reserved.ensures.0 refl)))
          (λ decl f words. absurd (words.no_parser (c.if-is_at_reserved.ensures.0 refl)));
      deep = deep_as c.parser.result (λ p. reaches_all (omega arith) p) c.parser.ensures.deep;
    }

pub returns-then-is_at_control : goal.returns-then-is_at_control
returns-then-is_at_control c =
    let at = c.if-is_at_control.ensures.0 refl in
    record {
      taken = c.control.ensures.taken;
      few = c.control.ensures.few;
      only = λ more decl rest m.
          by_form more (λ d. IsReading ((more ≤ c.args.depth) × DeclHasFew d) seen_decl d rest (ahead c.control.new.reader) c.control.result) decl m
          (λ name states f first. absurd (not_there c.if-is_at_reserved.ensures.1 first))
          (λ name locals body f first inout. c.control.ensures.only more (name, (locals, body)) rest f)
          (λ decl f words. absurd (words.no_control at.0 at.1));
      deep = c.control.ensures.deep;
    }

pub returns : goal.returns
returns c =
    record {
      taken = IfOk-weaker _ (λ d. Takes (SpellsFlat c.args.depth (seen_decl d)) (ahead c.args.reader.now) (ahead c.flat.new.reader)) _ (λ d t. takes_as (λ ws h. (flat_declaration c.args.depth (seen_decl d) ws h).0) t) c.flat.ensures.taken;
      few = IfOk-weaker _ (λ d. Takes (SpellsFlat c.args.depth (seen_decl d)) (ahead c.args.reader.now) (ahead c.flat.new.reader)) _ (λ d t. (flat_declaration c.args.depth (seen_decl d) t.front t.spelled).1) c.flat.ensures.taken;
      only = λ more decl rest m.
          by_form more (λ d. IsReading ((more ≤ c.args.depth) × DeclHasFew d) seen_decl d rest (ahead c.flat.new.reader) c.flat.result) decl m
          (λ name states f first. absurd (not_there c.if-is_at_reserved.ensures.1 first))
          (λ name locals body f first inout. absurd (not_there c.if-is_at_control.ensures.1 (first, inout)))
          (λ decl f words. reading_as _ _ _ _ _ _ _ (λ few. few.0) (c.flat.ensures.only more decl rest f));
      deep = deep_as c.flat.result (λ s. reaches_stop s) c.flat.ensures.deep;
    }
