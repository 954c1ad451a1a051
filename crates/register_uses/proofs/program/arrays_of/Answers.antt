use Rattle.std.proofs.Common.{map, ap}
use Rattle.std.specs.Prelude.{option_map}
use Rattle.std.proofs.lemmas.List.{at_drop_all}
use Rattle.elastic_ast.specs.Seen.{seen_decl}
use Rattle.elastic_ast.specs.Typing.Scope.{or_else, found}
use Rattle.program_names.specs.FirstNamed.{entry_value}
use Rattle.register_uses.specs.HasUses.{array_shown, array_given}
use Rattle.program_names.proofs.FirstLaws.{first_step, first_all}
use Rattle.register_uses.proofs.program.arrays_of.Goals as goal

pub loop-decl-init : goal.loop-decl-init
loop-decl-init c name = ap (λ z. or_else (option_map array_shown (entry_value z name)) (found (array_given name) (map seen_decl c.args.decls.now))) c.new-arrays.ensures.empty

pub loop-decl-preserved : goal.loop-decl-preserved
loop-decl-preserved c name =
    first_step array_shown array_given seen_decl c.args.decls.now c.loop-decl.decl-index c.decl-item.result c.loop-decl.arrays.entries c.enter_array.new.arrays.entries name (found (array_given name) (map seen_decl c.args.decls.now)) c.loop-decl-test.true
    c.decl-item.is (λ n. c.in_ok-enter_array.ensures n) (c.loop-decl.invariant name)

pub returns : goal.returns
returns c name =
    first_all array_shown array_given seen_decl c.args.decls.now c.loop-decl.decl-index c.loop-decl.arrays.entries name (found (array_given name) (map seen_decl c.args.decls.now)) (at_drop_all (λ z. z) c.args.decls.now c.loop-decl.decl-index c.loop-decl-test.false)
    (c.loop-decl.invariant name)
