use Rattle.std.proofs.Common.{◌≡◌, Bool, true, false, Option, Some, None, refl, sym, ap, ◌∙◌, is_some, subst}
use Rattle.std.specs.Prelude.{if◌then◌else◌}
use Rattle.elastic_ast.specs.Tree.{Name}
use Rattle.elastic_ast.specs.Typing.Scope.{same}
use Rattle.elastic_ast.proofs.Typing.SameNames.{same_told}
use Rattle.register_uses.specs.declared.uses.Use.{Use}
use Rattle.register_uses.specs.declared.uses.Use.TheVariants as usage
use Rattle.register_uses.specs.Uses.{combined}
use Rattle.program_names.specs.FirstNamed.{entry_value}
use Rattle.register_uses.specs.Walks.{UseEntries, Notes}
use Rattle.program_names.proofs.FirstLaws.{value_insert}
use Rattle.register_uses.proofs.UseLaws.{combined_none}
use Rattle.register_uses.proofs.uses.note.Goals as goal

-- a register takes the use that one more makes of what it had
noted : (old new : UseEntries) (name text : Name) (more next : Use) → text ≡ name → next ≡ (if is_some (entry_value old text) then usage.Twice else more)
    → ((register : Name) → entry_value new register ≡ (if same register text then Some next else entry_value old register)) → Notes old new name more
noted old new name text more next e n h register =
    subst (λ z. entry_value new register ≡ combined (entry_value old register) (if same register z then Some more else None)) e (h register ∙ by (same register text) refl)
  where
    one_more : (o : Option Use) → next ≡ (if is_some o then usage.Twice else more) → Some next ≡ combined o (Some more)
    one_more None k = ap Some k
    one_more (Some one) k = ap Some k

    by : (b : Bool) → same register text ≡ b → (if b then Some next else entry_value old register) ≡ combined (entry_value old register) (if b then Some more else None)
    by true p = one_more (entry_value old register) (n ∙ ap (λ z. if is_some (entry_value old z) then usage.Twice else more) (sym (same_told register text p)))
    by false p = sym (combined_none (entry_value old register))

pub returns : goal.returns
returns c =
    noted c.args.uses.now.entries c.insert.new.self.entries c.args.name.now c.as_slice-text.result.now c.args.more c.one_more.result c.as_slice-text.ensures
    (c.one_more.ensures ∙ ap (λ z. if z then usage.Twice else c.args.more) c.contains_key-known.ensures)
    (λ register. ap (λ z. entry_value z register) c.in_ok-insert.ensures.entries ∙ value_insert c.args.uses.now.entries c.as_slice-text.result c.one_more.result register)
