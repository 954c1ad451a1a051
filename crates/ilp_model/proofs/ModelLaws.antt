-- Rows that are added group by group, and the whole program of its parts.
use Rattle.std.proofs.Common.{◌≡◌, ℕ, ℤ, pos, List, [], ◌++◌, map, append_assoc, sym, ap, ◌∙◌}
use Rattle.std.proofs.lemmas.List.{map-append}
use Rattle.elastic_ast.specs.Units.PlainUnits.{PlainUnits}
use Rattle.int_program.specs.declared.program.Part.{Part}
use Rattle.int_program.specs.declared.program.Row.{Row}
use Rattle.target_desc.specs.declared.target.Target.{Target}
use Rattle.ilp_model.specs.IpOf.{row_of, parts_of, ip_of}
use Rattle.ilp_model.specs.Objective.{objective, constant}
use Rattle.ilp_model.specs.Rows.{size_groups, rows_from_stand}
use Rattle.ilp_model.specs.Variables.{variables, variable_number, top_of}
use Rattle.ilp_model.proofs.GroupLaws.{groups_are}

-- what is added after what was added
pub added_more : {A : Type 0} (old one two xs ys : List A) → one ≡ old ++ xs → two ≡ one ++ ys → two ≡ old ++ (xs ++ ys)
added_more old one two xs ys e f = f ∙ ap (λ z. z ++ ys) e ∙ append_assoc old xs ys

pub added_five : {A : Type 0} (old one two three four five t o h l k : List A) → one ≡ old ++ t → two ≡ one ++ o → three ≡ two ++ h
    → four ≡ three ++ l
    → five ≡ four ++ k → five ≡ old ++ ((((t ++ o) ++ h) ++ l) ++ k)
added_five old one two three four five t o h l k e1 e2 e3 e4 e5 =
    added_more old four five (((t ++ o) ++ h) ++ l) k
    (added_more old three four ((t ++ o) ++ h) l
    (added_more old two three (t ++ o) h (added_more old one two t o e1 e2) e3) e4) e5

-- the program of its parts
pub program_is : (units : PlainUnits) (target : Target) (bounds : ℕ → ℕ) (tops : List ℤ) (none sizes rows : List Row) (goal : List Part) (base : ℤ)
    → tops ≡ map (λ variable. pos (top_of bounds variable)) (variables units target bounds)
    → none ≡ [] → sizes ≡ none ++ map (row_of (variable_number units target bounds)) (size_groups units target bounds)
    → rows ≡ sizes ++ map (row_of (variable_number units target bounds)) (rows_from_stand units target bounds)
    → goal ≡ parts_of (variable_number units target bounds) (objective units.terms bounds)
    → base ≡ constant units.terms
    → record { tops = tops; rows = rows; goal = goal; base = base } ≡ ip_of units target bounds
program_is units target bounds tops none sizes rows goal base t n s r g b =
    ap (λ z. record { tops = z; rows = rows; goal = goal; base = base }) t
    ∙ ap (λ z. record { tops = made_tops; rows = z; goal = goal; base = base }) all_rows
    ∙ ap (λ z. record { tops = made_tops; rows = made_rows; goal = z; base = base }) g
    ∙ ap (λ z. record { tops = made_tops; rows = made_rows; goal = made_goal; base = z }) b
  where
    made_tops : List ℤ
    made_tops = map (λ variable. pos (top_of bounds variable)) (variables units target bounds)

    made_rows : List Row
    made_rows = map (row_of (variable_number units target bounds)) (Rattle.ilp_model.specs.Rows.rows units target bounds)

    made_goal : List Part
    made_goal = parts_of (variable_number units target bounds) (objective units.terms bounds)

    all_rows : rows ≡ made_rows
    all_rows =
        r ∙ ap (λ z. z ++ map (row_of (variable_number units target bounds)) (rows_from_stand units target bounds))
        (s ∙ ap (λ z. z ++ map (row_of (variable_number units target bounds)) (size_groups units target bounds)) n)
        ∙ sym (map-append (row_of (variable_number units target bounds)) (size_groups units target bounds) (rows_from_stand units target bounds))
        ∙ ap (map (row_of (variable_number units target bounds))) (sym (groups_are units target bounds))
