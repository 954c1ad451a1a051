-- The greatest values, added one group after the other.
use Rattle.std.proofs.Common.{◌≡◌, ℕ, ℤ, pos, ◌-◌, List, [], ◌++◌, map, length, ap, ap₂, ◌∙◌}
use Rattle.std.specs.Prelude.{flat_map}
use Rattle.elastic_ast.specs.declared.flat.Unit.{Unit as FlatUnit}
use Rattle.elastic_ast.specs.declared.flat.Units.{Units}
use Rattle.elastic_ast.specs.Units.SeenUnits.{seen_unit, seen_units}
use Rattle.elastic_ast.specs.Units.Instances.{nth_size}
use Rattle.target_desc.specs.declared.target.Target.{Target}
use Rattle.ilp_model.specs.declared.listing.Candidate.{Candidate as Listed}
use Rattle.ilp_model.specs.Candidates.{candidates}
use Rattle.ilp_model.specs.ListedCandidates.{listed}
use Rattle.ilp_model.specs.Variables.{past_stages, variables, top_of}
use Rattle.ilp_model.specs.WrittenTops.{written_tops, held_of}
use Rattle.ilp_model.proofs.TopLaws.{tops_written}

pub all_tops : (units : Units) (target : Target) (bounds : List ℕ) → length bounds ≡ length units.terms.symbols
    → (list : List Listed) → list ≡ map listed (candidates (seen_units units) (nth_size bounds)) → (kept : List FlatUnit) → kept ≡ units.list
    → (held stages : ℕ) → held ≡ past_stages (seen_units units) target (nth_size bounds) → stages ≡ target.stages
    → (none one two three : List ℤ) → none ≡ [] → one ≡ none ++ map pos bounds → two ≡ one ++ written_tops (held - length bounds) 1
    → three ≡ two ++ flat_map (held_of (map seen_unit kept) stages (nth_size bounds)) list
    → three ≡ map (λ variable. pos (top_of (nth_size bounds) variable)) (variables (seen_units units) target (nth_size bounds))
all_tops units target bounds dense list lists kept same held stages eh es none one two three e0 e1 e2 e3 =
    e3
    ∙ ap₂ (λ z w. z ++ w) (e2 ∙ ap₂ (λ z n. z ++ written_tops (n - length bounds) 1) (e1 ∙ ap (λ z. z ++ map pos bounds) e0) eh)
    (ap (λ z. flat_map (held_of (map seen_unit z) stages (nth_size bounds)) list) same
    ∙ ap (λ n. flat_map (held_of (map seen_unit units.list) n (nth_size bounds)) list) es
    ∙ ap (λ z. flat_map (held_of (map seen_unit units.list) target.stages (nth_size bounds)) z) lists)
    ∙ tops_written (seen_units units) target bounds dense
