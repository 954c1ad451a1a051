-- What each step of the search keeps.
use Rattle.std.proofs.Common.{◌≡◌, ℕ, ◌+◌, ◌<◌, ◌≤◌, ◌⊎◌, inl, inr, true, false, cond, List, [], ◌∷◌, ◌++◌, length, get_or, set, refl, sym, ap, subst, ◌∙◌, true≢false, length-append, arith}
use Rattle.std.specs.Prelude.{count_by}
use Rattle.std.proofs.Math.ListN.{length-set, get_or-append}
use Rattle.std.proofs.Math.Seq.{get_or-append_seam}
use Rattle.std.proofs.lemmas.Bool.{cases_eq, cases_lt}
use Rattle.std.proofs.lemmas.List.{get_or-set_same, get_or-set_other}
use Rattle.std.proofs.lemmas.List.Sums.{sum_by-set}
use Rattle.elastic_ast.specs.Tree.{PlainState}
use Rattle.elastic_ast.specs.Typing.ParserLoops.{goes, LeadsToState, direct, further}
use Rattle.parser_loops.specs.declared.search.Mark.{Mark}
use Rattle.parser_loops.specs.declared.search.Mark.TheVariants.{New, Open, Done}
use Rattle.parser_loops.specs.Transitions.{IsCase, targets_at}
use Rattle.parser_loops.specs.Searching.{SearchFacts, PassedUpTo, ReachesItself, mark_of, is_new}
use Rattle.parser_loops.proofs.EdgeLaws.{along, goes_case, case_counted, leads_within}

-- one mark is set
pub set_here : (marks : List Mark) (state : ℕ) (mark : Mark) → state < length marks → mark_of (set marks state mark) state ≡ mark
set_here marks state mark within = get_or-set_same marks state mark New within

pub set_there : (marks : List Mark) (state other : ℕ) (mark : Mark) → (other ≡ state → ⊥) → mark_of (set marks state mark) other ≡ mark_of marks other
set_there marks state other mark differ = get_or-set_other marks state other mark New differ

-- the last of a path, and those before it
last_of : (path : List ℕ) (state : ℕ) → get_or (path ++ state ∷ []) (length path) 0 ≡ state
last_of path state = get_or-append_seam path state [] 0

before_last : (path : List ℕ) (state place : ℕ) → place < length path → get_or (path ++ state ∷ []) place 0 ≡ get_or path place 0
before_last path state place within = get_or-append path (state ∷ []) 0 place within

one_more : (path : List ℕ) (state : ℕ) → length (path ++ state ∷ []) ≡ length path + 1
one_more path state = length-append path (state ∷ [])

-- a place of a longer path is one of the path, or its end
end_or_before : (path : List ℕ) (state place : ℕ) → place < length (path ++ state ∷ []) → (place < length path) ⊎ (place ≡ length path)
end_or_before path state place within =
    let long = one_more path state in
    elim (cases_lt place (length path)) [ inl h ↦ inl h | inr h ↦ inr (omega arith) ]

at_end : (path : List ℕ) (state place : ℕ) → place ≡ length path → get_or (path ++ state ∷ []) place 0 ≡ state
at_end path state place e = ap (λ n. get_or (path ++ state ∷ []) n 0) e ∙ last_of path state

-- a new state comes to the end of the path
pub entered : (states : List PlainState) (marks : List Mark) (passed path : List ℕ) (state : ℕ) → SearchFacts states marks passed path → state < length states → mark_of marks state ≡ New
    → ((place : ℕ) → place < length path → LeadsToState states (get_or path place 0) state) → SearchFacts states (set marks state Open) passed (path ++ state ∷ [])
entered states marks passed path state before inside new leads = record {
  marked = length-set marks state Open ∙ before.marked;
  counted = before.counted;
  within = λ place h. elim (end_or_before path state place h) [
    | inl k ↦ subst (λ n. n < length states) (sym (before_last path state place k)) (before.within place k)
    | inr e ↦ subst (λ n. n < length states) (sym (at_end path state place e)) inside
  ];
  past = λ one case other h k. still other (before.past one case other h k);
  closed = λ one other d h. still other (before.closed one other (done_before one d) h);
  free = λ one d. before.free one (done_before one d);
  onward = λ place later h k.
      let first : place < length path = let long = one_more path state in omega arith in
      elim (end_or_before path state later k) [
        | inl l ↦ subst (λ n. LeadsToState states n (get_or (path ++ state ∷ []) later 0)) (sym (before_last path state place first)) (subst (LeadsToState states (get_or path place 0)) (sym (before_last path state later l)) (before.onward place later h l))
        | inr e ↦ subst (λ n. LeadsToState states n (get_or (path ++ state ∷ []) later 0)) (sym (before_last path state place first)) (subst (LeadsToState states (get_or path place 0)) (sym (at_end path state later e)) (leads place first))
      ];
  on_path = λ other o. elim (cases_eq other state) [
    | inl e ↦ (length path, (let long = one_more path state in omega arith), last_of path state ∙ sym e)
    | inr differ ↦ (
        let p = before.on_path other (sym (set_there marks state other Open differ) ∙ o) in
        let k : p.0 < length path = p.1 in
        (p.0, (let long = one_more path state in omega arith), before_last path state p.0 p.1 ∙ p.2)
        )
  ];
}
  where
    inside_marks : state < length marks
    inside_marks = let e = before.marked in omega arith

    -- what is done is neither new nor open
    still : (other : ℕ) → mark_of marks other ≡ Done → mark_of (set marks state Open) other ≡ Done
    still other d =
        let differ : other ≡ state → ⊥ = λ e. let f : mark_of marks state ≡ Done = ap (mark_of marks) (sym e) ∙ d in let g : New ≡ Done = sym new ∙ f in cc in
        set_there marks state other Open differ ∙ d

    done_before : (other : ℕ) → mark_of (set marks state Open) other ≡ Done → mark_of marks other ≡ Done
    done_before other d =
        elim (cases_eq other state) [
          | inl e ↦ let f : Open ≡ Done = sym (set_here marks state Open inside_marks) ∙ ap (mark_of (set marks state Open)) (sym e) ∙ d in cc
          | inr differ ↦ sym (set_there marks state other Open differ) ∙ d
        ]

-- the last state of the path is done
pub finished : (states : List PlainState) (marks : List Mark) (passed path : List ℕ) (state : ℕ) → SearchFacts states marks passed (path ++ state ∷ []) → PassedUpTo states marks state (get_or passed state 0) (length (targets_at states state))
    → SearchFacts states (set marks state Done) passed path
finished states marks passed path state before rest = record {
  marked = length-set marks state Done ∙ before.marked;
  counted = before.counted;
  within = λ place h. subst (λ n. n < length states) (before_last path state place h) (before.within place (longer place h));
  past = λ one case other h k. still other (before.past one case other h k);
  closed = λ one other d h. still other (elim (cases_eq one state) [
    | inl e ↦ all_done other (subst (λ n. goes states n other ≡ true) e h)
    | inr differ ↦ before.closed one other (sym (set_there marks state one Done differ) ∙ d) h
  ]);
  free = λ one d way. elim (cases_eq one state) [
    | inl e ↦ let back : LeadsToState states state state = subst (λ n. LeadsToState states n n) e way in before.free state (along states (λ n. mark_of marks n ≡ Done) before.closed state state all_done back) back
    | inr differ ↦ before.free one (sym (set_there marks state one Done differ) ∙ d) way
  ];
  onward = λ place later h k.
      let first : place < length path = omega arith in
      subst (λ n. LeadsToState states n (get_or path later 0)) (before_last path state place first)
      (subst (LeadsToState states (get_or (path ++ state ∷ []) place 0)) (before_last path state later k) (before.onward place later h (longer later k)));
  on_path = λ other o.
      let differ : other ≡ state → ⊥ = λ e. let f : Done ≡ Open = sym (set_here marks state Done inside_marks) ∙ ap (mark_of (set marks state Done)) (sym e) ∙ o in cc in
      let p = before.on_path other (sym (set_there marks state other Done differ) ∙ o) in
      elim (end_or_before path state p.0 p.1) [
        | inl k ↦ (p.0, k, sym (before_last path state p.0 k) ∙ p.2)
        | inr e ↦ absurd (differ (sym p.2 ∙ at_end path state p.0 e))
      ];
}
  where
    longer : (place : ℕ) → place < length path → place < length (path ++ state ∷ [])
    longer place h = let long = one_more path state in omega arith

    inside_marks : state < length marks
    inside_marks =
        let h : get_or (path ++ state ∷ []) (length path) 0 < length states = before.within (length path) (let long = one_more path state in omega arith) in
        let e = before.marked in
        let f = last_of path state in
        omega arith

    all_done : (other : ℕ) → goes states state other ≡ true → mark_of marks other ≡ Done
    all_done other h =
        let k = goes_case states state other h in
        elim (cases_lt k.0 (get_or passed state 0)) [ inl below ↦ before.past state k.0 other below k.1 | inr above ↦ rest k.0 other above (case_counted states state k.0 other k.1) k.1 ]

    still : (other : ℕ) → mark_of marks other ≡ Done → mark_of (set marks state Done) other ≡ Done
    still other d =
        elim (cases_eq other state) [
          | inl e ↦ ap (mark_of (set marks state Done)) e ∙ set_here marks state Done inside_marks
          | inr differ ↦ set_there marks state other Done differ ∙ d
        ]

-- more cases are passed
pub advanced : (states : List PlainState) (marks : List Mark) (passed path : List ℕ) (state case : ℕ) → SearchFacts states marks passed path → state < length states → PassedUpTo states marks state (get_or passed state 0) case
    → SearchFacts states marks (set passed state case) path
advanced states marks passed path state case before inside more = record {
  marked = before.marked;
  counted = length-set passed state case ∙ before.counted;
  within = before.within;
  past = λ one place other h k. elim (cases_eq one state) [
    | inl e ↦ at_state place other (subst (λ n. place < get_or (set passed state case) n 0) e h) (subst (λ n. IsCase states n place other) e k)
    | inr differ ↦ before.past one place other (subst (λ n. place < n) (get_or-set_other passed state one case 0 differ) h) k
  ];
  closed = before.closed;
  free = before.free;
  onward = before.onward;
  on_path = before.on_path;
}
  where
    at_state : (place other : ℕ) → place < get_or (set passed state case) state 0 → IsCase states state place other → mark_of marks other ≡ Done
    at_state place other h k =
        let counted = before.counted in
        let e : get_or (set passed state case) state 0 ≡ case = get_or-set_same passed state case 0 (omega arith) in
        elim (cases_lt place (get_or passed state 0)) [ inl below ↦ before.past state place other below k | inr above ↦ more place other above (omega arith) k ]

-- each state of the path leads to that to which the last one goes on
pub path_leads : (states : List PlainState) (marks : List Mark) (passed path : List ℕ) (state other : ℕ) → SearchFacts states marks passed (path ++ state ∷ []) → goes states state other ≡ true
    → (place : ℕ) → place < length (path ++ state ∷ []) → LeadsToState states (get_or (path ++ state ∷ []) place 0) other
path_leads states marks passed path state other before h place within =
    let long = one_more path state in
    elim (end_or_before path state place within) [
      | inl k ↦ further state other (subst (LeadsToState states (get_or (path ++ state ∷ []) place 0)) (last_of path state) (before.onward place (length path) k (omega arith))) h
      | inr e ↦ direct other (subst (λ n. goes states n other ≡ true) (sym (at_end path state place e)) h)
    ]

-- so a transition back to the path is a loop
pub met : (states : List PlainState) (marks : List Mark) (passed path : List ℕ) (state other : ℕ) → SearchFacts states marks passed (path ++ state ∷ []) → goes states state other ≡ true → mark_of marks other ≡ Open → ReachesItself states
met states marks passed path state other before h is_open =
    let p = before.on_path other is_open in
    (other, subst (λ n. LeadsToState states n other) p.2 (path_leads states marks passed path state other before h p.0 p.1))

-- where the path has ended and no state is new, none can reach itself
pub none_loops : (states : List PlainState) (marks : List Mark) (passed : List ℕ) → SearchFacts states marks passed [] → ((state : ℕ) → state < length states → is_new (mark_of marks state) ≡ false) → ReachesItself states → ⊥
none_loops states marks passed searched known loop = by (mark_of marks loop.0) refl
  where
    by : (mark : Mark) → mark_of marks loop.0 ≡ mark → ⊥
    by New e = true≢false (ap is_new (sym e) ∙ known loop.0 (leads_within states loop.0 loop.0 loop.1))
    by Open e = let p = searched.on_path loop.0 e in let h : p.0 < 0 = p.1 in absurd (omega arith)
    by Done e = searched.free loop.0 e loop.1

-- work is done as marks are set
pub no_more_work : (marks : List Mark) (state : ℕ) → state < length marks → count_by is_new (set marks state Done) ≤ count_by is_new marks
no_more_work marks state within = omega (arith, sum_by-set (λ mark. cond {A = ℕ} (is_new mark) 1 0) marks state Done New within)

pub less_work : (marks : List Mark) (state : ℕ) → state < length marks → mark_of marks state ≡ New → count_by is_new (set marks state Open) + 1 ≡ count_by is_new marks
less_work marks state within new =
    let h : count_by is_new (set marks state Open) + cond {A = ℕ} (is_new (mark_of marks state)) 1 0 ≡ count_by is_new marks + 0 = sum_by-set (λ mark. cond {A = ℕ} (is_new mark) 1 0) marks state Open New within in
    let e : cond {A = ℕ} (is_new (mark_of marks state)) 1 0 ≡ 1 = ap (λ mark. cond {A = ℕ} (is_new mark) 1 0) new in
    omega arith

-- no mark becomes new again
pub never_new : (marks : List Mark) (state other : ℕ) (mark : Mark) → state < length marks → is_new mark ≡ false → is_new (mark_of marks other) ≡ false → is_new (mark_of (set marks state mark) other) ≡ false
never_new marks state other mark within known before =
    elim (cases_eq other state) [
      | inl e ↦ ap (λ n. is_new (mark_of (set marks state mark) n)) e ∙ ap is_new (set_here marks state mark within) ∙ known
      | inr differ ↦ ap is_new (set_there marks state other mark differ) ∙ before
    ]
