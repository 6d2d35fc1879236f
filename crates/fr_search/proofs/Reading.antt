-- More of the row of the last node of the path is read.
use Rattle.std.proofs.Common.{List, None, Option, Some, ap, arith, get_or, inl, inr, length, map, refl, set, sym, ℕ}
use Rattle.std.proofs.Common.{◌+◌, ◌<◌, ◌∙◌, ◌≡◌, ◌≢◌}
use Rattle.std.specs.Prelude.{IfSome}
use Rattle.std.proofs.lemmas.Bool.{cases_eq}
use Rattle.std.proofs.lemmas.List.{get_or-map, get_or-set_other, get_or-set_same, length-set}
use Rattle.fr_search.specs.Heads.{HeadRows, head_at}
use Rattle.fr_search.specs.Search.{CanGoOn, IsRead, IsSearchAt, node_at, step_at}
use Rattle.fr_search.specs.declared.search.Mark.{Mark}
use Rattle.fr_search.specs.declared.search.Step.{Step}

-- the head of an entry that was read
pub head_is : {E : Type 0} (head : E → Option ℕ) (row : List E) (heads : List (Option ℕ)) (place : ℕ) (entry : E)
    → map head row ≡ heads → place < length row → entry ≡ get_or row place entry → get_or heads place None ≡ head entry
head_is head row heads place entry same inside is =
    rw (← same) (get_or-map head row place entry None inside ∙ ap head (sym is))

-- a property of the value, if there is one
pub if_some : (o : Option ℕ) (P : ℕ → Type 0) → ((y : ℕ) → o ≡ Some y → P y) → IfSome o P
if_some None P holds = tt
if_some (Some y) P holds = holds y refl

-- only the next place of the last step changes
module _ (path : List Step) (last next : ℕ) (top : Step) (full : last + 1 ≡ length path)
    (is : step_at path last ≡ top) where
  abbrev pub moved : Step
  moved = record { node = top.node; next = next }

  step_same : step_at (set path last moved) last ≡ moved
  step_same = get_or-set_same path last moved (record { node = 0; next = 0 }) (omega (arith, full))

  step_other : (k : ℕ) → k ≢ last → step_at (set path last moved) k ≡ step_at path k
  step_other k other = get_or-set_other path last k moved (record { node = 0; next = 0 }) other

  node_same : (k : ℕ) → node_at (set path last moved) k ≡ node_at path k
  node_same k = elim (cases_eq k last) [
    | inl e ↦ rw (node_at, e, step_same, is) refl
    | inr other ↦ rw (node_at, step_other k other) refl
  ]

  pub read_on : (rows : HeadRows) (marks : List Mark) (order : List ℕ) → IsSearchAt rows marks path order
      → IsRead rows marks moved → IsSearchAt rows marks (set path last moved) order
  read_on rows marks order s read =
      let long = length-set path last moved in
      record {
        below = s.below;
        are_done = s.are_done;
        counted = s.counted;
        heads_first = s.heads_first;
        are_open = λ y. (
          λ is. let (k, l, at) = (s.are_open y).0 is in (k, omega (arith, l, long), node_same k ∙ at),
          λ (k, l, at). (s.are_open y).1 (k, omega (arith, l, long), sym (node_same k) ∙ at),
        );
        once = λ i j lt l same. s.once i j lt (omega (arith, l, long)) (sym (node_same i) ∙ same ∙ node_same j);
        begins = λ w some less. s.begins w (omega (arith, full)) (rw (node_same 0) at less);
        follows = λ k l. rw (node_same k, node_same (k + 1), step_other k (omega (arith, l, long, full)))
            (s.follows k (omega (arith, l, long)));
        read = λ k l. elim (cases_eq k last) [
          | inl e ↦ rw (e, step_same) read
          | inr other ↦ rw (step_other k other) (s.read k (omega (arith, l, long)))
        ];
      }

  -- the path can go on by the entry at this place
  pub can_go_on : (rows : HeadRows) (marks : List Mark) (x : ℕ) → head_at rows top.node next ≡ Some x
      → CanGoOn rows marks (set path last moved) x
  can_go_on rows marks x leads =
      let long = length-set path last moved in
      record {
        leads = λ k l. let e : k ≡ last = omega (arith, l, long, full) in rw (node_at, e, step_same) leads;
        begins = λ w none. absurd (omega (arith, none, long, full));
      }
