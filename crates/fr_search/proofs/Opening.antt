-- The search puts a node that it has not met on its path.
use Rattle.std.proofs.Common.{List, [], arith, inl, inr, length, refl, set, sym, ℕ, ◌⊎◌, ◌++◌, ◌+◌, ◌<◌}
use Rattle.std.proofs.Common.{◌∙◌, ◌∷◌, ◌≡◌}
use Rattle.std.proofs.lemmas.List.{get_or_push, length-set, length_push}
use Rattle.fr_search.proofs.Marks.{mark_set, push_cases, same_done}
use Rattle.fr_search.specs.Heads.{HeadRows}
use Rattle.fr_search.specs.Search.{CanGoOn, IsDone, IsSearchAt, mark_of, node_at, step_at}
use Rattle.fr_search.specs.declared.search.Mark.{Mark}
use Rattle.fr_search.specs.declared.search.Mark.TheVariants.{Fresh, Open}
use Rattle.fr_search.specs.declared.search.Step.{Step}

abbrev no_step : Step
no_step = record { node = 0; next = 0 }

pub opened : (rows : HeadRows) (marks : List Mark) (path : List Step) (order : List ℕ) (x : ℕ)
    → IsSearchAt rows marks path order → x < length marks → mark_of marks x ≡ Fresh → CanGoOn rows marks path x
    → IsSearchAt rows (set marks x Open) (path ++ record { node = x; next = 0 } ∷ []) order
opened rows marks path order x s below fresh goes =
    let new : Step = record { node = x; next = 0 } in
    let longer = length_push path new in
    let cases : (k : ℕ) → k < length (path ++ new ∷ [])
    → ((k < length path) × (step_at (path ++ new ∷ []) k ≡ step_at path k))
    ⊎ ((k ≡ length path) × (step_at (path ++ new ∷ []) k ≡ new)) = push_cases path new no_step in
    let stays : (y : ℕ) → IsDone marks y → IsDone (set marks x Open) y = λ y was.
    elim (mark_set marks x y Open below) [ inl w ↦ cc (w.0, was, fresh) | inr w ↦ w.1 ∙ was ] in
    let was_open : (k : ℕ) → k < length path → mark_of marks (node_at path k) ≡ Open = λ k l.
    (s.are_open (node_at path k)).1 (k, l, refl) in
    record {
      below = rw (length-set marks x Open) s.below;
      are_done = λ y. (
        λ is. elim (mark_set marks x y Open below) [ inl w ↦ cc (w.1, is) | inr w ↦ (s.are_done y).0 (sym w.1 ∙ is) ],
        λ listed. stays y ((s.are_done y).1 listed),
      );
      counted = omega (arith, s.counted, same_done marks x below fresh);
      heads_first = s.heads_first;
      are_open = λ y. (
        λ is. elim (mark_set marks x y Open below) [
          | inl w ↦ (
            length path,
            omega (arith, longer),
            rw (node_at, get_or_push path new no_step (length path) refl) (sym w.0),
          )
          | inr w ↦
              let (k, l, at) = (s.are_open y).0 (sym w.1 ∙ is) in (
                k,
                omega (arith, l, longer),
                elim (cases k (omega (arith, l, longer))) [
                  | inl v ↦ rw (node_at, v.1) at
                  | inr v ↦ absurd (omega (arith, v.0, l))
                ],
              )
        ],
        λ (k, l, at). elim (mark_set marks x y Open below) [
          | inl w ↦ w.1
          | inr w ↦ elim (cases k l) [
            | inl v ↦ w.1 ∙ (s.are_open y).1 (k, v.0, rw (node_at, v.1) at at)
            | inr v ↦ absurd (w.0 (sym (rw (node_at, v.1) at at)))
          ]
        ],
      );
      once = λ i j lt l same. elim (cases i (omega (arith, lt, l))) [
        | inl v ↦ elim (cases j l) [
          | inl w ↦ s.once i j lt w.0 (rw (node_at, v.1, w.1) at same)
          | inr w ↦ let e : node_at path i ≡ x = rw (node_at, v.1, w.1) at same in cc (was_open i v.0, e, fresh)
        ]
        | inr v ↦ absurd (omega (arith, v.0, lt, l, longer))
      ];
      begins = λ w some less. elim (cases 0 some) [
        | inl v ↦ stays w (s.begins w v.0 (rw (node_at, v.1) at less))
        | inr v ↦ stays w (goes.begins w v.0 (rw (node_at, v.1) at less))
      ];
      follows = λ k l. elim (cases k (omega (arith, l))) [
        | inl v ↦ elim (cases (k + 1) l) [
          | inl w ↦ rw (node_at, v.1, w.1) (s.follows k w.0)
          | inr w ↦ rw (node_at, v.1, w.1) (goes.leads k w.0)
        ]
        | inr v ↦ absurd (omega (arith, v.0, l, longer))
      ];
      read = λ k l j y lt at. elim (cases k l) [
        | inl v ↦ stays y (s.read k v.0 j y (rw v.1 at lt) (rw v.1 at at))
        | inr v ↦ absurd (omega (arith, rw v.1 at lt))
      ];
    }
