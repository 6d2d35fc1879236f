-- The search removes the last node from its path, after its entries have led to done nodes only.
use Rattle.std.proofs.Common.{Contains, List, [], ap, arith, get_or, inl, inr, length, refl, set, sym, take}
use Rattle.std.proofs.Common.{ℕ, ◌++◌, ◌+◌, ◌<◌}
use Rattle.std.proofs.Common.{◌∙◌, ◌∷◌, ◌≡◌}
use Rattle.std.proofs.lemmas.Bool.{cases_lt}
use Rattle.std.proofs.lemmas.List.{get_or-take, length-set, length-take-le, length_push}
use Rattle.std.proofs.lemmas.List.Elements.{Contains-append_left, Contains-get_or, Contains-push, Contains-push_cases}
use Rattle.fr_search.proofs.Marks.{mark_set, marked_inside, more_done, push_cases}
use Rattle.fr_search.specs.Heads.{AreHeadsFirst, HeadRows}
use Rattle.fr_search.specs.Search.{IsDone, IsSearchAt, LeadsToDone, mark_of, node_at, step_at}
use Rattle.fr_search.specs.declared.search.Mark.{Mark}
use Rattle.fr_search.specs.declared.search.Mark.TheVariants.{Done, Open}
use Rattle.fr_search.specs.declared.search.Step.{Step}

-- the last node of the path is open
pub top_open : {rows : HeadRows} {marks : List Mark} {path : List Step} {order : List ℕ} (last : ℕ)
    → IsSearchAt rows marks path order → last + 1 ≡ length path → mark_of marks (node_at path last) ≡ Open
top_open last s full = (s.are_open _).1 (last, omega (arith, full), refl)

-- a node that is left comes after its rows
one_more : (rows : HeadRows) (marks : List Mark) (order : List ℕ) (x : ℕ) → AreHeadsFirst rows order
    → ((y : ℕ) → IsDone marks y → Contains order y) → ¬ Contains order x → LeadsToDone rows marks x
    → AreHeadsFirst rows (order ++ x ∷ [])
one_more rows marks order x o listed new leads = record {
  closed = λ y z on step. elim (Contains-push_cases order x y on) [
    | inl was ↦ Contains-append_left order (x ∷ []) z (o.closed y z was step)
    | inr e ↦ Contains-append_left order (x ∷ []) z (listed z (leads z (rw e step)))
  ];
  first = λ i j li lj step. elim (push_cases order x 0 i li) [
    | inl v ↦ elim (push_cases order x 0 j lj) [
      | inl w ↦ o.first i j v.0 w.0 (rw (v.1, w.1) at step)
      | inr w ↦ absurd (new (o.closed (get_or order i 0) x (Contains-get_or order i 0 v.0) (rw (v.1, w.1) at step)))
    ]
    | inr v ↦ elim (push_cases order x 0 j lj) [
      | inl w ↦ omega (arith, v.0, w.0)
      | inr w ↦ absurd (new (listed x (leads x (rw (v.1, w.1) at step))))
    ]
  ];
}

pub left : (rows : HeadRows) (marks : List Mark) (path : List Step) (order : List ℕ) (x last : ℕ)
    → IsSearchAt rows marks path order → last + 1 ≡ length path → x ≡ node_at path last → LeadsToDone rows marks x
    → IsSearchAt rows (set marks x Done) (take last path) (order ++ x ∷ [])
left rows marks path order x last s full top leads =
    let is_open : mark_of marks x ≡ Open = rw top (top_open last s full) in
    let below : x < length marks = marked_inside marks x (λ is. cc (is_open, is)) in
    let shorter = length-take-le last path (omega (arith, full)) in
    let same : (k : ℕ) → k < length (take last path) → step_at (take last path) k ≡ step_at path k = λ k l.
    get_or-take last path k (record { node = 0; next = 0 }) (omega (arith, l, shorter)) in
    let stays : (y : ℕ) → IsDone marks y → IsDone (set marks x Done) y = λ y was.
    elim (mark_set marks x y Done below) [ inl w ↦ w.1 | inr w ↦ w.1 ∙ was ] in
    record {
      below = rw (length-set marks x Done) s.below;
      are_done = λ y. (
        λ is. elim (mark_set marks x y Done below) [
          | inl w ↦ rw w.0 (Contains-push order x)
          | inr w ↦ Contains-append_left order (x ∷ []) y ((s.are_done y).0 (sym w.1 ∙ is))
        ],
        λ on. elim (mark_set marks x y Done below) [
          | inl w ↦ w.1
          | inr w ↦ elim (Contains-push_cases order x y on) [
            | inl was ↦ w.1 ∙ (s.are_done y).1 was
            | inr e ↦ absurd (w.0 (sym e))
          ]
        ],
      );
      counted = omega (arith, s.counted, more_done marks x below is_open, length_push order x);
      heads_first = one_more rows marks order x s.heads_first (λ y. (s.are_done y).0)
          (λ on. cc ((s.are_done x).1 on, is_open)) leads;
      are_open = λ y. (
        λ is. elim (mark_set marks x y Done below) [
          | inl w ↦ cc (w.1, is)
          | inr w ↦
              let (k, l, at) = (s.are_open y).0 (sym w.1 ∙ is) in
              elim (cases_lt k last) [
                | inl less ↦ (k, omega (arith, less, shorter), rw (node_at, same k (omega (arith, less, shorter))) at)
                | inr more ↦
                    let e : k ≡ last = omega (arith, l, full, more) in
                    absurd (w.0 (sym (rw e at at) ∙ sym top))
              ]
        ],
        λ (k, l, at). elim (mark_set marks x y Done below) [
          | inl w ↦ absurd (s.once k last (omega (arith, l, shorter)) (omega (arith, full))
              (sym (ap (λ (t : Step). t.node) (same k l)) ∙ at ∙ w.0 ∙ top))
          | inr w ↦ w.1 ∙ (s.are_open y).1 (k, omega (arith, l, shorter, full), rw (node_at, same k l) at at)
        ],
      );
      once = λ i j lt l e. s.once i j lt (omega (arith, l, shorter, full))
          (rw (node_at, same i (omega (arith, lt, l)), same j l) at e);
      begins = λ w some less. stays w (s.begins w (omega (arith, full)) (rw (node_at, same 0 some) at less));
      follows = λ k l. rw (node_at, same k (omega (arith, l)), same (k + 1) l)
          (s.follows k (omega (arith, l, shorter, full)));
      read = λ k l. rw (same k l) (λ j y lt at. stays y (s.read k (omega (arith, l, shorter, full)) j y lt at));
    }
