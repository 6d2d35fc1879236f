-- How the search begins and ends.
use Rattle.std.proofs.Common.{List, [], ap, arith, drop, get_or, inl, inr, length, replicate, sym, ℕ}
use Rattle.std.proofs.Common.{◌++◌, ◌+◌, ◌<◌, ◌∙◌, ◌∷◌, ◌≡◌, ◌≢◌}
use Rattle.std.proofs.lemmas.Bool.{cases_lt}
use Rattle.std.proofs.lemmas.List.{drop-append-le, get_or-map, get_or-replicate, get_or_append_left}
use Rattle.std.proofs.lemmas.List.{get_or_past, get_or_push}
use Rattle.std.proofs.lemmas.List.{length-map, length-replicate, length_push}
use Rattle.std.proofs.lemmas.List.Elements.{Contains-get_or}
use Rattle.std.proofs.lemmas.List.Folds.{sum_by-replicate}
use Rattle.std.proofs.lemmas.List.Sums.{count_by-le-length}
use Rattle.std.proofs.Common.{cond}
use Rattle.fr_search.proofs.Marks.{mark_cases, marked_inside}
use Rattle.fr_search.specs.Heads.{AreRowsOf, HeadRows, IsFirstCycle, IsInOrder}
use Rattle.fr_search.specs.Search.{IsAtRest, IsDone, IsSearchAt, LeadsBack, is_done, mark_of, node_at, nodes_of}
use Rattle.fr_search.specs.Search.{step_at}
use Rattle.fr_search.specs.declared.search.Mark.{Mark}
use Rattle.fr_search.specs.declared.search.Mark.TheVariants.{Fresh}
use Rattle.fr_search.specs.declared.search.Search.{Search}
use Rattle.fr_search.specs.declared.search.Step.{Step}

fresh_everywhere : (n x : ℕ) → mark_of (replicate n Fresh) x ≡ Fresh
fresh_everywhere n x = elim (cases_lt x n) [
  | inl low ↦ get_or-replicate n x Fresh Fresh low
  | inr past ↦ get_or_past (replicate n Fresh) x Fresh (omega (arith, past, length-replicate n Fresh))
]

-- no node is met at first
pub begins : (n : ℕ) (rows : HeadRows) → AreRowsOf n rows → IsSearchAt rows (replicate n Fresh) [] []
begins n rows below = record {
  below = rw (length-replicate n Fresh) below;
  are_done = λ x. (λ is. cc (fresh_everywhere n x, is), λ on. absurd (omega (arith, on.1)));
  counted = omega (arith, sum_by-replicate (λ (m : Mark). cond {A = ℕ} (is_done m) 1 0) n Fresh);
  heads_first = record { closed = λ x y on. absurd (omega (arith, on.1)); first = λ i j l. absurd (omega (arith, l)) };
  are_open = λ x. (λ is. cc (fresh_everywhere n x, is), λ on. absurd (omega (arith, on.1)));
  once = λ i j lt l. absurd (omega (arith, l));
  begins = λ w some. absurd (omega (arith, some));
  follows = λ k l. absurd (omega (arith, l));
  read = λ k l. absurd (omega (arith, l));
}

-- while the path is empty, each node that was met is done
pub met_done : (rows : HeadRows) (search : Search) (x : ℕ) → IsAtRest rows search
    → mark_of search.marks.items x ≢ Fresh → IsDone search.marks.items x
met_done rows search x rest met = elim (mark_cases (mark_of search.marks.items x)) [
  | inl f ↦ absurd (met f)
  | inr more ↦ elim more [
    | inl o ↦ let on = (rest.search.are_open x).0 o in absurd (omega (arith, on.1, ap length rest.empty))
    | inr d ↦ d
  ]
]

-- once all nodes are met, they are in order
pub all_left : (n : ℕ) (rows : HeadRows) (search : Search) → IsAtRest rows search
    → length search.marks.items ≡ n → ((x : ℕ) → x < n → mark_of search.marks.items x ≢ Fresh)
    → IsInOrder n rows search.order.items
all_left n rows search rest long met =
    let s = rest.search in
    record {
      few = omega (arith, s.counted, count_by-le-length is_done search.marks.items, long);
      below = λ k d l.
          let x : ℕ = get_or search.order.items k d in
          let is = (s.are_done x).1 (Contains-get_or search.order.items k d l) in
          omega (arith, marked_inside search.marks.items x (λ f. cc (is, f)), long);
      all = λ x l. (s.are_done x).0 (met_done rows search x rest (met x l));
      heads_first = s.heads_first;
    }

-- the path and the node that it leads back to are the way into the first cycle
pub first_cycle : (rows : HeadRows) (search : Search) (walk : List ℕ) (x back : ℕ)
    → IsSearchAt rows search.marks.items search.path.items search.order.items → LeadsBack rows search x
    → back < length search.path.items → get_or (nodes_of search.path.items) back 0 ≡ x
    → walk ≡ drop back (nodes_of search.path.items) ++ x ∷ [] → IsFirstCycle rows walk
first_cycle rows search walk x back s leads inside at is =
    let path = search.path.items in
    let nodes = nodes_of path in
    let long : length nodes ≡ length path = length-map path (λ (t : Step). t.node) in
    let way = nodes ++ x ∷ [] in
    let whole = length_push nodes x in
    let stays : (k : ℕ) → k < length path → get_or way k 0 ≡ node_at path k = λ k l.
    get_or_append_left nodes (x ∷ []) 0 k (omega (arith, l, long))
    ∙ get_or-map (λ (t : Step). t.node) path k (record { node = 0; next = 0 }) 0 l in
    let end : get_or way (length path) 0 ≡ x = get_or_push nodes x 0 (length path) long in
    record {
      left = search.order.items;
      heads_first = s.heads_first;
      way = way;
      last = length path;
      whole = omega (arith, whole, long);
      begins = λ w less. (s.are_done w).0
          (s.begins w (omega (arith, inside)) (rw (stays 0 (omega (arith, inside))) at less));
      goes_on = λ k l. record {
        place = (step_at path k).next;
        leads = rw (stays k l) (elim (cases_lt (k + 1) (length path)) [
          | inl less ↦ rw (stays (k + 1) less) (s.follows k less)
          | inr more ↦ let e : k + 1 ≡ length path = omega (arith, l, more) in rw (e, end) (leads.leads.leads k e)
        ]);
        earlier = λ j z lt here. (s.are_done z).0 (s.read k l j z lt (rw (stays k l) at here));
      };
      back = back;
      earlier = inside;
      again = end ∙ sym at ∙ sym (get_or_append_left nodes (x ∷ []) 0 back (omega (arith, inside, long)));
      once = λ i j lt l same. s.once i j lt l (sym (stays i (omega (arith, lt, l))) ∙ same ∙ stays j l);
      is = is ∙ sym (drop-append-le back nodes (x ∷ []) (omega (arith, inside, long)));
    }
