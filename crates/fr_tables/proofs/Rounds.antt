-- Nodes on loops, and walks that come back.
use Rattle.std.proofs.Common.{All, Contains, List, [], ap, arith, drop, eqb, false, get_or, inl, inr, length}
use Rattle.std.proofs.Common.{length-drop, length-set, length-take, refl}
use Rattle.std.proofs.Common.{set, subst, suc, sym, take, true, zero, ℕ, ⊎_elim, ◌++◌, ◌+◌, ◌<◌, ◌∙◌, ◌∷◌, ◌≡◌, ◌≤◌}
use Rattle.std.proofs.Common.{◌⊎◌}
use Rattle.std.specs.Cmp.{nat_eq_equiv}
use Rattle.std.specs.List.{IsDistinct}
use Rattle.std.proofs.lemmas.Bool.{cases_eq, cases_lt, eqb-true, false≢true}
use Rattle.std.proofs.lemmas.List.{get_or-drop, get_or-set_other, get_or-set_same, get_or-take, get_or_default}
use Rattle.std.proofs.lemmas.List.{get_or_past, length_push, take-append-drop}
use Rattle.std.proofs.lemmas.List.Elements.{Contains-append_cases, Contains-append_left, Contains-append_right}
use Rattle.std.proofs.lemmas.List.Elements.{Contains-get_or, Contains-push, Contains-push_cases}
use Rattle.std.proofs.lemmas.Map.Keys.{IsDistinct-push, apart_from_distinct}
use Rattle.std.proofs.lemmas.Map.Steps.{length-le_from_distinct_below}
use Rattle.std.proofs.lemmas.Map.Views.{Contains-from_any}
use Rattle.std.proofs.lemmas.Option.{slice_get_within}
use Rattle.fr_tables.specs.Faults.{IsLowestLoop}
use Rattle.fr_tables.specs.Inside.{IsTrail}
use Rattle.fr_tables.specs.Rounds.{AreDecided, AreMarkedAs, IsHeld, IsTraced, IsTracing, seen}
use Rattle.fr_tables.specs.Tables.{IsDownstream, IsLoop, IsLoopFree, IsOnLoop, IsWalk, SendsOn, end_of}
use Rattle.fr_tables.specs.declared.hop.Hop.{Hop}
use Rattle.fr_tables.specs.declared.hop.Hop.TheVariants.{To}
use Rattle.fr_tables.specs.declared.loops.Mark.{Mark}
use Rattle.fr_tables.specs.declared.loops.Mark.TheVariants.{OffLoop, OnLoop, OnWalk, Unmet}
use Rattle.fr_tables.proofs.Members.{Contains-cases, Contains-head, Contains-none, Contains-tail, cases_member, not_any}
use Rattle.fr_tables.proofs.Relations.{cycle_from, downstream_trans, end_append, here_downstream, trail_push}
use Rattle.fr_tables.proofs.Relations.{walk_append, walk_tail, walk_to}
use Rattle.fr_tables.proofs.Walks.{sends_one}

module _ (table : List Hop) where
  -- the next node of one on a loop is on the loop too, and leads back
  on_next : (x y : ℕ) → IsOnLoop table x → SendsOn table x y → IsOnLoop table y × IsDownstream table y x
  on_next x y (xs, is) sends = go xs is
    where
      go : (xs : List ℕ) → IsWalk table x (xs ++ x ∷ []) → IsOnLoop table y × IsDownstream table y x
      go [] goes =
          let same : x ≡ y = sends_one table x x y goes.0 sends in (
            subst (IsOnLoop table) same ([], goes),
            subst (λ (z : ℕ). IsDownstream table z x) same (here_downstream (SendsOn table) x),
          )
      go (z ∷ zs) goes =
          let same : z ≡ y = sends_one table x z y goes.0 sends in
          let ends = end_append z zs (x ∷ []) in
          let round : IsWalk table z ((zs ++ x ∷ []) ++ z ∷ []) =
          walk_append (SendsOn table) z (zs ++ x ∷ []) (z
          ∷ []) goes.1 (subst (λ (w : ℕ). IsWalk table w (z ∷ [])) (sym ends) (goes.0, tt)) in (
            subst (IsOnLoop table) same (zs ++ x ∷ [], round),
            subst (λ (w : ℕ). IsDownstream table w x) same (record { by = zs ++ x ∷ []; goes = goes.1; ends = ends }),
          )

  on_along : (x : ℕ) (ys : List ℕ) → IsOnLoop table x → IsWalk table x ys
      → IsOnLoop table (end_of x ys) × IsDownstream table (end_of x ys) x
  on_along x [] on goes = (on, here_downstream (SendsOn table) x)
  on_along x (y ∷ ys) on goes =
      let (next, back) = on_next x y on goes.0 in
      let (last, far) = on_along y ys next goes.1 in
      (last, downstream_trans (SendsOn table) (end_of y ys) y x far back)

  pub on_downstream : (x y : ℕ) → IsOnLoop table x → IsDownstream table x y → IsOnLoop table y × IsDownstream table y x
  on_downstream x y on down =
      subst (λ (z : ℕ). IsOnLoop table z × IsDownstream table z x) down.ends (on_along x down.by on down.goes)

  -- each node of a loop is on it
  pub member_on_loop : (nodes : List ℕ) (y : ℕ) → IsLoop table nodes → Contains nodes y → IsOnLoop table y
  member_on_loop [] y is found = absurd is
  member_on_loop (x ∷ xs) y is found = ⊎_elim
      (λ e. subst (IsOnLoop table) e (xs, is))
      (λ later.
      let (zs, goes) = walk_to (SendsOn table) x (xs ++ x ∷ []) y is (Contains-append_left xs (x ∷ []) y later) in
      (on_downstream x y (xs, is) (record { by = zs ++ y ∷ []; goes = goes; ends = end_append x zs (y ∷ []) })).0)
      (Contains-cases y x xs found)

  -- a node on a loop sends on
  pub on_sends : (x : ℕ) → IsOnLoop table x → (y : ℕ) × SendsOn table x y
  on_sends x (xs, is) = go xs is
    where
      go : (xs : List ℕ) → IsWalk table x (xs ++ x ∷ []) → (y : ℕ) × SendsOn table x y
      go [] goes = (x, goes.0)
      go (z ∷ zs) goes = (z, goes.0)

  -- what walks lead to stays within a set that next hops do not leave
  stays_in : (P : ℕ → Type 0) → ((a b : ℕ) → P a → SendsOn table a b → P b) → (x y : ℕ) → P x → IsDownstream table x y
      → P y
  stays_in P keeps x y inside down = subst P down.ends (go x down.by inside down.goes)
    where
      go : (x : ℕ) (ys : List ℕ) → P x → IsWalk table x ys → P (end_of x ys)
      go x [] inside goes = inside
      go x (y ∷ ys) inside goes = go y ys (keeps x y inside goes.0) goes.1

  -- each node of a trail leads to its last node, and sends on to one of the trail
  trail_leads : (xs : List ℕ) (y z : ℕ) → IsTrail table (xs ++ y ∷ []) → Contains xs z → IsDownstream table z y
  trail_leads [] y z trail found = absurd (Contains-none z found)
  trail_leads (x ∷ xs) y z trail found = ⊎_elim
      (λ e. subst (λ (w : ℕ). IsDownstream table w y) e (record {
        by = xs ++ y ∷ [];
        goes = trail;
        ends = end_append x xs (y ∷ []);
      }))
      (trail_leads xs y z (walk_tail (SendsOn table) x (xs ++ y ∷ []) trail))
      (Contains-cases z x xs found)

  trail_next : (xs : List ℕ) (y a b : ℕ) → IsTrail table (xs ++ y ∷ []) → Contains xs a → SendsOn table a b
      → Contains (xs ++ y ∷ []) b
  trail_next [] y a b trail found sends = absurd (Contains-none a found)
  trail_next (x ∷ xs) y a b trail found sends = ⊎_elim
      (λ e. first xs trail (subst (λ (w : ℕ). SendsOn table w b) (sym e) sends))
      (λ later. Contains-tail b x (xs ++ y
      ∷ []) (trail_next xs y a b (walk_tail (SendsOn table) x (xs ++ y ∷ []) trail) later sends))
      (Contains-cases a x xs found)
    where
      first : (xs : List ℕ) → IsWalk table x (xs ++ y ∷ []) → SendsOn table x b → Contains (x ∷ (xs ++ y ∷ [])) b
      first [] goes sends =
          Contains-tail b x (y
          ∷ []) (subst (Contains (y ∷ [])) (sends_one table x y b goes.0 sends) (Contains-head y []))
      first (z ∷ zs) goes sends = Contains-tail b x (z ∷ (zs ++ y ∷ []))
          (subst (Contains (z ∷ (zs ++ y ∷ []))) (sends_one table x z b goes.0 sends) (Contains-head z (zs ++ y ∷ [])))

  trail_drop : (xs : List ℕ) (k y : ℕ) → IsTrail table (xs ++ y ∷ []) → IsTrail table (drop k xs ++ y ∷ [])
  trail_drop xs zero y trail = trail
  trail_drop [] (suc k) y trail = trail
  trail_drop (x ∷ xs) (suc k) y trail = trail_drop xs k y (walk_tail (SendsOn table) x (xs ++ y ∷ []) trail)

cases_unmet : (mark : Mark) → (mark ≡ Unmet) ⊎ ¬ (mark ≡ Unmet)
cases_unmet Unmet = inl refl
cases_unmet OnWalk = inr (λ e. cc)
cases_unmet OnLoop = inr (λ e. cc)
cases_unmet OffLoop = inr (λ e. cc)

-- a marked node is in the table
marked_low : (marks : List Mark) (x : ℕ) → seen marks x ≡ OnWalk → x < length marks
marked_low marks x is = elim (cases_lt x (length marks)) [
  | inl low ↦ low
  | inr out ↦ let e : Unmet ≡ OnWalk = sym (get_or_past marks x Unmet out) ∙ is in cc
]

module _ (table : List Hop) (before marks : List Mark) (walk : List ℕ) (held : IsHeld table before marks walk) where
  held_inside : All (λ (x : ℕ). x < length table) walk
  held_inside k d low =
      omega (
        arith,
        marked_low marks (get_or walk k d) ((held.these (get_or walk k d)).0 (Contains-get_or walk k d low)),
        held.one_each,
      )

  -- a node with another mark was met before the walk
  pub met_before : (x : ℕ) → (seen marks x ≡ OnLoop) ⊎ (seen marks x ≡ OffLoop) → ¬ (seen before x ≡ Unmet)
  met_before x is unmet = ⊎_elim
      (λ found. ⊎_elim
      (λ on. let e : OnWalk ≡ OnLoop = sym ((held.these x).0 found) ∙ on in cc)
      (λ off. let e : OnWalk ≡ OffLoop = sym ((held.these x).0 found) ∙ off in cc)
      is)
      (λ out. let same = held.others x out ∙ unmet in ⊎_elim
      (λ on. let e : OnLoop ≡ Unmet = sym on ∙ same in cc)
      (λ off. let e : OffLoop ≡ Unmet = sym off ∙ same in cc)
      is)
      (cases_member walk x)

  -- a node that was not met goes onto the walk
  module _ (x : ℕ) (low : x < length table) (unmet : seen marks x ≡ Unmet) where
    on_here : seen (set marks x OnWalk) x ≡ OnWalk
    on_here = get_or-set_same marks x OnWalk Unmet (omega (arith, low, held.one_each))

    there : (y : ℕ) → ¬ (y ≡ x) → seen (set marks x OnWalk) y ≡ seen marks y
    there y apart = get_or-set_other marks x y OnWalk Unmet apart

    out : ¬ Contains walk x
    out found = let e : OnWalk ≡ Unmet = sym ((held.these x).0 found) ∙ unmet in cc

    pub held_push : IsHeld table before (set marks x OnWalk) (walk ++ x ∷ [])
    held_push = record {
      one_each = length-set marks x OnWalk ∙ held.one_each;
      these = λ y. (
        λ found. ⊎_elim
            (λ was. there y (λ e. out (subst (Contains walk) e was)) ∙ (held.these y).0 was)
            (λ e. subst (λ (z : ℕ). seen (set marks x OnWalk) z ≡ OnWalk) e on_here)
            (Contains-push_cases walk x y found),
        λ on. ⊎_elim
            (λ e. subst (Contains (walk ++ x ∷ [])) (sym e) (Contains-push walk x))
            (λ apart. Contains-append_left walk (x ∷ []) y ((held.these y).1 (sym (there y apart) ∙ on)))
            (cases_eq y x),
      );
      fresh = λ y found. ⊎_elim
          (held.fresh y)
          (λ e. subst (λ (z : ℕ). seen before z ≡ Unmet) e (sym (held.others x out) ∙ unmet))
          (Contains-push_cases walk x y found);
      others = λ y not.
          there y (λ e. not (subst (Contains (walk ++ x ∷ [])) (sym e) (Contains-push walk x)))
          ∙ held.others y (λ found. not (Contains-append_left walk (x ∷ []) y found));
      once = IsDistinct-push {eq = eqb} nat_eq_equiv walk x held.once (not_any x walk out);
    }

    pub pushed_short : length walk + 1 ≤ length table
    pushed_short = omega (
      arith,
      length_push walk x,
      length-le_from_distinct_below (walk ++ x ∷ []) (length table) held_push.once (λ q any.
          omega (
            arith,
            marked_low (set marks x OnWalk) q ((held_push.these q).0 (Contains-from_any {eq = eqb} eqb-true q (walk
                ++ x ∷ []) any)),
            held_push.one_each,
          )),
    )

-- the first node of a walk
first_is : (walk : List ℕ) (at x : ℕ) (rest : List ℕ) → walk ++ at ∷ [] ≡ x ∷ rest
    → ((walk ≡ []) × (at ≡ x)) ⊎ ((more : List ℕ) × (walk ≡ x ∷ more))
first_is [] at x rest is = inl (refl, ap (λ (ws : List ℕ). get_or ws 0 0) is)
first_is (w ∷ ws) at x rest is = inr (ws, ap (λ (v : ℕ). v ∷ ws) (ap (λ (vs : List ℕ). get_or vs 0 0) is))

pub tracing_none : (table : List Hop) (marks : List Mark) (x : ℕ) → AreDecided table marks → x < length table
    → IsTracing table marks marks [] x x
unfolding IsDistinct
tracing_none table marks x decided low = record {
  held = record {
    one_each = decided.one_each;
    these = λ y. (λ found. absurd (Contains-none y found), λ on. absurd (decided.idle y on));
    fresh = λ y found. absurd (Contains-none y found);
    others = λ y out. refl;
    once = tt;
  };
  low = low;
  trail = tt;
  begins = ([], refl);
}

module _ (table : List Hop) (before marks : List Mark) (walk : List ℕ) (x at : ℕ)
    (tracing : IsTracing table before marks walk x at)
    (decided : AreDecided table before) where
  pub tracing_push : (next : ℕ) → seen marks at ≡ Unmet → SendsOn table at next
      → IsTracing table before (set marks at OnWalk) (walk ++ at ∷ []) x next
  tracing_push next unmet sends = record {
    held = held_push table before marks walk tracing.held at tracing.low unmet;
    low = decided.range at next sends;
    trail = trail_push (SendsOn table) walk at next tracing.trail sends;
    begins = let (rest, is) = tracing.begins in (rest ++ next ∷ [], ap (λ (ws : List ℕ). ws ++ next ∷ []) is);
  }

  -- the walk has come to a node that was met before it
  pub traced_met : ¬ (seen before at ≡ Unmet) → IsTraced table before marks walk x (length walk)
  traced_met met = record {
    one_each = tracing.held.one_each ∙ sym decided.one_each;
    within = omega arith;
    inside = held_inside table before marks walk tracing.held;
    once = tracing.held.once;
    others = tracing.held.others;
    closed = λ y z found sends. ⊎_elim
        (λ was. inl was)
        (λ e. inr (subst (λ (w : ℕ). ¬ (seen before w ≡ Unmet)) e met))
        (Contains-push_cases walk at z (trail_next table walk at y z tracing.trail found sends));
    off = λ i low on.
        let y : ℕ = get_or walk i 0 in
        let found = Contains-get_or walk i 0 low in
        let back = (on_downstream table y at on (trail_leads table walk at y tracing.trail found)).1 in
        stays_in table (λ (w : ℕ). ¬ (seen before w ≡ Unmet)) decided.closed at y met back (tracing.held.fresh y found);
    on = λ low. absurd (omega (arith, low));
    begins = λ unmet. ⊎_elim
        (λ none. absurd (met (subst (λ (w : ℕ). seen before w ≡ Unmet) (sym none.1) unmet)))
        (λ rest. rest)
        (first_is walk at x tracing.begins.0 tracing.begins.1);
  }

  -- the walk has come to its end
  pub traced_end : seen marks at ≡ Unmet → ((y : ℕ) → ¬ SendsOn table at y)
      → IsTraced table before (set marks at OnWalk) (walk ++ at ∷ []) x (length (walk ++ at ∷ []))
  traced_end unmet ends =
      let held = held_push table before marks walk tracing.held at tracing.low unmet in
      record {
        one_each = held.one_each ∙ sym decided.one_each;
        within = omega arith;
        inside = held_inside table before (set marks at OnWalk) (walk ++ at ∷ []) held;
        once = held.once;
        others = held.others;
        closed = λ y z found sends. ⊎_elim
            (λ was. inl (trail_next table walk at y z tracing.trail was sends))
            (λ e. absurd (ends z (subst (λ (w : ℕ). SendsOn table w z) (sym e) sends)))
            (Contains-push_cases walk at y found);
        off = λ i low on.
            let y : ℕ = get_or (walk ++ at ∷ []) i 0 in
            let leads : IsDownstream table y at = ⊎_elim
            (trail_leads table walk at y tracing.trail)
            (λ e. subst (λ (w : ℕ). IsDownstream table w at) e (here_downstream (SendsOn table) at))
            (Contains-push_cases walk at y (Contains-get_or (walk ++ at ∷ []) i 0 low)) in
            let (z, sends) = on_sends table at (on_downstream table y at on leads).0 in
            ends z sends;
        on = λ low. absurd (omega (arith, low));
        begins = λ _. tracing.begins;
      }

  -- the walk has come back
  pub traced_back : (k : ℕ) → k < length walk → get_or walk k 0 ≡ at → IsTraced table before marks walk x k
  traced_back k low is = record {
    one_each = tracing.held.one_each ∙ sym decided.one_each;
    within = omega (arith, low);
    inside = held_inside table before marks walk tracing.held;
    once = tracing.held.once;
    others = tracing.held.others;
    closed = λ y z found sends. inl (⊎_elim
        (λ was. was)
        (λ e. subst (Contains walk) e inside)
        (Contains-push_cases walk at z (trail_next table walk at y z tracing.trail found sends)));
    off = λ i before_k on.
        let y : ℕ = get_or walk i 0 in
        let found = Contains-get_or walk i 0 (omega (arith, before_k, low)) in
        let back = (on_downstream table y at on (trail_leads table walk at y tracing.trail found)).1 in
        let (j, in_part, there) = stays_in table (Contains (drop k walk)) part_closed at y part_head back in
        let at_j : get_or walk (k + j) 0 ≡ y =
        sym (get_or-drop k walk j 0) ∙ (get_or_default (drop k walk) j 0 y in_part ∙ there) in
        let apart : eqb y (get_or walk (k + j) 0) ≡ false =
        apart_from_distinct eqb walk i (k + j) 0 tracing.held.once (omega (arith, before_k)) (omega (
          arith,
          in_part,
          length-drop k walk,
        )) in
        false≢true (sym apart ∙ subst (λ (w : ℕ). eqb y w ≡ true) (sym at_j) (nat_eq_equiv.refl y));
    on = λ _. cycle_from (SendsOn table) walk k at low is tracing.trail;
    begins = λ _. ⊎_elim
        (λ none. absurd (omega (arith, low, ap length none.0)))
        (λ rest. rest)
        (first_is walk at x tracing.begins.0 tracing.begins.1);
  }
    where
      inside : Contains walk at
      inside = (k, low, get_or_default walk k at 0 low ∙ is)

      part_head : Contains (drop k walk) at
      part_head =
          let e : k + 0 ≡ k = omega arith in (
            0,
            omega (arith, low, length-drop k walk),
            get_or-drop k walk 0 at ∙ (ap (λ (i : ℕ). get_or walk i at) e ∙ (get_or_default walk k at 0 low ∙ is)),
          )

      part_closed : (a b : ℕ) → Contains (drop k walk) a → SendsOn table a b → Contains (drop k walk) b
      part_closed a b found sends = ⊎_elim
          (λ was. was)
          (λ e. subst (Contains (drop k walk)) e part_head)
          (Contains-push_cases (drop k walk) at b
          (trail_next table (drop k walk) at a b (trail_drop table walk k at tracing.trail) found sends))

-- one more node is marked
pub marked_more : (mark : Mark) (nodes : List ℕ) (before after : List Mark) (x : ℕ) → x < length after
    → AreMarkedAs mark nodes before after
    → AreMarkedAs mark (nodes ++ x ∷ []) before (set after x mark)
marked_more mark nodes before after x low are = record {
  one_each = length-set after x mark ∙ are.one_each;
  these = λ y found. ⊎_elim
      (λ e. subst (λ (z : ℕ). seen (set after x mark) z ≡ mark) (sym e) (get_or-set_same after x mark Unmet low))
      (λ apart. ⊎_elim
      (λ was. get_or-set_other after x y mark Unmet apart ∙ are.these y was)
      (λ e. absurd (apart (sym e)))
      (Contains-push_cases nodes x y found))
      (cases_eq y x);
  others = λ y out.
      let apart : ¬ (y ≡ x) = λ e. out (subst (Contains (nodes ++ x ∷ [])) (sym e) (Contains-push nodes x)) in
      get_or-set_other after x y mark Unmet apart
      ∙ are.others y (λ was. out (Contains-append_left nodes (x ∷ []) y was));
}

-- all nodes of a traced walk get their marks
module _ (table : List Hop) (before after some all : List Mark) (walk : List ℕ) (x start : ℕ)
    (decided : AreDecided table before)
    (traced : IsTraced table before after walk x start) (first : AreMarkedAs OffLoop (take start walk) after some)
    (rest : AreMarkedAs OnLoop (drop start walk) some all) where
  -- a node of the part on a loop, one of the part before it, or any other
  cases_mark : (y : ℕ) → (Contains (drop start walk) y × (seen all y ≡ OnLoop))
      ⊎ ((Contains (take start walk) y × (seen all y ≡ OffLoop)) ⊎ (¬ Contains walk y × (seen all y ≡ seen before y)))
  cases_mark y = ⊎_elim
      (λ found. inl (found, rest.these y found))
      (λ not_on. ⊎_elim
      (λ found. inr (inl (found, rest.others y not_on ∙ first.these y found)))
      (λ not_off.
      let out : ¬ Contains walk y = λ found. ⊎_elim not_off not_on
      (Contains-append_cases (take start walk) (drop start walk) y
      (subst (λ (ws : List ℕ). Contains ws y) (sym (take-append-drop start walk)) found)) in
      inr (inr (out, rest.others y not_on ∙ (first.others y not_off ∙ traced.others y out))))
      (cases_member (take start walk) y))
      (cases_member (drop start walk) y)

  met_stays : (y : ℕ) → Contains walk y ⊎ ¬ (seen before y ≡ Unmet) → ¬ (seen all y ≡ Unmet)
  met_stays y met unmet = elim (cases_mark y) [
    | inl on ↦ let e : OnLoop ≡ Unmet = sym on.1 ∙ unmet in cc
    | inr (inl off) ↦ let e : OffLoop ≡ Unmet = sym off.1 ∙ unmet in cc
    | inr (inr other) ↦ ⊎_elim other.0 (λ was. was (sym other.1 ∙ unmet)) met
  ]

  pub decided_more : AreDecided table all
  decided_more = record {
    one_each = rest.one_each ∙ (first.one_each ∙ (traced.one_each ∙ decided.one_each));
    range = decided.range;
    idle = λ y idle. elim (cases_mark y) [
      | inl on ↦ let e : OnLoop ≡ OnWalk = sym on.1 ∙ idle in cc
      | inr (inl off) ↦ let e : OffLoop ≡ OnWalk = sym off.1 ∙ idle in cc
      | inr (inr other) ↦ decided.idle y (sym other.1 ∙ idle)
    ];
    on = λ y is. elim (cases_mark y) [
      | inl on ↦
          let some : start < length walk = let (i, low, _) = on.0 in omega (arith, low, length-drop start walk) in
          member_on_loop table (drop start walk) y (traced.on some) on.0
      | inr (inl off) ↦ let e : OffLoop ≡ OnLoop = sym off.1 ∙ is in cc
      | inr (inr other) ↦ decided.on y (sym other.1 ∙ is)
    ];
    off = λ y is. elim (cases_mark y) [
      | inl on ↦ let e : OnLoop ≡ OffLoop = sym on.1 ∙ is in cc
      | inr (inl off) ↦ taken y off.0
      | inr (inr other) ↦ decided.off y (sym other.1 ∙ is)
    ];
    closed = λ y z met sends. elim (cases_mark y) [
      | inl on ↦ met_stays z (traced.closed y z (within_drop y on.0) sends)
      | inr (inl off) ↦ met_stays z (traced.closed y z (within_take y off.0) sends)
      | inr (inr other) ↦ met_stays z (inr (decided.closed y z (λ unmet. met (other.1 ∙ unmet)) sends))
    ];
  }
    where
      within_drop : (y : ℕ) → Contains (drop start walk) y → Contains walk y
      within_drop y found = subst (λ (ws : List ℕ). Contains ws y) (take-append-drop start walk)
          (Contains-append_right (take start walk) (drop start walk) y found)

      within_take : (y : ℕ) → Contains (take start walk) y → Contains walk y
      within_take y found = subst (λ (ws : List ℕ). Contains ws y) (take-append-drop start walk)
          (Contains-append_left (take start walk) (drop start walk) y found)

      taken : (y : ℕ) → Contains (take start walk) y → ¬ IsOnLoop table y
      taken y (i, low, is) =
          let lt : i < start = omega (arith, low, length-take start walk) in
          let at : get_or walk i 0 ≡ y =
          sym (get_or-take start walk i 0 lt) ∙ (get_or_default (take start walk) i 0 y low ∙ is) in
          subst (λ (z : ℕ). ¬ IsOnLoop table z) at (traced.off i lt)

  pub met_more : ¬ (seen all x ≡ Unmet)
  met_more = ⊎_elim
      (λ unmet. let (more, is) = traced.begins unmet in met_stays x (inl (rw is (Contains-head x more))))
      (λ met. met_stays x (inr met))
      (cases_unmet (seen before x))

-- a node that was decided and is not on a loop
pub off_loop : (table : List Hop) (marks : List Mark) (x : ℕ) → AreDecided table marks → ¬ (seen marks x ≡ Unmet)
    → ¬ (seen marks x ≡ OnLoop)
    → ¬ IsOnLoop table x
off_loop table marks x decided met not = by_mark (seen marks x) refl
  where
    by_mark : (mark : Mark) → seen marks x ≡ mark → ¬ IsOnLoop table x
    by_mark Unmet is = absurd (met is)
    by_mark OnWalk is = absurd (decided.idle x is)
    by_mark OnLoop is = absurd (not is)
    by_mark OffLoop is = decided.off x is

-- if no node is on a loop, there is none
pub free_from_none : (table : List Hop) → ((x : ℕ) → x < length table → ¬ IsOnLoop table x) → IsLoopFree table
free_from_none table none [] is = is
free_from_none table none (x ∷ xs) is =
    let (y, sends) = on_sends table x (xs, is) in
    none x (slice_get_within table x (To y) sends) (xs, is)

-- the walk from the lowest node on a loop goes round its loop
pub lowest_loop : (table : List Hop) (before after : List Mark) (walk : List ℕ) (x start : ℕ)
    → IsTraced table before after walk x start
    → seen before x ≡ Unmet → IsOnLoop table x → ((y : ℕ) → IsOnLoop table y → x ≤ y) → IsLowestLoop table walk
lowest_loop table before after walk x start traced unmet on lowest =
    let (more, is) = traced.begins unmet in
    let head : get_or walk 0 0 ≡ x = ap (λ (ws : List ℕ). get_or ws 0 0) is in
    let long : 0 < length walk = omega (arith, ap length is) in
    let none : start ≡ 0 = elim (cases_lt 0 start) [
      | inl some ↦ absurd (traced.off 0 some (subst (IsOnLoop table) (sym head) on))
      | inr ge ↦ omega (arith, ge)
    ] in
    record {
      is_loop = subst (λ (k : ℕ). IsLoop table (drop k walk)) none (traced.on (omega (arith, none, long)));
      once = traced.once;
      lowest = λ y on_y. omega (arith, head, lowest y on_y);
    }
