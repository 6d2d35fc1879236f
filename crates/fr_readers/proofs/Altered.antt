-- The first ways after a change. Only some nodes have other ways than before.
use Rattle.std.proofs.Common.{All, Bool, Contains, List, [], ap, arith, false}
use Rattle.std.proofs.Common.{get_or, inl, inr, length, length-append, map, refl, set, subst, sym, take, true, ℕ}
use Rattle.std.proofs.Common.{⊎_elim, ◌++◌, ◌+◌, ◌<◌, ◌≤◌, ◌∙◌, ◌∷◌, ◌≡◌, ◌⊎◌}
use Rattle.std.specs.List.{filter}
use Rattle.std.specs.List.Sorted.{IsNonDecreasing, IsPermutation}
use Rattle.std.specs.Prelude.{bytes_eq, not, ◌&&◌}
use Rattle.std.proofs.lemmas.Bool.{cases_Bool, cases_eq}
use Rattle.std.proofs.lemmas.List.{get_or-set_other}
use Rattle.std.proofs.lemmas.List.Elements.{Contains-append_cases, Contains-append_left, Contains-append_right}
use Rattle.std.proofs.lemmas.List.Elements.{Contains-get_or}
use Rattle.std.proofs.lemmas.List.FromFn.{get_or-range_with_len, length-range_with_len}
use Rattle.std.proofs.lemmas.List.Sorted.{Contains-permutation, IsPermutation-sym}
use Rattle.std.proofs.lemmas.List.Sums.{count_by-le-length, length-filter}
use lib.Pointwise.{bytes_decides}
use Rattle.fr_graph.specs.Limits.{most_nodes}
use Rattle.fr_graph.proofs.Lists.{into_filter}
use Rattle.fr_nearest.proofs.Walking.{one_list}
use Rattle.fr_route.specs.NodeWays.{AreNodeWays}
use Rattle.fr_route.specs.States.{State}
use Rattle.fr_ways.specs.Phases.{empties, growing_nodes, grows, is_empty, kept, loses, nodes_of, sheds}
use Rattle.fr_ways.specs.Phases.{shrinking_nodes, shrunk}
use Rattle.fr_ways.specs.Ways.{ways}
use Rattle.fr_ways.proofs.Shrinking.{filter_from, shrunk_other}
use Rattle.fr_shared.specs.WayTables.{ListsChanges}
use Rattle.fr_readers.specs.Published.{HasFirstWays, WayPushes}
use Rattle.fr_readers.specs.Publishing.{AlterWays}

-- The nodes of the pushes

pushed_nodes : (list_of : ℕ → List ℕ) (xs : List ℕ)
    → map (λ (p : ℕ × List ℕ). p.0) (map (λ (x : ℕ). (x, list_of x)) xs) ≡ xs
pushed_nodes list_of [] = refl
pushed_nodes list_of (x ∷ xs) = ap (λ (ys : List ℕ). x ∷ ys) (pushed_nodes list_of xs)

-- no element passes both tests
two_parts : (p q : ℕ → Bool) → ((x : ℕ) → p x ≡ true → q x ≡ false) → (xs : List ℕ)
    → length (filter p xs) + length (filter q xs) ≤ length xs
two_parts p q apart [] = omega arith
two_parts p q apart (x ∷ xs) =
    let rest = two_parts p q apart xs in
    elim (cases_Bool (p x)) [
      | inl t ↦ rw (t, apart x t) (omega (arith, rest))
      | inr f ↦ elim (cases_Bool (q x)) [
        | inl t ↦ rw (f, t) (omega (arith, rest))
        | inr g ↦ rw (f, g) (omega (arith, rest))
      ]
    ]

sheds_not : (lost none : Bool) → (lost && not none) ≡ true → (lost && none) ≡ false
sheds_not true true t = sym t
sheds_not true false t = refl
sheds_not false none t = refl

none_more : (x : ℕ) → 0 + x ≡ x
none_more x = omega arith

module _ (old new : List (List ℕ)) where
  in_range : (p : ℕ → Bool) (x : ℕ) → x < length new → p x ≡ true → Contains (filter p (nodes_of new)) x
  in_range p x low t = into_filter p (nodes_of new) x (
    x,
    omega (arith, low, length-range_with_len 0 (length new)),
    get_or-range_with_len 0 (length new) x x low ∙ none_more x,
  ) t

  below : (p : ℕ → Bool) (x : ℕ) → Contains (filter p (nodes_of new)) x → x < length new
  below p x found =
      let (k, low, is) = (filter_from p (nodes_of new) x found).0 in
      let inside : k < length new = omega (arith, low, length-range_with_len 0 (length new)) in
      omega (arith, inside, get_or-range_with_len 0 (length new) k x inside, is)

  few_of : (p : ℕ → Bool) → length (filter p (nodes_of new)) ≤ length new
  few_of p = omega (
    arith,
    length-filter p (nodes_of new),
    count_by-le-length p (nodes_of new),
    length-range_with_len 0 (length new),
  )

  shrinking_low : (x : ℕ) → Contains (shrinking_nodes old new) x → x < length new
  shrinking_low x found = ⊎_elim (below (sheds old new) x) (below (empties old new) x)
      (Contains-append_cases (filter (sheds old new) (nodes_of new)) (filter (empties old new) (nodes_of new)) x found)

  shrinking_few : length (shrinking_nodes old new) ≤ length new
  shrinking_few = omega (
    arith,
    length-append (filter (sheds old new) (nodes_of new)) (filter (empties old new) (nodes_of new)),
    two_parts (sheds old new) (empties old new) (λ x t. sheds_not (loses old new x) (is_empty (kept old new x)) t)
        (nodes_of new),
    length-range_with_len 0 (length new),
  )

  loser_shrinks : (x : ℕ) → x < length new → loses old new x ≡ true → Contains (shrinking_nodes old new) x
  loser_shrinks x low t =
      let first : List ℕ = filter (sheds old new) (nodes_of new) in
      let last : List ℕ = filter (empties old new) (nodes_of new) in
      elim (cases_Bool (is_empty (kept old new x))) [
        | inl none ↦ Contains-append_right first last x (in_range (empties old new) x low
            (ap (λ (b : Bool). b && is_empty (kept old new x)) t ∙ none))
        | inr some ↦ Contains-append_left first last x (in_range (sheds old new) x low
            (ap (λ (b : Bool). b && not (is_empty (kept old new x))) t ∙ ap not some))
      ]

  -- a node that neither shrinks nor grows keeps its ways
  neither : (x : ℕ) → x < length new
      → Contains (shrinking_nodes old new ++ growing_nodes old new) x ⊎ (ways old x ≡ ways new x)
  neither x low = elim (cases_Bool (loses old new x)) [
    | inl t ↦ inl (Contains-append_left (shrinking_nodes old new) (growing_nodes old new) x (loser_shrinks x low t))
    | inr f ↦ elim (cases_Bool (bytes_eq (shrunk old new x) (ways new x))) [
      | inl same ↦ inr (sym (shrunk_other old new x f) ∙ (bytes_decides (shrunk old new x) (ways new x)).0 same)
      | inr apart ↦ inl (Contains-append_right (shrinking_nodes old new) (growing_nodes old new) x
          (in_range (grows old new) x low (ap not apart)))
    ]
  ]

-- the nodes of these pushes
abbrev pub altered : WayPushes → List ℕ
altered p = map (λ (q : ℕ × List ℕ). q.0) p.shrink ++ map (λ (q : ℕ × List ℕ). q.0) p.grow

module _ (table : List (List ℕ)) (s : State) (p : WayPushes) (alter : AlterWays table s p) where
  abbrev before : List (List ℕ)
  before = alter.changes.before

  abbrev after : List (List ℕ)
  after = alter.changes.after

  shrink_nodes : map (λ (q : ℕ × List ℕ). q.0) p.shrink ≡ shrinking_nodes before after
  shrink_nodes = ap (map (λ (q : ℕ × List ℕ). q.0)) alter.changes.shrinks
      ∙ pushed_nodes (kept before after) (shrinking_nodes before after)

  grow_nodes : map (λ (q : ℕ × List ℕ). q.0) p.grow ≡ growing_nodes before after
  grow_nodes = ap (map (λ (q : ℕ × List ℕ). q.0)) alter.changes.grows
      ∙ pushed_nodes (ways after) (growing_nodes before after)

  altered_are : altered p ≡ shrinking_nodes before after ++ growing_nodes before after
  altered_are = λ i. shrink_nodes i ++ grow_nodes i

  -- there is room for them
  pub altered_few : s.nodes ≤ most_nodes → length (map (λ (q : ℕ × List ℕ). q.0) p.shrink)
      + length (map (λ (q : ℕ × List ℕ). q.0) p.grow) ≤ most_nodes + most_nodes
  altered_few few = omega (
    arith,
    few,
    ap length shrink_nodes,
    ap length grow_nodes,
    shrinking_few before after,
    few_of before after (grows before after),
    alter.changes.are.one_each,
  )

  altered_low : (x : ℕ) → Contains (altered p) x → x < s.nodes
  altered_low x found =
      let listed = subst (λ (xs : List ℕ). Contains xs x) altered_are found in
      let low : x < length after = ⊎_elim (shrinking_low before after x) (below before after (grows before after) x)
      (Contains-append_cases (shrinking_nodes before after) (growing_nodes before after) x listed) in
      omega (arith, low, alter.changes.are.one_each)

  module _ (nodes : List ℕ) (these : IsPermutation (altered p) nodes) where
    listed_low : (x : ℕ) → Contains nodes x → x < s.nodes
    listed_low x found =
        altered_low x (Contains-permutation nodes (altered p) x (IsPermutation-sym (altered p) nodes these) found)

    -- the listed nodes are nodes
    pub all_low : All (λ (x : ℕ). x < s.nodes) nodes
    all_low i d low = listed_low (get_or nodes i d) (Contains-get_or nodes i d low)

    -- a node that is not listed has kept its ways
    unlisted : (x : ℕ) → x < s.nodes → Contains nodes x ⊎ (ways before x ≡ ways after x)
    unlisted x low = ⊎_elim
        (λ found. inl (Contains-permutation (altered p) nodes x these
        (subst (λ (xs : List ℕ). Contains xs x) (sym altered_are) found)))
        (λ same. inr same)
        (neither before after x (omega (arith, low, alter.changes.are.one_each)))

    module _ (wanted : List (List ℕ)) (long : length wanted ≡ most_nodes) (listed : (x : ℕ) → Contains nodes x
        → (list : List ℕ) × AreNodeWays s x list × (ways wanted x ≡ take 5 list))
        (others : (x : ℕ) → Contains nodes x ⊎ (ways wanted x ≡ ways table x)) where
      pub altered_first : HasFirstWays s wanted
      altered_first = record {
        one_each = long;
        each = λ x low. ⊎_elim
            (λ found. listed x found)
            (λ same. ⊎_elim
            (λ found. listed x found)
            (λ left.
            let lower : x < alter.before.nodes = omega (arith, low, alter.nodes) in
            let (list, were, is) = alter.had.each x lower in (
              ways after x,
              alter.changes.are.each x low,
              left ∙ (is ∙ ap (λ (l : List ℕ). take 5 l)
                  (one_list alter.before.links alter.before.dest x list (ways before x) were
                  (alter.changes.were.each x lower) ∙ same)),
            ))
            (others x))
            (unlisted x low);
        others = λ x high. ⊎_elim
            (λ found. absurd (omega (arith, high, listed_low x found)))
            (λ left. left ∙ alter.had.others x (omega (arith, high, alter.nodes)))
            (others x);
      }

      -- so these nodes are all whose first ways differ
      pub altered_listed : IsNonDecreasing nodes → s.nodes ≤ most_nodes → ListsChanges nodes table wanted
      altered_listed sorted few = record {
        by_number = sorted;
        in_table = λ i d low. omega (arith, all_low i d low, few, long);
        others = λ x. ⊎_elim (λ found. inl found) (λ left. inr (sym left)) (others x);
      }

-- one more listed node gets other ways, and the others keep theirs
pub set_others : (nodes : List ℕ) (i : ℕ) (old table : List (List ℕ)) (ys : List ℕ)
    → ((y : ℕ) → ((k : ℕ) × (k < i) × (get_or nodes k 0 ≡ y)) ⊎ (ways table y ≡ ways old y)) → (y : ℕ)
    → ((k : ℕ) × (k < i + 1) × (get_or nodes k 0 ≡ y)) ⊎ (ways (set table (get_or nodes i 0) ys) y ≡ ways old y)
set_others nodes i old table ys others y = ⊎_elim
    (λ e. inl (i, omega arith, sym e))
    (λ apart. ⊎_elim
    (λ found. inl (found.0, omega (arith, found.1), found.2))
    (λ same. inr (get_or-set_other table (get_or nodes i 0) y ys [] apart ∙ same))
    (others y))
    (cases_eq y (get_or nodes i 0))
