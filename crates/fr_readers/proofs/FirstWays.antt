-- The first ways of a session as a table, and when it is unchanged.
use Rattle.std.proofs.Common.{All, Contains, IfSome, List, None, Option, Some, [], ap, append-nil, arith, drop, inl}
use Rattle.std.proofs.Common.{inr, length, map, refl}
use Rattle.std.proofs.Common.{set, subst, sym, take, ℕ, ⊎_elim, ◌++◌, ◌+◌, ◌<◌, ◌≤◌, ◌∙◌, ◌∷◌, ◌≡◌, Bool, false}
use Rattle.std.proofs.Common.{cond}
use Rattle.std.specs.List.{filter, range_with_len}
use Rattle.std.specs.Prelude.{not, ◌&&◌}
use Rattle.std.proofs.lemmas.Bool.{cases_Bool, cases_eq, cases_lt, false≢true}
use Rattle.std.proofs.lemmas.List.{ext_get_or, get_or-set_other, get_or-set_same, length-take, take-append-drop}
use Rattle.std.proofs.lemmas.List.Elements.{Contains-append_left, Contains-get_or}
use Rattle.fr_graph.specs.Limits.{most_nodes}
use Rattle.fr_graph.specs.Links.{IsAcyclic, IsNet, IsPath, Points, end_of}
use Rattle.fr_nearest.proofs.Walking.{one_list}
use Rattle.fr_route.proofs.RoundEnds.{round_net}
use Rattle.fr_route.specs.NodeWays.{AreNodeWays}
use Rattle.fr_route.specs.States.{State}
use Rattle.fr_tables.proofs.Members.{Contains-none}
use Rattle.fr_tables.specs.Walks.{IsCycleFree, IsWalk}
use Rattle.fr_ways.specs.Phases.{empties, grows, is_empty, is_way, kept, loses, sheds, shrunk}
use Rattle.fr_ways.specs.Ways.{Sends, ways}
use Rattle.fr_ways.proofs.Parts.{part_free}
use Rattle.fr_ways.proofs.Planning.{differs_no}
use Rattle.fr_ways.proofs.Shrinking.{any_true, shrunk_other, way_yes}
use Rattle.fr_shared.specs.WayTables.{IsTable, WayKnowledge, last_ways, pushes_of, way_codec}
use Rattle.fr_shared.specs.Histories.{blank, push}
use Rattle.fr_shared.specs.declared.view.Push.{Push}
use Rattle.fr_shared.proofs.WayTables.{blank_is_table, blank_ways}
use Rattle.fr_readers.specs.Published.{AreFirstWays, HasFirstWays, HasWaysOf}
use Rattle.fr_readers.specs.Publishing.{IsSettled, IsSettledSession, PublishesWays, PublishesWaysIn}

-- The ways of a settled network

-- along acyclic links there is no cycle of ways
module _ (links : List (ℕ × ℕ)) where
  walk_path : (x : ℕ) (ys : List ℕ) → IsWalk (Points links) x ys → IsPath links x ys
  walk_path x [] goes = tt
  walk_path x (y ∷ ys) goes = (goes.0, walk_path y ys goes.1)

  end_there : (x : ℕ) (ys : List ℕ) (z : ℕ) → end_of x (ys ++ z ∷ []) ≡ z
  end_there x [] z = refl
  end_there x (y ∷ ys) z = end_there y ys z

  acyclic_free : IsAcyclic links → IsCycleFree (Points links)
  acyclic_free acyclic [] is = is
  acyclic_free acyclic (x ∷ []) is = acyclic x (x ∷ []) (walk_path x (x ∷ []) is, refl)
  acyclic_free acyclic (x ∷ y ∷ ys) is =
      acyclic x (y ∷ (ys ++ x ∷ [])) (walk_path x (y ∷ (ys ++ x ∷ [])) is, end_there y ys x)

module _ (s : State) (settled : IsSettled s) where
  net : IsNet s.nodes s.links
  net = let after = settled.after in round_net s.nodes s.dest after.first s after.is_net after.dest after.round

  way_low : (x z : ℕ) (list : List ℕ) → AreNodeWays s x list → Contains list z → z < most_nodes
  way_low x z list are found =
      let (k, inside, is) = ((are.just z).0 found).link in
      let low = net.in_range k (x, z) inside in
      let below : z < s.nodes = subst (λ (l : ℕ × ℕ). l.1 < s.nodes) is low.1 in
      omega (arith, below, settled.few)

  pub ways_low : (x : ℕ) (list : List ℕ) → AreNodeWays s x list → All (λ (y : ℕ). y < 4096) list
  ways_low x list are k d low = way_low x _ list are (Contains-get_or list k d low)

  module _ (table : List (List ℕ)) (has : HasFirstWays s table) where
    sends_points : (x z : ℕ) → Sends table x z → Points s.links x z × (z < most_nodes)
    sends_points x z sends = ⊎_elim
        (λ low.
        let (list, are, is) = has.each x low in
        let front : Contains (take 5 list) z = subst (λ (l : List ℕ). Contains l z) is sends in
        let found = subst (λ (l : List ℕ). Contains l z) (take-append-drop 5 list)
        (Contains-append_left (take 5 list) (drop 5 list) z front) in
        (((are.just z).0 found).link, way_low x z list are found))
        (λ high. absurd (Contains-none z (subst (λ (l : List ℕ). Contains l z) (has.others x high) sends)))
        (cases_lt x s.nodes)

    few_first : (x : ℕ) → length (ways table x) ≤ 5
    few_first x = ⊎_elim
        (λ low. let (list, are, is) = has.each x low in omega (arith, ap length is, length-take 5 list))
        (λ high. omega (arith, ap length (has.others x high)))
        (cases_lt x s.nodes)

    pub state_table : IsTable most_nodes table
    state_table =
        record {
          one_each = has.one_each;
          in_range = λ x z sends. omega (arith, (sends_points x z sends).1, has.one_each);
          few = few_first;
          cycle_free = part_free (Sends table) (Points s.links) (λ x z sends. (sends_points x z sends).0)
              (acyclic_free s.links net.acyclic);
        }

pub first_table : (s : Option State) → IsSettledSession s → (table : List (List ℕ)) → AreFirstWays s table
    → IsTable most_nodes table
first_table None settled table are = subst (IsTable most_nodes) (sym are) (blank_is_table most_nodes)
first_table (Some s) settled table are = state_table s settled table are

-- A session has one table of first ways

pub same_first : (s : Option State) (a b : List (List ℕ)) → AreFirstWays s a → AreFirstWays s b → a ≡ b
same_first None a b are also = are ∙ sym also
same_first (Some s) a b are also = ext_get_or [] a b (are.one_each ∙ sym also.one_each) (λ x low. ⊎_elim
    (λ inside.
    let (list, is, here) = are.each x inside in
    let (other, is_too, there) = also.each x inside in
    here ∙ (ap (λ (l : List ℕ). take 5 l) (one_list s.links s.dest x list other is is_too) ∙ sym there))
    (λ past. are.others x past ∙ sym (also.others x past))
    (cases_lt x s.nodes))

-- From a table to itself nothing is pushed

filter_none : (p : ℕ → Bool) (xs : List ℕ) → ((x : ℕ) → p x ≡ false) → filter p xs ≡ []
filter_none p [] none = refl
filter_none p (x ∷ xs) none =
    ap (λ (b : Bool). cond b (x ∷ filter p xs) (filter p xs)) (none x) ∙ filter_none p xs none

module _ (table : List (List ℕ)) where
  loses_none : (x : ℕ) → loses table table x ≡ false
  loses_none x = elim (cases_Bool (loses table table x)) [
    | inl t ↦
        let (y, found, passes) = any_true (λ y. not (is_way (ways table x) y)) (ways table x) t in
        absurd (false≢true (sym (ap not (way_yes (ways table x) y found)) ∙ passes))
    | inr f ↦ f
  ]

  pub no_pushes : pushes_of table table ≡ []
  no_pushes =
      let xs : List ℕ = range_with_len 0 (length table) in
      let list : ℕ → Push (List ℕ) = λ x. push x (kept table table x) in
      let none_shed : filter (sheds table table) xs ≡ [] = filter_none (sheds table table) xs
      (λ x. ap (λ (b : Bool). b && not (is_empty (kept table table x))) (loses_none x)) in
      let none_emptied : filter (empties table table) xs ≡ [] = filter_none (empties table table) xs
      (λ x. ap (λ (b : Bool). b && is_empty (kept table table x)) (loses_none x)) in
      let none_grows : filter (grows table table) xs ≡ [] = filter_none (grows table table) xs
      (λ x. differs_no (shrunk table table x) (ways table x) (shrunk_other table table x (loses_none x))) in
      λ i. map list (none_shed i ++ none_emptied i) ++ map (λ (x : ℕ). push x (ways table x)) (none_grows i)

pub ways_left : (k : WayKnowledge) (s : Option State) (k' : WayKnowledge) → HasWaysOf s k → PublishesWays k s k'
    → k' ≡ k
ways_left k s k' has p = ⊎_elim (λ same. same) (λ pushed.
    let same : last_ways k' ≡ last_ways k = same_first s (last_ways k') (last_ways k) p.has.are has.are in
    pushed ∙ (ap (λ (t : List (List ℕ)). record k { known = k.known ++ pushes_of (last_ways k) t }) same
    ∙ (ap (λ (h : List (Push (List ℕ))). record k { known = k.known ++ h }) (no_pushes (last_ways k))
    ∙ ap (λ (h : List (Push (List ℕ))). record k { known = h }) (append-nil k.known))))
    p.by

pub ways_left_in : (w : Option WayKnowledge) (s : Option State) (w' : Option WayKnowledge) → IfSome w (HasWaysOf s)
    → PublishesWaysIn w s w' → w' ≡ w
ways_left_in None s w' has p = p
ways_left_in (Some k) s w' has p = p.1 ∙ ap Some (ways_left k s p.0 has p.2)

-- if nothing changes, nothing is pushed
pub ways_stay : (w : Option WayKnowledge) (s : Option State) → IfSome w (HasWaysOf s) → PublishesWaysIn w s w
ways_stay None s has = refl
ways_stay (Some k) s has = (k, refl, record { has = has; by = inl refl })

-- one more of some nodes gets its ways
pub set_each : (P : ℕ → List ℕ → Type 0) (node : ℕ → ℕ) (i : ℕ) (table : List (List ℕ)) (list : List ℕ)
    → node i < length table
    → ((k : ℕ) → k < i → (l : List ℕ) × P (node k) l × (ways table (node k) ≡ take 5 l)) → P (node i) list
    → (k : ℕ) → k < i + 1
    → (l : List ℕ) × P (node k) l × (ways (set table (node i) (take 5 list)) (node k) ≡ take 5 l)
set_each P node i table list low each is k lower = ⊎_elim
    (λ e. (
      list,
      subst (λ (z : ℕ). P z list) (sym e) is,
      ap (λ (z : ℕ). ways (set table (node i) (take 5 list)) z) e
          ∙ get_or-set_same table (node i) (take 5 list) [] low,
    ))
    (λ apart.
    let before : k < i = ⊎_elim (λ earlier. earlier)
    (λ last. let same : k ≡ i = omega (arith, lower, last) in absurd (apart (ap node same))) (cases_lt k i) in
    let (l, was, there) = each k before in
    (l, was, get_or-set_other table (node i) (node k) (take 5 list) [] apart ∙ there))
    (cases_eq (node k) (node i))

pub all_blank : (table : List (List ℕ)) → length table ≡ most_nodes → ((x : ℕ) → ways table x ≡ [])
    → table ≡ blank way_codec most_nodes
all_blank table long none = ext_get_or [] table (blank way_codec most_nodes) (long
    ∙ sym (blank_is_table most_nodes).one_each)
    (λ x low. none x ∙ sym (blank_ways most_nodes x))
