-- Each node of a settled network has exactly one list of ways, and a connected one exactly one nearest route.
use Rattle.std.proofs.Common.{[], Bool, List, Option, ap, false, get_or, slice_index, true, ◌==◌, arith, inl, inr}
use Rattle.std.proofs.Common.{length, refl, suc, sym, zero, ℕ, ◌+◌, ◌++◌, ◌<◌, ◌∙◌, ◌∷◌, ◌≡◌, ◌⊎◌}
use Rattle.std.specs.Prelude.{MatchOption}
use Rattle.std.proofs.lemmas.Bool.{cases_eq, eqb-true, false≢true}
use Rattle.std.proofs.lemmas.List.{get_or_append_left, get_or_push, length_push}
use Rattle.fr_graph.specs.Links.{AreBelow, HasPath}
use Rattle.fr_core.specs.Walks.{IsConnected}
use Rattle.fr_core.proofs.Paths.{walk_from_path}
use Rattle.fr_nearest.proofs.Walking.{one_list, walk_shortest}
use Rattle.fr_route.proofs.WaysExist.{nearest_exists, ways_exist}
use Rattle.fr_ways.specs.Ways.{ways}
use Rattle.fr_nearest.specs.Distances.{IsDistance, IsMeasured, Measured, distance_of, no_distance}
use Rattle.fr_route.specs.NodeWays.{AreNodeWays, AreWaysBelow, HasDistance, HasDistances, IsNearestRoute}
use Rattle.fr_route.specs.States.{State, IsAfterRound, IsCutOff}
use Rattle.fr_route.proofs.RoundEnds.{route_home}
use Rattle.fr_route.proofs.Routing.{route_end, route_path}

-- a node without a path is cut off
pub cut_without : (s : State) → IsAfterRound s → (x : ℕ) → ¬ HasPath s.links x s.dest → IsCutOff s.dest s.links x
cut_without s after x none = (
  (λ e. none ([], (tt, e))),
  (λ connected.
      let r = route_home s.nodes s.dest after.first s after.is_net after.dest after.round x connected in
      none (r.0, (route_path s.links s.dest x r.0 r.1, route_end s.links s.dest x r.0 r.1))),
)

-- the distance of a node, by the table
pub distance_is : (s : State) → IsAfterRound s → (m : Measured) → HasDistances s m → (x : ℕ) → x < s.nodes
    → (distance : Option ℕ) → distance ≡ distance_of (slice_index m.table x)
    → HasDistance s x distance
distance_is s after m has x low distance is =
    rw is (go (slice_index m.table x) (has.table.each x low) (slice_index m.table x == no_distance) refl)
  where
    go : (number : ℕ) → IsMeasured s.links s.dest x number → (none : Bool) → (number == no_distance) ≡ none
        → MatchOption (distance_of number) (IsCutOff s.dest s.links x) (IsDistance s.links s.dest x)
    go number measured true e = rw e (cut_without s after x (measured.none (eqb-true number no_distance e)))
    go number measured false e = rw e (measured.some (λ same. false≢true (sym e ∙ rw same refl)))

-- lists of the same length with the same elements are equal
same_lists : {X : Type 0} (d : X) (a b : List X) → length a ≡ length b
    → ((k : ℕ) → k < length a → get_or a k d ≡ get_or b k d) → a ≡ b
same_lists d [] [] long each = refl
same_lists d [] (y ∷ ys) long each = absurd (omega (arith, long))
same_lists d (x ∷ xs) [] long each = absurd (omega (arith, long))
same_lists d (x ∷ xs) (y ∷ ys) long each =
    ap (λ z. z ∷ xs) (each 0 (omega arith))
    ∙ ap (λ zs. y ∷ zs) (same_lists d xs ys (omega (arith, long)) (λ k low. each (suc k) (omega (arith, low))))

pub ways_below_unique : (s : State) (n : ℕ) (a b : List (List ℕ)) → AreWaysBelow s n a → AreWaysBelow s n b → a ≡ b
ways_below_unique s n a b are also = same_lists [] a b (are.one_each ∙ sym also.one_each)
    (λ x low. one_list s.links s.dest x (ways a x) (ways b x) (are.each x (omega (arith, low, are.one_each)))
    (also.each x (omega (arith, low, are.one_each))))

-- a table with one more row
pub ways_pushed : (P : ℕ → List ℕ → Type 0) (table : List (List ℕ)) (list : List ℕ) (n : ℕ) → length table ≡ n
    → ((x : ℕ) → x < n → P x (ways table x)) → P n list
    → (length (table ++ list ∷ []) ≡ n + 1) × ((x : ℕ) → x < n + 1 → P x (ways (table ++ list ∷ []) x))
ways_pushed P table list n long each is = (
  omega (arith, length_push table list, long),
  λ x low. elim (cases_eq x n) [
    | inl e ↦ rw (e, get_or_push table list [] n long) is
    | inr apart ↦ rw (get_or_append_left table (list ∷ []) [] x (omega (arith, low, apart, long)))
        (each x (omega (arith, low, apart)))
  ],
)

-- a node with a nearest route is connected with the destination
pub nearest_connected : (s : State) (x : ℕ) (rest : List ℕ) → IsNearestRoute s x rest → IsConnected s.links s.dest x
nearest_connected s x rest walk =
    let path = walk_shortest s.links s.dest x rest walk in
    (0, walk_from_path s.links s.dest x rest path.0 path.1)

module _ (s : State) (below : AreBelow s.nodes s.links)
    (decide : (w : ℕ) → HasPath s.links w s.dest ⊎ ¬ HasPath s.links w s.dest) where
  pub node_ways_exist : (x : ℕ) → (list : List ℕ) × AreNodeWays s x list
  node_ways_exist x = ways_exist s.links s.dest decide x s.nodes below

  pub ways_below_exist : (n : ℕ) → (table : List (List ℕ)) × AreWaysBelow s n table
  ways_below_exist zero = ([], record { one_each = refl; each = λ x low. absurd (omega (arith, low)) })
  ways_below_exist (suc n) =
      let (table, are) = ways_below_exist n in
      let (list, is) = node_ways_exist n in
      let more = ways_pushed (AreNodeWays s) table list n are.one_each are.each is in (
        table ++ list ∷ [],
        record { one_each = omega (arith, more.0); each = λ x low. more.1 x (omega (arith, low)) },
      )

  pub nearest_route_exists : (x : ℕ) → HasPath s.links x s.dest → (rest : List ℕ) × IsNearestRoute s x rest
  nearest_route_exists x path = nearest_exists s.links s.dest s.nodes below decide x path
