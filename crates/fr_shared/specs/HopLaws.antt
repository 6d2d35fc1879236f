-- The laws of pushes in a push order, and of walks meanwhile. Each one is a clause of `hops::route_law` or
-- `hops::shared_law`. This project's own.
use Rattle.std.specs.Prelude.{ℕ, ◌≤◌, ◌++◌, ◌∷◌, List, count_by, nat_eq, take}
use Rattle.fr_tables.specs.Pushes.{IsPushOrder}
use Rattle.fr_tables.specs.Tables.{Arrives}
use Rattle.fr_tables.specs.declared.hop.Hop.{Hop}
use Rattle.fr_shared.specs.declared.view.Push.{Push}
use Rattle.fr_shared.specs.Histories.{IsHistory, StartsWith, table_of}
use Rattle.fr_shared.specs.HopTables.{IsTable, hop_codec, pushes_of}
use Rattle.fr_shared.specs.Reading.{GoesBy}

-- While one push order is pushed, a node that has a route before and after it has one at each moment: after the first k
-- pushes, for every k.
abbrev pub RoutesAreKept : Type 0
RoutesAreKept = (n : ℕ) (before : List (Push Hop)) (new : List Hop) (order : List ℕ) (k x : ℕ)
    → IsHistory hop_codec n before → IsTable n new → IsPushOrder (table_of hop_codec n before) new order
    → Arrives (table_of hop_codec n before) x → Arrives new x
    → Arrives (table_of hop_codec n (before ++ pushes_of new (take k order))) x

-- all pushes that a walk sees are of one push order: the walk begins once all pushes before the order are known, and
-- ends within the pushes of the order. A reader knows all pushes before the order once it has learned what the
-- publisher knew then
pub record AreOfOneOrder (n : ℕ) (before : List (Push Hop)) (new : List Hop) (order : List ℕ)
    (known after : List (Push Hop)) : Type 0 where
  pub tables : IsHistory hop_codec n before
  pub new_table : IsTable n new
  pub is_order : IsPushOrder (table_of hop_codec n before) new order
  pub begins : StartsWith known before
  pub ends : StartsWith (before ++ pushes_of new order) after

-- A walk during the pushes of one push order visits no node more than twice, if its reader knows all pushes before
-- them.
abbrev pub VisitsTwiceAtMost : Type 0
VisitsTwiceAtMost =
    (n : ℕ) (before : List (Push Hop)) (new : List Hop) (order : List ℕ) (known after : List (Push Hop)) (x : ℕ)
    (nodes : List ℕ) (z : ℕ)
    → AreOfOneOrder n before new order known after → GoesBy hop_codec n known x nodes after
    → count_by (nat_eq z) (x ∷ nodes) ≤ 2
