-- A law of walks while ways are pushed. It is a clause of `ways::shared_law`. This project's own.
use Rattle.std.specs.Prelude.{ℕ, ◌≤◌, ◌++◌, ◌∷◌, List, count_by, nat_eq}
use Rattle.fr_shared.specs.declared.view.Push.{Push}
use Rattle.fr_shared.specs.Histories.{IsHistory, StartsWith, table_of}
use Rattle.fr_shared.specs.Reading.{GoesBy}
use Rattle.fr_shared.specs.WayTables.{IsTable, pushes_of, way_codec}

-- all pushes that a walk sees lead to one new table: the walk begins once all pushes before them are known, and ends
-- within them. A reader knows all pushes before them once it has learned what the publisher knew then
pub record LeadToOneTable (n : ℕ) (before : List (Push (List ℕ))) (new : List (List ℕ))
    (known after : List (Push (List ℕ))) : Type 0 where
  pub tables : IsHistory way_codec n before
  pub new_table : IsTable n new
  pub begins : StartsWith known before
  pub ends : StartsWith (before ++ pushes_of (table_of way_codec n before) new) after

-- A walk during the pushes to one new table visits no node more than twice, if its reader knows all pushes before
-- them.
abbrev pub VisitsTwiceByAnyWays : Type 0
VisitsTwiceByAnyWays =
    (n : ℕ) (before : List (Push (List ℕ))) (new : List (List ℕ)) (known after : List (Push (List ℕ))) (x : ℕ)
    (nodes : List ℕ) (z : ℕ)
    → LeadToOneTable n before new known after → GoesBy way_codec n known x nodes after
    → count_by (nat_eq z) (x ∷ nodes) ≤ 2
