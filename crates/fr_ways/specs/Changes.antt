-- What a change does to the ways of nodes, as far as its nodes have been noted: the pushes of both phases. This
-- project's own.
use Rattle.std.specs.Prelude.{◌≡◌, ℕ, ◌<◌, ◌≤◌, List, [], filter, length, map}
use Rattle.std.specs.List.{concat, range_with_len}
use Rattle.fr_ways.specs.Phases.{empties, grows, kept, sheds}
use Rattle.fr_ways.specs.Ways.{IsInRange, ways}

-- the value of `WayChanges` in contracts: the pushes of the first phase, the nodes that lose all their ways and follow
-- at its end, and the pushes of the second phase. There is room for tables of so many nodes, with so many ways in total
pub record Noted : Type 0 where
  pub shrink : List (ℕ × List ℕ)
  pub emptied : List ℕ
  pub grow : List (ℕ × List ℕ)
  pub nodes : ℕ
  pub ways : ℕ

-- the pushes for the nodes below this number, and no others
pub record IsNotedTo (old new : List (List ℕ)) (below : ℕ) (noted : Noted) : Type 0 where
  pub shrink : noted.shrink ≡ map (λ x. (x, kept old new x)) (filter (sheds old new) (range_with_len 0 below))
  pub emptied : noted.emptied ≡ filter (empties old new) (range_with_len 0 below)
  pub grow : noted.grow ≡ map (λ x. (x, ways new x)) (filter (grows old new) (range_with_len 0 below))

-- there is room for the pushes that lead to this table
pub record HasRoomFor (new : List (List ℕ)) (noted : Noted) : Type 0 where
  pub nodes : length new ≤ noted.nodes
  pub ways : length (concat new) ≤ noted.ways

-- x is the next node to note between these tables, and these are its ways before and after
pub record MayNote (before after : List (List ℕ)) (x : ℕ) (old new : List ℕ) (noted : Noted) : Type 0 where
  pub below : IsNotedTo before after x noted
  pub ways_before : ways before x ≡ old
  pub ways_after : ways after x ≡ new
  pub inside : x < length after
  pub range : IsInRange after
  pub room : HasRoomFor after noted

pub record HasNoPushes (noted : Noted) : Type 0 where
  pub shrink : noted.shrink ≡ []
  pub emptied : noted.emptied ≡ []
  pub grow : noted.grow ≡ []

pub record HasSameRoom (before after : Noted) : Type 0 where
  pub nodes : after.nodes ≡ before.nodes
  pub ways : after.ways ≡ before.ways

-- the pushes are the same, and the room is no less
pub record KeepsPushes (before after : Noted) : Type 0 where
  pub shrink : after.shrink ≡ before.shrink
  pub emptied : after.emptied ≡ before.emptied
  pub grow : after.grow ≡ before.grow
  pub nodes : before.nodes ≤ after.nodes
  pub ways : before.ways ≤ after.ways
