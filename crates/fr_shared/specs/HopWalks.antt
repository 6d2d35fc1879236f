-- Walks hop by hop, while hops are pushed. This project's own.
use Rattle.std.specs.Prelude.{◌≡◌, ℕ, ◌≤◌, List, length, slice_get, Some, take}
use Rattle.fr_tables.specs.Tables.{SendsOn, end_of}
use Rattle.fr_tables.specs.declared.hop.Hop.{Hop}
use Rattle.fr_tables.specs.declared.hop.Hop.TheVariants.{CutOff, Here, To}
use Rattle.fr_shared.specs.declared.hops.walks.Walk.{Walk}
use Rattle.fr_shared.specs.declared.hops.walks.WalkEnd.{WalkEnd}
use Rattle.fr_shared.specs.declared.hops.walks.WalkEnd.TheVariants.{Arrived, CutOff as AtCutOff, Longer}
use Rattle.fr_shared.specs.HopTables.{hop_codec, last_hops}
use Rattle.fr_shared.specs.Knowledge.{Knowledge}
use Rattle.fr_shared.specs.Reading.{GoesBy}

-- why a walk in this table ends at node x
abbrev pub IsEnd : WalkEnd → List Hop → ℕ → Type 0
IsEnd Arrived table x = slice_get table x ≡ Some Here
IsEnd AtCutOff table x = slice_get table x ≡ Some CutOff
IsEnd Longer table x = (y : ℕ) × SendsOn table x y

-- a walk from x, whose nodes are at the front of `room`
pub record HasWalked (old new : Knowledge Hop) (x : ℕ) (room : List ℕ) (walk : Walk) : Type 0 where
  pub few : walk.count ≤ length room
  pub goes : GoesBy hop_codec old.nodes old.known x (take walk.count room) new.known
  -- the hop of its last node, in the last table that was read, ended it
  pub ends : IsEnd walk.end (last_hops new) (end_of x (take walk.count room))
  -- it stops before another node only if the room is full
  pub full : walk.end ≡ Longer → walk.count ≡ length room

-- what ends a walk whose last node has this hop. For proofs only
abbrev pub end_by : Hop → WalkEnd
end_by Here = Arrived
end_by (To y) = Longer
end_by CutOff = AtCutOff
