-- A round that is replayed turn by turn. For proofs only.
use Rattle.std.specs.Prelude.{◌≡◌, length}
use Rattle.fr_graph.specs.Links.{AreBelow}
use Rattle.fr_core.specs.History.{Moment}
use Rattle.fr_route.specs.States.{State}
use Rattle.revdot.specs.Strips.{moment}
use Rattle.revdot.specs.declared.turns.Replay.{Replay}

-- the links and the counts before the next turn
abbrev pub moment_of : Replay → Moment
moment_of replay = moment replay.links.items replay.counts.items

-- the replay is of a round that ended in this state
pub record IsReplay (s : State) (replay : Replay) : Type 0 where
  pub settled : replay.settled.items ≡ s.links
  pub below : AreBelow s.nodes replay.links.items
  pub one_each : length replay.counts.items ≡ s.nodes
