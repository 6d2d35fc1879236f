use Rattle.std.proofs.Common.{⊎_elim}
use Rattle.fr_core.proofs.Loads.{held_against, held_along, sink_from_seen}
use Rattle.fr_core.proofs.Sinks.{sink_from_bounds, sink_meets_bounds}
use Rattle.fr_core.proofs.laws.sink_law.Goals as goal

pub returns-clause-sink : goal.returns-clause-sink
returns-clause-sink c =
    λ n d first counts x lawful. (
      sink_meets_bounds first counts lawful.kept x,
      sink_from_bounds first counts lawful.kept x,
    )

pub returns-clause-missed : goal.returns-clause-missed
returns-clause-missed c = λ n d first counts x w had lawful low. ⊎_elim
    (λ h. held_along first counts lawful.kept x w had low h.0 h.1)
    (λ h. held_against first counts lawful.kept x w had low h.0 h.1)

pub returns-clause-seen : goal.returns-clause-seen
returns-clause-seen c = λ n d first counts x seen lawful. sink_from_seen first counts lawful.kept x seen
