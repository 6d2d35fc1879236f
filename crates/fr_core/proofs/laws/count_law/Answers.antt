use Rattle.fr_core.proofs.Joining.{joined_by_counts, joined_from_counts}
use Rattle.fr_core.proofs.Paths.{path_gives_zero, zero_gives_path}
use Rattle.fr_core.proofs.Unique.{cap_from_not_joined, joined_count_below, not_joined_from_cap}
use Rattle.fr_core.proofs.laws.count_law.Goals as goal

pub returns-clause-zero : goal.returns-clause-zero
returns-clause-zero c = λ n d first counts x settled l linked.
    (zero_gives_path n d first x _ l linked (settled.settled x l), path_gives_zero n d first x _ (settled.settled x l))

pub returns-clause-cap : goal.returns-clause-cap
returns-clause-cap c = λ n d first counts x net below settled l linked. (
  not_joined_from_cap n d first net below counts settled x,
  cap_from_not_joined n d first net below counts settled x l linked,
)

pub returns-clause-below : goal.returns-clause-below
returns-clause-below c =
    λ n d first counts x net below settled joined. joined_count_below n d first net below counts settled x joined

pub returns-clause-joined : goal.returns-clause-joined
returns-clause-joined c = λ n d first counts x net below settled. (
  joined_by_counts n d first net below counts settled x,
  joined_from_counts n d first net below counts settled x,
)
