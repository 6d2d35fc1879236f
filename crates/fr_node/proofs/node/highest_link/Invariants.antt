use Rattle.std.proofs.Common.{take}
use Rattle.fr_node.specs.Policies.{IsBestOrNone, is_up, is_higher}
use Rattle.fr_node.proofs.node.highest_link.Given as goal

abbrev pub invariant-loop-link : goal.invariant-loop-link
invariant-loop-link l = IsBestOrNone is_up is_higher (take l.link-index l.links) l.best
