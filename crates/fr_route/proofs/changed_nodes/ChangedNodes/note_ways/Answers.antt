use Rattle.fr_route.proofs.WaysTold.{same_list}
use Rattle.fr_route.proofs.changed_nodes.ChangedNodes.note_ways.Goals as goal

pub returns-in-InList-default-Some-clause-list : goal.returns-in-InList-default-Some-clause-list
returns-in-InList-default-Some-clause-list c =
    let w = c.in-InList-default-Some in rw (w.is, w.field-1-is) (same_list w.field-0 w.notes _)
