use Rattle.std.proofs.Common.{◌≡◌, ◌++◌, drop, string_bytes}
use Rattle.fr_route.specs.Texts.{spaced_lists}
use Rattle.fr_route.specs.WayLists.{paired, pairs}
use Rattle.fr_route.proofs.texts.push_lists.Given as goal

abbrev pub invariant-loop-at : goal.invariant-loop-at
invariant-loop-at l =
    string_bytes l.line ++ spaced_lists (paired (drop l.at l.pushes.nodes.items) (drop l.at l.pushes.lists))
    ≡ string_bytes l.fn.line ++ spaced_lists (pairs l.pushes)
