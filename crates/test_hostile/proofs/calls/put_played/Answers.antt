use Rattle.std.proofs.Common.{sym, subst, List, ℕ}
use Rattle.std.specs.List.{All}
use Rattle.fr_graph.specs.Counts.{IsKept}
use Rattle.test_hostile.proofs.calls.put_played.Goals as goal

pub turned_by-requires-clause-kept : goal.turned_by-requires-clause-kept
turned_by-requires-clause-kept g c =
    subst (λ (counts : List ℕ). All (IsKept counts) c.args.net.now.links) (sym c.deref.ensures.value)
    c.in-Ok.ensures.run.lawful.kept
