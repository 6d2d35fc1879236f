use Rattle.std.proofs.Common.{arith, ◌∙◌}
use Rattle.fr_graph.proofs.Remaking.{same_of_rows}
use Rattle.fr_graph.proofs.graph.Graph.make_room.Goals as goal

pub returns-clause-same : goal.returns-clause-same
returns-clause-same c =
    same_of_rows c.args.self.now c.make_room-2.new.self (c.make_room-2.ensures.rows ∙ c.make_room.ensures.rows)
    (λ x. omega (arith, c.make_room.ensures.kept x, c.make_room-2.ensures.kept x)) c.requires.graph
