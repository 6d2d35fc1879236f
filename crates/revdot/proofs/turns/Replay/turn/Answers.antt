use Rattle.std.proofs.Common.{ap, length, sym, ◌+◌, ◌∙◌, ◌≡◌}
use Rattle.std.proofs.lemmas.List.{length-set}
use Rattle.fr_graph.specs.Turn.{turn}
use Rattle.revdot.proofs.Turning.{turn_below, written_back}
use Rattle.revdot.proofs.turns.Replay.turn.Goals as goal

pub returns-clause-replay : goal.returns-clause-replay
returns-clause-replay c = λ s is.
    let x = c.args.x in
    let links = c.args.self.now.links.items in
    let turned : c.turn_node.new.links ≡ turn x links = c.turn_node.ensures ∙ ap (turn x) c.deref_mut.ensures.value in
    let long : c.args.self.now.links.len ≡ length links =
    sym c.deref_mut.ensures.len ∙ ap length c.deref_mut.ensures.value in
    record {
      settled = is.settled;
      below =
          rw (written_back x c.args.self.now.links.len links c.turn_node.new.links turned long)
          (turn_below s.nodes x links is.below);
      one_each = length-set c.args.self.now.counts.items x (c.index_mut.result.now + 1) ∙ is.one_each;
    }
