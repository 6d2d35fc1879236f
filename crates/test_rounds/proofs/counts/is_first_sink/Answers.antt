use Rattle.std.proofs.Common.{IsTrue, List, ap, subst, ◌∙◌, ◌↔◌, ℕ}
use Rattle.fr_core.proofs.Finishing.{links_at-zeros}
use Rattle.fr_graph.specs.Counts.{links_at}
use Rattle.fr_graph.specs.Turn.{IsSink}
use Rattle.test_rounds.proofs.counts.is_first_sink.Goals as goal

pub returns : goal.returns
returns c =
    subst (λ (links : List (ℕ × ℕ)). IsTrue c.is_sink.result ↔ IsSink links c.args.x)
    (ap (links_at c.args.net.now.links) (c.counts.ensures ∙ c.requires.none)
    ∙ links_at-zeros c.args.net.now.nodes c.args.net.now.links)
    c.is_sink.ensures
