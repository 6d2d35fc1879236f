use Rattle.std.proofs.Common.{replicate, rules, subst, sym, ℕ, ◌∙◌, ◌≡◌}
use Rattle.fr_crew.proofs.Turners.{none_turned, sum_none}
use Rattle.fr_crew.specs.Settlements.{AreNumbered}
use Rattle.fr_crew.proofs.settlement.settle_without_workers.Goals as goal

pub returns-clause-told : goal.returns-clause-told
returns-clause-told g c =
    let net = c.args.net in
    let zeros : c.in_ok-left.left.items ≡ replicate net.nodes 0 = search rules in
    record {
      workers =
          rw zeros (none_turned net.nodes c.args.dest net.links c.args.crew.now.plan.now
          (g.G.Gate.passed c.args.crew.now.gate.now)
          c.in_ok-turned.turned.items
          c.network_law.ensures.is_net
          (subst (λ (k : ℕ). AreNumbered k c.in_ok-turned.turned.items) c.workers.ensures
          c.in_ok-turned.ensures.numbered)
          c.in_ok-turned.ensures.none);
      by_workers = rw zeros (c.finish_and_turn_links-settled.ensures.by_workers ∙ sym (sum_none net.nodes));
      finisher = rw (zeros ∙ sym c.requires.none) c.finish_and_turn_links-settled.ensures.finisher;
    }
