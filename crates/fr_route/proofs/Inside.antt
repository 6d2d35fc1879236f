-- What a router keeps after a round on a network is put in place.
use Rattle.std.proofs.Common.{List, subst, sym, ℕ, ◌≡◌}
use Rattle.fr_crew.specs.Settlements.{IsCounted}
use Rattle.fr_graph.specs.Counts.{links_at}
use Rattle.fr_graph.specs.Links.{IsNet}
use Rattle.fr_graph.specs.Network.{Network, net_of}
use Rattle.fr_route.specs.Outcomes.{settled_state}
use Rattle.fr_route.specs.KeptDistances.{KeepsDistances}
use Rattle.fr_route.specs.RouterInside.{IsSoundRouter, state_of}
use Rattle.fr_route.specs.Routes.{AreHops}
use Rattle.fr_route.specs.States.{IsReport}
use Rattle.fr_route.specs.declared.change.Report.{Report}
use Rattle.fr_route.specs.declared.router.Router.TheInside.{Inside}
use Rattle.fr_route.specs.declared.forwarding.ForwardingState.{ForwardingState}
use Rattle.fr_route.specs.declared.kept_distances.KeptDistances.{KeptDistances}
use Rattle.fr_route.specs.declared.spare_turns.SpareTurns.{SpareTurns}
use Rattle.fr_route.proofs.CutNodes.{after_outcome}

module _ (d : ℕ) (turns : List ℕ) (spare : SpareTurns) (forwarding : ForwardingState) (report : Report) where
  inside : Network → Inside
  inside net = record {
    net = net;
    dest = d;
    turns = turns;
    spare = spare;
    forwarding = forwarding;
    report = report;
  }

  pub sound_after : (net turned : Network) → IsNet net.nodes net.links → IsCounted net.nodes d net.links turns
      → IsReport (settled_state net d turns) report.turned report.cut
      → turned ≡ net_of net.nodes (links_at net.links turns)
      → AreHops (settled_state net d turns) net.nodes forwarding.hops.items
      → KeepsDistances (settled_state net d turns) forwarding.distances → forwarding.room ≡ net.nodes
      → IsSoundRouter (record {
        net = turned;
        dest = d;
        turns = turns;
        spare = spare;
        forwarding = forwarding;
        report = report;
      })
  unfolding inside
  sound_after net turned is counted reported turned_is hops_are measured for_all =
      let there : IsSoundRouter (inside (net_of net.nodes (links_at net.links turns))) = record {
        dest = counted.destination;
        round = after_outcome net d turns is counted;
        one_each = counted.settled.one_each;
        hops = hops_are;
        distances = measured;
        room = for_all;
        report = reported;
      } in
      subst (λ (m : Network). IsSoundRouter (inside m)) (sym turned_is) there

-- a router is sound with other distances of the same state, while its network stays the same
pub sound_again : (r : Inside) (spare : SpareTurns) (distances : KeptDistances) (net : Network) → IsSoundRouter r
    → KeepsDistances (state_of r) distances → net ≡ r.net
    → IsSoundRouter (record r {
      net = net;
      spare = spare;
      forwarding = record r.forwarding { distances = distances };
    })
sound_again r spare distances net sound keeps same =
    let there : IsSoundRouter (record r { spare = spare; forwarding = record r.forwarding { distances = distances } }) =
    record {
      dest = sound.dest;
      round = sound.round;
      one_each = sound.one_each;
      hops = sound.hops;
      distances = keeps;
      room = sound.room;
      report = sound.report;
    } in
    subst (λ (m : Network). IsSoundRouter (record r {
      net = m;
      spare = spare;
      forwarding = record r.forwarding { distances = distances };
    })) (sym same) there
