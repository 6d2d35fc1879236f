use Rattle.std.proofs.Common.{drop, find, map, nat_le, take, All, ◌<◌, ◌≡◌}
use Rattle.fr_graph.specs.Evidence.{ends_of}
use Rattle.revroute_c.specs.Records.{link_of}
use Rattle.revroute_c.specs.declared.records.Link.{Link}
use Rattle.revroute_c.proofs.link_faults.first_outside.Given as goal

abbrev pub invariant-loop-link : goal.invariant-loop-link
invariant-loop-link l = record {
  below : All (λ (link : Link). (link.tail < l.nodes) × (link.head < l.nodes)) (take l.link-index l.links);
  rest : find (nat_le l.nodes) (ends_of (map link_of l.links))
      ≡ find (nat_le l.nodes) (ends_of (map link_of (drop l.link-index l.links)));
}
