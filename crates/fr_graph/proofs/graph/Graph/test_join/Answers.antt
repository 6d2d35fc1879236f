use Rattle.std.proofs.Common.{None, Option, Some, [], arith, false, inl, inr, sym, ℕ, ◌<◌, ◌∙◌, ◌∷◌, ◌≡◌}
use Rattle.std.proofs.lemmas.Bool.{cases_lt, le-leb, lt-leb}
use Rattle.std.proofs.lemmas.List.{length_push}
use Rattle.std.proofs.lemmas.List.Elements.{Contains-push}
use Rattle.std.specs.Option.{IfNone, is_some}
use Rattle.fr_graph.proofs.AddedLinks.{added, in_range, out_of_range_added, within_limits}
use Rattle.fr_graph.specs.Evidence.{NamesFirst, NamesOfLink}
use Rattle.fr_graph.specs.Faults.{IsInRange}
use Rattle.fr_graph.specs.Graph.{shown}
use Rattle.fr_graph.specs.Limits.{IsWithinLimits}
use Rattle.fr_graph.specs.Network.{Network}
use Rattle.fr_graph.specs.declared.fault.NetFault.TheVariants.{Range}
use Rattle.fr_graph.proofs.graph.Graph.test_join.Goals as goal
use Rattle.fr_graph.proofs.graph.Graph.test_join.Goals.{Else-self-ge-MAX_LINKS, In_default}

-- with the link between the two nodes the links are within the limit, and all join nodes
limits : (c : Else-self-ge-MAX_LINKS)
    → IsWithinLimits c.args.self.now.nodes (added (shown c.args.self.now).links c.args.u c.args.v)
limits c =
    let g = shown c.args.self.now in
    within_limits g.nodes g.links c.args.u c.args.v c.requires.faultless.limits (omega (
      arith,
      c.requires.counted,
      c.if-self-ge-MAX_LINKS.false,
    ))

range : (c : In_default) → IsInRange c.args.self.now.nodes (added (shown c.args.self.now).links c.args.u c.args.v)
range c =
    let g = shown c.args.self.now in
    let ends = c.in_default.ensures.none.below 0 (0, 0) (omega arith) in
    in_range g.nodes g.links c.args.u c.args.v c.requires.faultless.is_net.in_range ends.0 ends.1

pub returns-then-self-ge-MAX_LINKS-clause-refused : goal.returns-then-self-ge-MAX_LINKS-clause-refused
returns-then-self-ge-MAX_LINKS-clause-refused c =
    inr (omega (
      arith,
      length_push (shown c.args.self.now).links (c.args.u, c.args.v),
      c.requires.counted,
      c.if-self-ge-MAX_LINKS.true,
    ))

pub returns-in-Some-clause-refused : goal.returns-in-Some-clause-refused
returns-in-Some-clause-refused c =
    let g = shown c.args.self.now in (
      limits (goal.at.returns-in-Some-clause-refused c).Else-self-ge-MAX_LINKS,
      out_of_range_added g.nodes g.links c.args.u c.args.v c.in-Some.x
          (rw c.in-Some.is at c.first_outside.ensures.found),
    )

-- the first end of one link that is not a node
end_named : (net : Network) (u v x : ℕ) → 0 < net.nodes → NamesFirst net.nodes ((u, v) ∷ []) (Range x)
    → NamesOfLink net u v (Range x)
end_named net u v x some (inl none) = absurd (omega (arith, none.0))
end_named net u v x some (inr found) = elim (cases_lt u net.nodes) [
  | inr past ↦ let is = rw (le-leb net.nodes u past) at found.1 in inl (past, cc)
  | inl tail ↦ elim (cases_lt v net.nodes) [
    | inr past ↦ let is = rw (lt-leb net.nodes u tail, le-leb net.nodes v past) at found.1 in inr (tail, cc)
    | inl head ↦ let is = rw (lt-leb net.nodes u tail, lt-leb net.nodes v head) at found.1 in absurd (cc)
  ]
]

pub returns-in-Some-clause-names : goal.returns-in-Some-clause-names
returns-in-Some-clause-names c =
    end_named (shown c.args.self.now) c.args.u c.args.v c.in-Some.x c.requires.faultless.some
    (rw c.in-Some.is at c.first_outside.ensures.names)

pub returns-then-u-v-clause-refused : goal.returns-then-u-v-clause-refused
returns-then-u-v-clause-refused c =
    let at = goal.at.returns-then-u-v-clause-refused c in (
      limits at.Else-self-ge-MAX_LINKS,
      range at.In_default,
      rw c.if-u-v.true (Contains-push (shown c.args.self.now).links _),
    )

pub link_between-requires : goal.link_between-requires
link_between-requires c = c.requires

pub returns-clause-few : goal.returns-clause-few
returns-clause-few c = omega (arith, c.requires.counted, c.if-self-ge-MAX_LINKS.false)

where_none : {X : Type 0} (o : Option X) (P : Type 0) → is_some o ≡ false → IfNone o P → P
where_none None P none holds = holds
where_none (Some x) P none holds = absurd (cc)

pub returns-clause-nodes : goal.returns-clause-nodes
returns-clause-nodes c =
    let ends = c.in_default.ensures.none.below 0 (0, 0) (omega arith) in
    record {
      tail = ends.0;
      head = ends.1;
      apart = c.if-u-v.false;
      free = where_none c.link_between.result _
          (sym c.is_some.ensures ∙ c.if-is_some.false) c.link_between.ensures.none;
    }
