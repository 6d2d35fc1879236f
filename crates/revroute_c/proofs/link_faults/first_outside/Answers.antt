use Rattle.std.proofs.Common.{List, add-one, arith, drop, find, get_or, inl, inr, length, map, nat_le, refl, take_all}
use Rattle.std.proofs.Common.{ℕ}
use Rattle.std.proofs.Common.{◌+◌, ◌<◌, ◌≤◌, ◌∙◌, ◌≡◌, ◌⊎◌}
use Rattle.std.proofs.Math.Seq.{drop-cons}
use Rattle.std.proofs.lemmas.Bool.{lt-leb}
use Rattle.std.proofs.lemmas.List.{get_or-map, length-map}
use Rattle.std.proofs.lemmas.List.Elements.{All-map, All-more}
use Rattle.fr_graph.specs.Evidence.{ends_of}
use Rattle.fr_graph.specs.Faults.{IsOutOfRange}
use Rattle.revroute_c.specs.Records.{link_of}
use Rattle.revroute_c.specs.declared.records.Link.{Link}
use Rattle.revroute_c.proofs.link_faults.first_outside.Goals as goal

abbrev none : Link
none = record { tail = 0; head = 0 }

-- an end of a link of the caller is one of its pair
end_is_outside : (n x i : ℕ) (links : List Link) → 0 < n → n ≤ x → i < length links
    → ((get_or links i none).tail ≡ x) ⊎ ((get_or links i none).head ≡ x) → IsOutOfRange n (map link_of links) x
end_is_outside n x i links some outside inside end =
    let pair : ℕ × ℕ = link_of (get_or links i none) in
    inr (
      some,
      outside,
      (i, pair, omega (arith, inside, length-map links link_of), get_or-map link_of links i none pair inside, end),
    )

-- the ends of a link that are nodes are passed
ends_past : (n : ℕ) (links : List Link) (i : ℕ) → i < length links → (get_or links i none).tail < n
    → (get_or links i none).head < n
    → find (nat_le n) (ends_of (map link_of (drop i links)))
    ≡ find (nat_le n) (ends_of (map link_of (drop (i + 1) links)))
ends_past n links i inside tail head =
    rw (
      add-one,
      drop-cons links i none inside,
      lt-leb n (get_or links i none).tail tail,
      lt-leb n (get_or links i none).head head,
    ) refl

pub returns-then-link-nodes-clause-found : goal.returns-then-link-nodes-clause-found
returns-then-link-nodes-clause-found c =
    let i = c.loop-link.link-index in
    end_is_outside c.args.nodes (get_or c.args.links.now i none).tail i c.args.links.now (omega arith) (omega (
      arith,
      c.if-link-nodes.true,
    ))
    (omega arith) (inl refl)

pub returns-then-link-nodes-2-clause-found : goal.returns-then-link-nodes-2-clause-found
returns-then-link-nodes-2-clause-found c =
    let i = c.loop-link.link-index in
    end_is_outside c.args.nodes (get_or c.args.links.now i none).head i c.args.links.now (omega arith) (omega (
      arith,
      c.if-link-nodes-2.true,
    ))
    (omega arith) (inr refl)

pub loop-link-preserved : goal.loop-link-preserved
loop-link-preserved c =
    let tail = c.if-link-nodes.false in
    let head = c.if-link-nodes-2.false in
    record {
      below =
          All-more (λ (link : Link). (link.tail < c.args.nodes)
          × (link.head < c.args.nodes)) c.args.links.now c.loop-link.link-index none
          (omega arith) c.loop-link.invariant.below (omega (arith, tail), omega (arith, head));
      rest = c.loop-link.invariant.rest
          ∙ ends_past c.args.nodes c.args.links.now c.loop-link.link-index (omega arith) (omega (arith, tail)) (omega (
            arith,
            head,
          ));
    }

pub returns-clause-none : goal.returns-clause-none
returns-clause-none c = record {
  some = omega arith;
  below =
      let whole = take_all c.loop-link.link-index c.args.links.now c.loop-link-test.false in
      All-map (λ (l : ℕ × ℕ). (l.0 < c.args.nodes)
      × (l.1 < c.args.nodes)) link_of c.args.links.now (rw whole at c.loop-link.invariant.below);
}
