use Rattle.std.proofs.Common.{List, [], ap, arith, codes, decimal, inl, length, refl, rules, string_bytes, subst, sym}
use Rattle.std.proofs.Common.{ℕ, ◌+◌, ◌++◌, ◌∙◌, ◌∷◌, ◌≡◌, ◌≤◌}
use Rattle.std.proofs.lemmas.List.{length_push}
use Rattle.fr_graph.specs.Links.{IsNet}
use Rattle.fr_route.specs.Texts.{walk_text}
use Rattle.fr_route.proofs.Walking.{HasWalked, walk_begins, walk_ends, walk_in_range, walk_more, walk_short, walks_on}
use Rattle.fr_tables.specs.declared.hop.Hop.TheVariants.{CutOff}
use Rattle.fr_route.proofs.questions.route_line.Goals as goal
use Rattle.fr_route.proofs.questions.route_line.Goals.{After-network_law, In-To}

is_net : (c : After-network_law) → IsNet c.args.router.now.nodes c.args.router.now.links
is_net c =
    subst (λ (n : ℕ). IsNet n c.args.router.now.links) c.net-net.ensures.nodes
    (subst (IsNet c.net-net.result.now.nodes) c.net-net.ensures.links c.network_law.ensures.is_net)

-- one more node of the route
longer : (c : In-To) → HasWalked c.args.router.now c.args.x c.in-To.next (c.hops.invariant.nodes ++ c.in-To.next ∷ [])
longer c =
    walks_on c.args.router.now c.args.x c.hops.at c.in-To.next c.hops.invariant.nodes c.hops.invariant.walked
    c.in-To.ensures

short : (c : In-To) → length c.hops.invariant.nodes + 1 ≤ c.args.router.now.nodes
short c =
    let nodes = c.hops.invariant.nodes in
    let few =
    walk_short c.args.router.now c.args.x c.in-To.next (nodes ++ c.in-To.next
    ∷ []) (is_net (goal.at.In-To c).After-network_law)
    c.state_law.ensures.dest (longer c) in
    omega (arith, few, length_push nodes c.in-To.next)

pub hops-init : goal.hops-init
hops-init c =
    let open_hop : ¬ (c.next_hop.result ≡ CutOff) = search rules in
    record {
      nodes = c.args.x ∷ [];
      walked = walk_begins c.args.router.now c.args.x c.next_hop.result c.next_hop.ensures open_hop;
      many = refl;
      text = c.in_ok-push_text_and_number.ensures.text
          ∙ (ap (λ (n : ℕ). string_bytes c.begin.new.line ++ (codes " " ++ decimal n)) c.from.ensures
          ∙ (ap (λ (l : List ℕ). l ++ (codes " " ++ decimal c.args.x)) c.in_ok-begin.ensures
          ∙ sym (walk_more [] c.args.x)));
    }

pub next_hop-requires-in-hops : goal.next_hop-requires-in-hops
next_hop-requires-in-hops c =
    walk_in_range c.args.router.now c.args.x c.hops.at c.hops.invariant.nodes
    (is_net (goal.at.next_hop-requires-in-hops c).After-network_law)
    c.state_law.ensures.dest c.hops.invariant.walked

pub overflow_add-count : goal.overflow_add-count
overflow_add-count c =
    omega (
      arith,
      short (goal.at.overflow_add-count c).In-To,
      c.hops.invariant.many,
      c.net-net.ensures.nodes,
      c.network_law.ensures.limits.nodes_few,
    )

pub hops-smaller : goal.hops-smaller
hops-smaller c = omega (arith, short (goal.at.hops-smaller c).In-To, c.hops.invariant.many)

pub hops-preserved : goal.hops-preserved
hops-preserved c =
    let nodes = c.hops.invariant.nodes in
    record {
      nodes = nodes ++ c.in-To.next ∷ [];
      walked = longer (goal.at.hops-preserved c).In-To;
      many = omega (arith, length_push nodes c.in-To.next, c.hops.invariant.many);
      text = c.in_ok-push_text_and_number-2.ensures.text
          ∙ (ap (λ (n : ℕ). string_bytes c.hops.line ++ (codes " " ++ decimal n)) c.from-in-To.ensures
          ∙ (ap (λ (l : List ℕ). l ++ (codes " " ++ decimal c.in-To.next)) c.hops.invariant.text
          ∙ sym (walk_more nodes c.in-To.next)));
    }

pub returns : goal.returns
returns c =
    let w = c.hops.invariant in
    let ends =
    walk_ends c.args.router.now c.args.x c.hops.at w.nodes w.walked c.next_hop-in-hops.result c.next_hop-in-hops.ensures
    (λ next. c.in_default.not-To next) in
    inl (ends.0, ends.1, w.text ∙ ap walk_text ends.2)
