use Rattle.std.proofs.Common.{List, [], ap, arith, inl, inr, length, refl, slice_index, subst, sym, ℕ, ◌<◌, ◌∷◌}
use Rattle.std.proofs.lemmas.Bool.{cases_lt}
use Rattle.std.proofs.lemmas.List.Elements.{Contains-append_left}
use Rattle.fr_graph.proofs.Acyclic.{path_falls}
use Rattle.fr_graph.proofs.AddedLinks.{added}
use Rattle.fr_graph.proofs.Remaking.{falling_rows, fewer_fall, net_shown, same_of_heights, same_through}
use Rattle.fr_graph.specs.Graph.{IsSame, shown}
use Rattle.fr_graph.specs.declared.graph.Graph.{Graph}
use Rattle.fr_graph.specs.Heights.{AreFalling}
use Rattle.fr_graph.specs.Links.{HasPath}
use Rattle.fr_graph.specs.Network.{Network}
use Rattle.fr_graph.specs.PathSearch.{IsPathAnswer}
use Rattle.fr_graph.proofs.graph.Graph.has_path_back.Goals as goal
use Rattle.fr_graph.proofs.graph.Graph.has_path_back.Goals.{In_ok-path_between}

-- no path leads up
no_path_up : (links : List (ℕ × ℕ)) (heights : List ℕ) (x y : ℕ) → AreFalling heights links
    → slice_index heights x < slice_index heights y → ¬ HasPath links x y
no_path_up links heights x y falling below path =
    omega (
      arith,
      path_falls links heights (λ u v stands. omega (arith, falling u v stands)) x path.0 path.1.0,
      ap (slice_index heights) path.1.1,
    )

-- a node still has a height and a row
has_height : (before after : Graph) (x : ℕ) → IsSame before after → x < before.nodes → x < length after.heights.heights
has_height before after x same node =
    omega (arith, node, same.graph.height_each, ap (λ (m : Network). m.nodes) same.same)

has_row : (before after : Graph) (x : ℕ) → IsSame before after → x < before.nodes → x < length after.rows.rows
has_row before after x same node =
    omega (arith, node, same.graph.rows.one_each, ap (λ (m : Network). m.nodes) same.same)

pub link_would_fall-requires-clause-tail : goal.link_would_fall-requires-clause-tail
link_would_fall-requires-clause-tail c =
    has_height c.args.self.now c.renew_heights.new.self c.args.u c.in_ok-renew_heights.ensures.same
    c.requires.nodes.tail

pub link_would_fall-requires-clause-head : goal.link_would_fall-requires-clause-head
link_would_fall-requires-clause-head c =
    has_height c.args.self.now c.renew_heights.new.self c.args.v c.in_ok-renew_heights.ensures.same
    c.requires.nodes.head

pub path_between-requires-clause-from : goal.path_between-requires-clause-from
path_between-requires-clause-from c =
    has_row c.args.self.now c.renew_heights.new.self c.args.v c.in_ok-renew_heights.ensures.same c.requires.nodes.head

pub path_between-requires-clause-to : goal.path_between-requires-clause-to
path_between-requires-clause-to c =
    has_row c.args.self.now c.renew_heights.new.self c.args.u c.in_ok-renew_heights.ensures.same c.requires.nodes.tail

pub path_between-requires-clause-apart : goal.path_between-requires-clause-apart
path_between-requires-clause-apart c e = c.requires.nodes.apart (sym e)

pub path_between-requires-clause-no_higher : goal.path_between-requires-clause-no_higher
path_between-requires-clause-no_higher c =
    let heights = c.renew_heights.new.self.heights.heights in
    elim (cases_lt (slice_index heights c.args.v) (slice_index heights c.args.u)) [
      | inl below ↦ cc (
        c.link_would_fall.ensures.1 (c.in_ok-renew_heights.ensures.known, below),
        c.if-link_would_fall.false,
      )
      | inr no_higher ↦ no_higher
    ]

pub returns-then-link_would_fall-clause-same : goal.returns-then-link_would_fall-clause-same
returns-then-link_would_fall-clause-same c = c.in_ok-renew_heights.ensures.same

pub returns-in-Leads-clause-same : goal.returns-in-Leads-clause-same
returns-in-Leads-clause-same c = c.in_ok-renew_heights.ensures.same

pub returns-then-link_would_fall-clause-leads : goal.returns-then-link_would_fall-clause-leads
returns-then-link_would_fall-clause-leads c =
    let after = c.renew_heights.new.self in
    let same = c.in_ok-renew_heights.ensures.same in
    let falls = c.link_would_fall.ensures.0 c.if-link_would_fall.true in (
      λ t. cc,
      λ path. absurd (no_path_up (shown after).links after.heights.heights c.args.v c.args.u (same.graph.fit falls.0)
          falls.1
          (subst (λ (m : Network). HasPath m.links c.args.v c.args.u) (sym same.same) path)),
    )

pub path_between-requires-clause-rows : goal.path_between-requires-clause-rows
path_between-requires-clause-rows c =
    falling_rows c.renew_heights.new.self c.in_ok-renew_heights.ensures.same.graph c.in_ok-renew_heights.ensures.known

-- what the search found, in the network of the graph
found : (c : In_ok-path_between)
    → IsPathAnswer (shown c.renew_heights.new.self) c.renew_heights.new.self.heights.heights c.args.v c.args.u
    c.in_ok-path_between.field-0
found c =
    let after = c.renew_heights.new.self in
    subst (λ (m : Network). IsPathAnswer m after.heights.heights c.args.v c.args.u c.in_ok-path_between.field-0)
    (net_shown after c.in_ok-renew_heights.ensures.same.graph) c.in_ok-path_between.ensures

pub put_between-requires : goal.put_between-requires
put_between-requires c =
    let ends = rw c.in-Ends.is at (found (goal.at.put_between-requires c).In_ok-path_between) in
    record { nodes = λ k d lt. omega (arith, ends.1.0 k d lt, c.in_ok-renew_heights.ensures.same.graph.height_each) }

pub returns-in-Leads-clause-leads : goal.returns-in-Leads-clause-leads
returns-in-Leads-clause-leads c =
    let path = rw c.in-Leads.is at (found (goal.at.returns-in-Leads-clause-leads c).In_ok-path_between) in (
      λ t. subst (λ (m : Network). HasPath m.links c.args.v c.args.u) c.in_ok-renew_heights.ensures.same.same path,
      λ p. refl,
    )

pub returns-in-Leads-clause-known : goal.returns-in-Leads-clause-known
returns-in-Leads-clause-known c = λ t. c.in_ok-renew_heights.ensures.known

pub returns-in-Ends-clause-leads : goal.returns-in-Ends-clause-leads
returns-in-Ends-clause-leads c =
    let ends = rw c.in-Ends.is at (found (goal.at.returns-in-Ends-clause-leads c).In_ok-path_between) in (
      λ t. cc,
      λ path. absurd (subst (λ (m : Network). ¬ HasPath m.links c.args.v c.args.u)
          c.in_ok-renew_heights.ensures.same.same ends.0 path),
    )

pub returns-in-Ends-clause-same : goal.returns-in-Ends-clause-same
returns-in-Ends-clause-same c =
    let after = c.renew_heights.new.self in
    let same = c.in_ok-renew_heights.ensures.same in
    let links = (shown after).links in
    let more = added links c.args.u c.args.v in
    let ends = rw c.in-Ends.is at (found (goal.at.returns-in-Ends-clause-same c).In_ok-path_between) in
    let fit = fewer_fall more links c.put_between.new.self
    (λ x y stands. Contains-append_left links ((c.args.u, c.args.v)
    ∷ []) (x, y) stands) (c.put_between.ensures.fit more ends.1.1) in
    same_through c.args.self.now after _ same
    (same_of_heights after c.put_between.new.self (omega (
      arith,
      c.put_between.ensures.one_each,
      same.graph.height_each,
    )) fit same.graph)
