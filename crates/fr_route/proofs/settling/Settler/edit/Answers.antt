use Rattle.std.proofs.Common.{◌≡◌, ◌∙◌, ◌<◌, List, refl, rules}
use Rattle.std.proofs.Common.{subst, sym, ℕ}
use Rattle.std.proofs.lemmas.Result.{err_from_is_err_and}
use Rattle.fr_graph.specs.Batches.{AreMade}
use Rattle.fr_graph.specs.Network.{Network, net_of}
use Rattle.fr_nearest.specs.Distances.{IsRenewed}
use Rattle.fr_graph.specs.Counts.{links_at}
use Rattle.fr_route.specs.NodeWays.{HasDistances}
use Rattle.fr_route.specs.WayNotes.{LeadsOn}
use Rattle.fr_route.specs.WayPushes.{AreWayChanges}
use Rattle.fr_route.proofs.WaysTold.{pushes_same}
use Rattle.fr_crew.specs.Settlements.{HoldsSinks}
use Rattle.fr_route.specs.Listing.{HasPlaces, nodes_told, ways_told}
use Rattle.fr_crew.specs.Settlements.{IsCounted}
use Rattle.fr_route.specs.Forwarding.{CanTell}
use Rattle.fr_route.specs.KeptDistances.{KeepsDistances}
use Rattle.fr_route.specs.declared.kept_distances.KeptDistances.{KeptDistances}
use Rattle.fr_route.specs.Outcomes.{HoldsMoved, IsOutcome, movable, nodes_listed, settled_state}
use Rattle.fr_route.specs.Reroutes.{AreRerouted}
use Rattle.fr_route.specs.Routes.{AreHops}
use Rattle.fr_route.specs.RouterInside.{state_of}
use Rattle.fr_route.specs.States.{State, net_at}
use Rattle.fr_route.specs.Changes.{IsPlaced}
use Rattle.fr_route.proofs.CutNodes.{ended}
use Rattle.fr_route.proofs.Changing.{made_nodes}
use Rattle.fr_route.proofs.Inside.{sound_after, sound_again}
use Rattle.fr_route.proofs.Moving.{leads_on, made_net, movable_sinks, old_distances, unmoved_hops}
use Rattle.fr_route.proofs.ChangedHops.{listing_has}
use Rattle.fr_route.proofs.settling.Settler.edit.Given.{Over}
use Rattle.fr_route.proofs.settling.Settler.edit.Goals as goal
use Rattle.fr_route.proofs.settling.Settler.edit.Goals.{After-nodes-from, After-router, In_err-outcome, In_ok-outcome}

-- the router is unchanged when its network is edited
now_is : (g : Over) (c : After-router g) → state_of c.router.inside ≡ c.args.router.now
now_is g c = c.router.view_is

-- the nodes from which the round begins are those that can move
from_movable : (g : Over) (c : After-nodes-from g)
    → c.nodes-from.result.now
    ≡ movable (state_of c.router.inside) c.args.revision.now.dest c.args.revision.now.edits.now
from_movable g c = c.nodes-from.ensures
    ∙ subst (λ (now : State). nodes_listed c.in_ok-movable.movable ≡ movable now c.args.revision.now.dest
    c.args.revision.now.edits.now) (sym c.router.view_is) c.in_ok-movable.ensures.movable

in_range : (g : Over) (c : After-router g) → c.args.revision.now.dest < (state_of c.router.inside).nodes
in_range g c = subst (λ (now : State). c.args.revision.now.dest < now.nodes) (sym (now_is g c)) c.requires.node

-- the edits are made, and the outcome is that of the resulting network
edits_made : (g : Over) (c : In_ok-outcome g)
    → AreMade c.router.inside.net c.args.revision.now.edits.now c.edited_outcome.new.net
edits_made g c = c.in_ok-outcome.ensures.made.0

outcome_is : (g : Over) (c : In_ok-outcome g)
    → IsOutcome c.edited_outcome.new.net c.args.revision.now.dest c.in_ok-outcome.outcome
outcome_is g c = c.in_ok-outcome.ensures.made.1

pub edited_outcome-requires-clause-few : goal.edited_outcome-requires-clause-few
edited_outcome-requires-clause-few g c =
    (in_range g (goal.at.edited_outcome-requires-clause-few g c).After-router, c.in_ok-movable.ensures.few)

pub edited_outcome-requires-clause-from : goal.edited_outcome-requires-clause-from
edited_outcome-requires-clause-from g c = λ made is.
    let at = goal.at.edited_outcome-requires-clause-from g c in
    subst (HoldsSinks made c.args.revision.now.dest) (sym (from_movable g at.After-nodes-from))
    (movable_sinks (state_of c.router.inside) c.router.invariant.round c.args.revision.now.edits.now made
    c.args.revision.now.dest (in_range g at.After-router) is)

pub returns-in_err-movable : goal.returns-in_err-movable
returns-in_err-movable g c =
    let p = err_from_is_err_and c.from_residual.result c.from_residual.ensures.1 in
    rw (p.1, p.2) (record {
      made = tt;
      report = tt;
      rerouted = tt;
      ways = tt;
      asks = λ asks. asks;
      fault = c.in_err-movable.ensures.fault;
      unchanged = refl;
      untold = refl;
      untold_ways = pushes_same (ways_told c.args.told.now);
      no_start = λ _. c.in_err-movable.ensures.no_start;
    })

-- what the router keeps is ready for the change
pub begin_telling-requires-clause-kept : goal.begin_telling-requires-clause-kept
begin_telling-requires-clause-kept g c = (c.router.inside.turns, c.router.invariant.distances)

pub invariant_of-router : goal.invariant_of-router
invariant_of-router g c =
    sound_again c.router.inside _ c.begin_telling.new.distances c.router.inside.net c.router.invariant
    (c.begin_telling.ensures.keeps c.router.inside.turns) refl

pub returns-in_err-begin_telling : goal.returns-in_err-begin_telling
returns-in_err-begin_telling g c =
    let p = err_from_is_err_and c.from_residual-in_err-begin_telling.result
    c.from_residual-in_err-begin_telling.ensures.1 in
    rw (p.1, p.2) (record {
      made = tt;
      report = tt;
      rerouted = tt;
      ways = tt;
      asks = c.begin_telling.ensures.list.ways.0;
      fault = c.in_ok-movable.ensures.few;
      unchanged = search rules;
      untold = c.begin_telling.ensures.list.nodes;
      untold_ways = c.begin_telling.ensures.same;
      no_start = λ _ e. absurd cc;
    })

pub returns-in_err-outcome : goal.returns-in_err-outcome
returns-in_err-outcome g c =
    let at = goal.at.returns-in_err-outcome g c in
    let p = err_from_is_err_and c.from_residual-in_err-outcome.result c.from_residual-in_err-outcome.ensures.1 in
    rw (p.1, p.2) (record {
      made = tt;
      report = tt;
      rerouted = tt;
      ways = tt;
      asks = c.begin_telling.ensures.list.ways.0;
      fault =
          subst (λ (now : State). IsPlaced now c.args.revision.now.edits.now c.args.revision.now.dest
          c.in_err-outcome.field-0.0) (now_is g at.After-router)
          (c.in_err-outcome.ensures.fault c.router.inside.dest c.router.inside.turns);
      unchanged = search rules;
      untold = c.begin_telling.ensures.list.nodes;
      untold_ways = c.begin_telling.ensures.same;
      no_start = c.in_err-outcome.ensures.no_start;
    })

pub invariant_of-router-in_err-outcome : goal.invariant_of-router-in_err-outcome
invariant_of-router-in_err-outcome g c =
    sound_again c.router.inside _ c.begin_telling.new.distances c.edited_outcome.new.net c.router.invariant
    (c.begin_telling.ensures.keeps c.router.inside.turns) c.in_err-outcome.ensures.unchanged

-- the outcome is for the requested destination
same_dest : (g : Over) (c : In_ok-outcome g) → c.in_ok-outcome.outcome.dest ≡ c.args.revision.now.dest
same_dest g c = (outcome_is g c).dest

nodes_made : (g : Over) (c : In_ok-outcome g) → c.edited_outcome.new.net.nodes ≡ c.router.inside.net.nodes
nodes_made g c =
    made_nodes c.router.inside.net c.args.revision.now.edits.now c.edited_outcome.new.net (edits_made g c)

pub follow-requires-clause-follows : goal.follow-requires-clause-follows
follow-requires-clause-follows g c =
    let at = goal.at.follow-requires-clause-follows g c in
    let s : State = state_of c.router.inside in
    let net : Network = c.edited_outcome.new.net in
    let d = c.args.revision.now.dest in
    let edits = c.args.revision.now.edits.now in
    let counts : List ℕ = c.in_ok-outcome.outcome.turns in
    let kept : KeptDistances = c.begin_telling.new.distances in
    let below = in_range g at.After-router in
    let made = edits_made g at.In_ok-outcome in
    let nodes = nodes_made g at.In_ok-outcome in
    let outcome = outcome_is g at.In_ok-outcome in
    let keeps : KeepsDistances s kept = c.begin_telling.ensures.keeps c.router.inside.turns in
    let moved : HoldsMoved (settled_state net d counts) c.router.inside.forwarding.hops.items c.nodes-from.result.now =
    subst (HoldsMoved (settled_state net d counts) c.router.inside.forwarding.hops.items)
    (sym (from_movable g at.After-nodes-from))
    (unmoved_hops s c.router.invariant.round edits net d below made counts outcome.counts
    c.router.inside.forwarding.hops.items c.router.invariant.hops) in
    record {
      counted = subst (λ (e : ℕ). IsCounted net.nodes e net.links counts) (sym outcome.dest) outcome.counts;
      one_each = c.router.invariant.hops.one_each ∙ sym nodes;
      moved_hops = subst (λ (e : ℕ). HoldsMoved (settled_state net e counts) c.router.inside.forwarding.hops.items
          c.nodes-from.result.now) (sym outcome.dest) moved;
      measured = keeps.one_each ∙ sym nodes;
      old = λ are_kept.
          old_distances s c.router.invariant.round edits net d below made counts outcome.counts kept.table
          (keeps.distances are_kept);
      room = c.router.invariant.room ∙ sym nodes;
    }

-- the list and the notes are ready
can_tell : (g : Over) (c : In_ok-outcome g)
    → CanTell (state_of c.router.inside) c.edited_outcome.new.net c.in_ok-outcome.outcome c.args.revision.now.edits.now
    (record c.router.inside.forwarding { distances = c.begin_telling.new.distances }) c.begin_telling.new.told
can_tell g c =
    let s : State = state_of c.router.inside in
    let net : Network = c.edited_outcome.new.net in
    let d = c.args.revision.now.dest in
    let edits = c.args.revision.now.edits.now in
    let outcome = c.in_ok-outcome.outcome in
    let is : IsOutcome net d outcome = outcome_is g c in
    let counts : List ℕ = outcome.turns in
    let kept : KeptDistances = c.begin_telling.new.distances in
    let below : d < s.nodes = subst (λ (now : State). d < now.nodes) (sym c.router.view_is) c.requires.node in
    let keeps : KeepsDistances s kept = c.begin_telling.ensures.keeps c.router.inside.turns in
    record {
      places = λ listing. subst (λ (n : ℕ). HasPlaces n c.begin_telling.new.told) (sym (nodes_made g c))
          (c.in_ok-begin_telling.ensures.room (c.begin_telling.ensures.list.listing listing));
      measured = c.in_ok-begin_telling.ensures.measured;
      leads = λ new renewed notes begun.
          let has : HasDistances s kept.table =
          keeps.distances (c.in_ok-begin_telling.ensures.measured (notes, begun)) in
          subst (λ (e : ℕ). LeadsOn s (settled_state net e counts) edits new notes) (sym is.dest)
          (leads_on s c.router.invariant.round edits net d below (edits_made g c) counts is.counts kept.table new
          notes has
          (subst (λ (e : ℕ). IsRenewed (net_of net.nodes (links_at net.links counts)) e kept.table new) is.dest renewed)
          (c.in_ok-begin_telling.ensures.begun notes begun));
    }

pub follow-requires-clause-tells : goal.follow-requires-clause-tells
follow-requires-clause-tells g c =
    (state_of c.router.inside, can_tell g (goal.at.follow-requires-clause-tells g c).In_ok-outcome)

pub invariant_of-router-2 : goal.invariant_of-router-2
invariant_of-router-2 g c =
    let at = goal.at.invariant_of-router-2 g c in
    let net : Network = c.edited_outcome.new.net in
    let counts : List ℕ = c.in_ok-outcome.outcome.turns in
    let outcome = outcome_is g at.In_ok-outcome in
    let followed = c.follow.ensures.followed in
    rw c.keep_turns.ensures
    (sound_after c.args.revision.now.dest counts c.keep_turns.new.spare c.follow.new.self c.in_ok-outcome.outcome.report
    net c.follow.new.net
    (made_net (state_of c.router.inside) c.args.revision.now.edits.now net c.router.invariant.round
    (edits_made g at.In_ok-outcome))
    outcome.counts outcome.report c.follow.ensures.net
    (subst (λ (d : ℕ). AreHops (settled_state net d counts) net.nodes c.follow.new.self.hops.items) outcome.dest
    followed.hops)
    (subst (λ (d : ℕ). KeepsDistances (settled_state net d counts) c.follow.new.self.distances) outcome.dest
    followed.distances)
    (followed.room ∙ (c.router.invariant.room ∙ sym (nodes_made g at.In_ok-outcome))))

pub returns : goal.returns
returns g c =
    let at = goal.at.returns g c in
    let s : State = state_of c.router.inside in
    let d = c.args.revision.now.dest in
    let edits = c.args.revision.now.edits.now in
    let net : Network = c.edited_outcome.new.net in
    let counts : List ℕ = c.in_ok-outcome.outcome.turns in
    let after : State = settled_state net d counts in
    let made = edits_made g at.In_ok-outcome in
    let outcome = outcome_is g at.In_ok-outcome in
    let followed = c.follow.ensures.followed in
    let now = now_is g at.After-router in
    let here : AreMade (net_at c.args.router.now) edits net =
    subst (λ (now : State). AreMade (net_at now) edits net) now made in
    rw (c.keep_turns.ensures, c.follow.ensures.net) (record {
      made = (
        c.in_ok-movable.ensures.few,
        (net, (here, ended net d counts (made_net s edits net c.router.invariant.round made) outcome.counts)),
      );
      report = outcome.report;
      rerouted = λ listing.
          let places = c.in_ok-begin_telling.ensures.room listing in
          subst (λ (now : State). AreRerouted now after (nodes_told c.follow.new.told)) now (record {
            before = c.router.inside.forwarding.hops.items;
            after = c.follow.new.self.hops.items;
            were = c.router.invariant.hops;
            are = subst (λ (e : ℕ). AreHops (settled_state net e counts) net.nodes c.follow.new.self.hops.items)
                outcome.dest followed.hops;
            order = followed.rerouted (listing_has c.router.inside.net.nodes c.begin_telling.new.told places);
          });
      ways = λ asks.
          let noted = ways_told c.follow.new.told in
          subst (λ (now : State). AreWayChanges now after noted.shrink noted.grow) now
          (subst (λ (e : ℕ). AreWayChanges s (settled_state net e counts) noted.shrink noted.grow) outcome.dest
          (followed.ways s (can_tell g at.In_ok-outcome) (c.begin_telling.ensures.list.ways.0 asks)));
      asks = λ asks. followed.asks (c.begin_telling.ensures.list.ways.0 asks);
      fault = tt;
      unchanged = tt;
      untold = tt;
      untold_ways = tt;
      no_start = λ h. tt;
    })
