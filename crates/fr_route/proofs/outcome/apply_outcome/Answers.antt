use Rattle.std.proofs.Common.{◌≡◌, ◌∙◌, ap, length, subst, sym, ℕ}
use Rattle.fr_graph.specs.Counts.{links_at}
use Rattle.fr_graph.specs.Network.{Network, net_of}
use Rattle.fr_core.proofs.Unique.{settled_lawful}
use Rattle.fr_route.specs.Listing.{nodes_told}
use Rattle.fr_route.specs.Outcomes.{AreNoted, HoldsMoved, settled_state}
use Rattle.fr_route.specs.Routes.{AreHops}
use Rattle.fr_route.specs.States.{IsAfterRound, State, state_with}
use Rattle.fr_route.proofs.CutNodes.{after_outcome}
use Rattle.fr_route.proofs.ChangedHops.{noted_first, others_noted}
use Rattle.fr_route.proofs.outcome.apply_outcome.Goals as goal
use Rattle.fr_route.proofs.outcome.apply_outcome.Goals.{After-turn}

turned : (c : After-turn)
    → c.turn.new.self ≡ net_of c.args.net.now.nodes (links_at c.args.net.now.links c.args.outcome.now.turns)
turned c = c.turn.ensures.is

-- the hops are updated in the state after the round
reached : (c : After-turn) → state_with c.turn.new.self c.args.outcome.now.dest c.args.outcome.now.turns ≡ settled_state
    c.args.net.now c.args.outcome.now.dest c.args.outcome.now.turns
reached c = ap (λ (m : Network). state_with m c.args.outcome.now.dest c.args.outcome.now.turns) (turned c)

pub turn-requires-clause-kept : goal.turn-requires-clause-kept
turn-requires-clause-kept c =
    let net = c.args.net.now in
    (settled_lawful net.nodes c.args.outcome.now.dest net.links c.network_law.ensures.is_net
    c.requires.counted.destination
    c.args.outcome.now.turns c.requires.counted.settled).kept

pub renew_hops-requires-clause-round : goal.renew_hops-requires-clause-round
renew_hops-requires-clause-round c =
    subst IsAfterRound (sym (reached (goal.at.renew_hops-requires-clause-round c).After-turn))
    (after_outcome c.args.net.now c.args.outcome.now.dest c.args.outcome.now.turns c.network_law.ensures.is_net
    c.requires.counted)

pub renew_hops-requires-clause-one_each : goal.renew_hops-requires-clause-one_each
renew_hops-requires-clause-one_each c = c.requires.one_each
    ∙ ap (λ (m : Network). m.nodes) (sym (turned (goal.at.renew_hops-requires-clause-one_each c).After-turn))

pub renew_hops-requires-clause-moved : goal.renew_hops-requires-clause-moved
renew_hops-requires-clause-moved c =
    subst (λ (s : State). HoldsMoved s c.args.hops.now c.args.moved.now)
    (sym (reached (goal.at.renew_hops-requires-clause-moved c).After-turn)) c.requires.moved

pub returns-clause-hops : goal.returns-clause-hops
returns-clause-hops c =
    let at = (goal.at.returns-clause-hops c).After-turn in
    let after = settled_state c.args.net.now c.args.outcome.now.dest c.args.outcome.now.turns in
    let nodes : c.turn.new.self.nodes ≡ c.args.net.now.nodes = ap (λ (m : Network). m.nodes) (turned at) in
    subst (λ (n : ℕ). AreHops after n c.renew_hops.new.hops) nodes
    (subst (λ (s : State). AreHops s c.turn.new.self.nodes c.renew_hops.new.hops) (reached at)
    c.renew_hops.ensures.hops)

pub returns-clause-told : goal.returns-clause-told
returns-clause-told c =
    let renewed = c.renew_hops.ensures.noted in
    let cleared = c.clear.ensures.keeps in record {
      keeps =
          record {
            places = λ n has. renewed.keeps.places n (cleared.places n has);
            listing = λ is. cleared.listing (renewed.keeps.listing is);
            notes = renewed.keeps.notes ∙ cleared.notes;
          };
      others = λ room.
          let s : State = state_with c.turn.new.self c.args.outcome.now.dest c.args.outcome.now.turns in
          let hops = c.args.hops.now in
          let noted : AreNoted s hops c.renew_hops.new.hops (nodes_told c.renew_hops.new.told) =
          renewed.noted (cleared.places (length hops) room) hops
          (subst (AreNoted s hops hops) (sym c.clear.ensures.none) (noted_first s hops)) in
          others_noted s hops c.renew_hops.new.hops (nodes_told c.renew_hops.new.told) noted;
    }
