use Rattle.std.proofs.Common.{subst}
use Rattle.fr_graph.proofs.Undoing.{put_back, put_stands, taken_back, taken_can_be_put, taken_room}
use Rattle.fr_graph.specs.Graph.{IsDone, shown}
use Rattle.fr_graph.specs.Network.{Network}
use Rattle.fr_graph.specs.declared.graph.Effect.{Effect}
use Rattle.fr_graph.specs.declared.graph.Effect.TheVariants.{Added, Removed}
use Rattle.fr_graph.proofs.graph.Graph.undo.Goals as goal
use Rattle.fr_graph.proofs.graph.Graph.undo.Goals.{In-Added, In-Removed}

taken : (c : In-Removed) (net : Network) → IsDone net c.args.done (shown c.args.self.now)
    → IsDone net (Removed c.in-Removed.tail c.in-Removed.head) (shown c.args.self.now)
taken c net done = subst (λ (d : Effect). IsDone net d (shown c.args.self.now)) c.in-Removed.is done

put : (c : In-Added) (net : Network) → IsDone net c.args.done (shown c.args.self.now)
    → IsDone net (Added c.in-Added.tail c.in-Added.head) (shown c.args.self.now)
put c net done = subst (λ (d : Effect). IsDone net d (shown c.args.self.now)) c.in-Added.is done

pub insert_link-requires-clause-link : goal.insert_link-requires-clause-link
insert_link-requires-clause-link c =
    let net = c.requires.done.0 in
    taken_can_be_put net c.in-Removed.tail c.in-Removed.head (shown c.args.self.now)
    (taken (goal.at.insert_link-requires-clause-link c).In-Removed net c.requires.done.1)

pub insert_link-requires-clause-room : goal.insert_link-requires-clause-room
insert_link-requires-clause-room c =
    let net = c.requires.done.0 in
    taken_room net c.in-Removed.tail c.in-Removed.head c.args.self.now c.requires.graph
    (taken (goal.at.insert_link-requires-clause-room c).In-Removed net c.requires.done.1) c.requires.done.2

pub remove_link-requires-clause-stands : goal.remove_link-requires-clause-stands
remove_link-requires-clause-stands c =
    let net = c.requires.done.0 in
    put_stands net c.in-Added.tail c.in-Added.head (shown c.args.self.now)
    (put (goal.at.remove_link-requires-clause-stands c).In-Added net c.requires.done.1)

pub returns-in-Removed-clause-undone : goal.returns-in-Removed-clause-undone
returns-in-Removed-clause-undone c = λ net done.
    taken_back net c.in-Removed.tail c.in-Removed.head (shown c.args.self.now) (shown c.insert_link.new.self)
    (taken (goal.at.returns-in-Removed-clause-undone c).In-Removed net done) c.insert_link.ensures.put

pub returns-in-Added-clause-undone : goal.returns-in-Added-clause-undone
returns-in-Added-clause-undone c = λ net done.
    put_back net c.in-Added.tail c.in-Added.head (shown c.args.self.now) (shown c.remove_link.new.self)
    (put (goal.at.returns-in-Added-clause-undone c).In-Added net done) c.remove_link.ensures.taken
