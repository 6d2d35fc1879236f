use Rattle.fr_graph.specs.Links.{IsNet}
use Rattle.fr_graph.proofs.Linking.{IsOneWay, one_way}
use Rattle.revdot.proofs.Following.{links_follow}
use Rattle.revdot.proofs.changes.follow_law.Goals as goal

pub returns : goal.returns
returns c =
    let old : IsNet c.args.before.now.nodes c.args.before.now.links = c.network_law.ensures.is_net in
    let new : IsNet c.args.after.now.nodes c.args.after.now.links = c.network_law-2.ensures.is_net in
    let one : IsOneWay c.args.before.now.links = one_way c.args.before.now.links old.no_self old.single in
    let two : IsOneWay c.args.after.now.links = one_way c.args.after.now.links new.no_self new.single in
    links_follow c.args.before.now.links c.args.after.now.links one two
