use Rattle.std.proofs.Common.{◌≡◌, ◌∙◌, ◌++◌, string_bytes, sym, true}
use Rattle.std.proofs.lemmas.Result.{on_ok_weaker}
use Rattle.revdot.specs.Changes.{pushes_line}
use Rattle.revdot.specs.Stories.{is_told, net_text}
use Rattle.revdot.proofs.Telling.{round_told}
use Rattle.revdot.proofs.rounds.push_round.Goals as goal

pub returns : goal.returns
returns c =
    let s = c.in-Some.router.now in
    let nodes : c.nodes.result ≡ s.nodes = c.nodes.ensures.value ∙ c.net.ensures.nodes in
    let net : string_bytes c.push_net.new.story ≡ string_bytes c.args.story.now ++ net_text s.nodes s.dest =
    rw (nodes, c.dest.ensures.value) at c.in_ok-push_net.ensures in
    let small : is_told s ≡ true = sym c.is_told.ensures ∙ c.if-not-is_told.false in
    let turns = c.in_ok-push_turns.ensures in
    let result = c.in_ok-push_result.ensures in
    let hops = c.hops.result.now in
    let left = string_bytes c.push_result.new.story in
    let last = string_bytes c.push_pushes.new.story in
    on_ok_weaker c.push_pushes.result
    (λ (pushes : last ≡ left ++ pushes_line hops c.args.rerouted.now).
    round_told c.args.before.now.net c.args.before.now.ways s c.args.session.now turns.0 result.0 c.args.rerouted.now
    hops
    (string_bytes c.args.story.now) (string_bytes c.push_net.new.story) (string_bytes c.push_turns.new.story) left last
    c.in-Some.ensures small turns.1 result.1 c.hops.ensures net turns.2 result.2 pushes)
    c.push_pushes.ensures
