use Rattle.std.proofs.Common.{arith, get_or, length, length-set, set, sym, ◌+◌, ◌<◌, ◌∙◌, ◌≡◌}
use Rattle.std.proofs.lemmas.List.{get_or_default}
use Rattle.fr_graph.proofs.TurnedNodes.{first_turn, further_turn, place_left}
use Rattle.fr_graph.proofs.turns.Turns.add.Goals as goal
use Rattle.fr_graph.proofs.turns.Turns.add.Goals.{After-index-count, then-count-eq0, else-count-eq0}

inside : (c : After-index-count) → c.args.x < length c.self.inside.counts.items
inside c = rw c.self.view_is c.requires.node

count_is : (c : After-index-count) → get_or c.self.inside.counts.items c.args.x 0 ≡ c.index-count.result.now
count_is c =
    get_or_default c.self.inside.counts.items c.args.x 0 c.index-count.result.now (inside c) ∙ sym c.index-count.ensures

pub push_reserved-requires : goal.push_reserved-requires
push_reserved-requires c =
    let at = (goal.at.push_reserved-requires c).After-index-count in
    let left =
    place_left c.self.inside.counts.items c.self.inside.nodes.items c.args.x c.self.invariant.turned (inside at)
    (count_is at ∙ c.if-count-eq0.true) in
    omega (arith, left, c.self.invariant.room, c.self.inside.nodes.ok.0)

pub invariant_of-self : goal.invariant_of-self
invariant_of-self c =
    let at = (goal.at.invariant_of-self c).After-index-count in
    let counts = c.self.inside.counts.items in
    let x = c.args.x in
    let more = c.index-count.result.now + 1 in
    let long : length (set counts x more) ≡ length counts = length-set counts x more in
    elim c.if-count-eq0.branch [
      | then-count-eq0 w ↦ rw w.self-inside-is (record {
        few = omega (arith, long, c.self.invariant.few);
        turned = rw w.push_reserved.ensures.items
            (first_turn counts c.self.inside.nodes.items x more c.self.invariant.turned (inside at) (count_is at
            ∙ w.if-count-eq0.true) (omega arith));
        room = omega (arith, long, c.self.invariant.room, w.push_reserved.ensures.capacity);
      })
      | else-count-eq0 w ↦ rw w.self-inside-is (record {
        few = omega (arith, long, c.self.invariant.few);
        turned = further_turn counts c.self.inside.nodes.items x more c.self.invariant.turned (inside at)
            (omega (arith, count_is at, w.if-count-eq0.false)) (omega arith);
        room = omega (arith, long, c.self.invariant.room);
      })
    ]
