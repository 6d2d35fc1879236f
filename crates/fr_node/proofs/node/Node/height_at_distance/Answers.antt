use Rattle.std.proofs.Common.{arith, subst, true, ℕ, ◌≡◌}
use Rattle.fr_node.specs.Links.{is_way}
use Rattle.fr_node.specs.Policies.{IsAtDistance}
use Rattle.fr_node.proofs.Least.{distance_once}
use Rattle.fr_node.proofs.Policies.{false_true, has_way}
use Rattle.fr_node.proofs.node.Node.height_at_distance.Goals as goal
use Rattle.fr_node.proofs.node.Node.height_at_distance.Goals.{then-not-self-via-then-not-self, then-not-self-via-else-not-self+then-distance, then-not-self-via-else-not-self+else-distance+then-height-self}

pub returns-then-not-self : goal.returns-then-not-self
returns-then-not-self c =
    let n = c.args.self.now in
    let same = λ (v : ℕ) (f : IsAtDistance n v). distance_once n v c.distance-distance.result f.distance
    c.distance-distance.ensures in
    elim c.then-not-self.branch [
      | then-not-self-via-then-not-self w ↦ λ v f. false_true _ w.if-not-self.true f.wanted
      | then-not-self-via-else-not-self+then-distance w ↦
          λ v f. f.near (omega (arith, same v f, w.if-distance.true))
      | then-not-self-via-else-not-self+else-distance+then-height-self w ↦
          λ v f. omega (arith, same v f, f.lower, w.if-height-self.true)
    ]

pub returns-then-has_way : goal.returns-then-has_way
returns-then-has_way c =
    let n = c.args.self.now in
    let d = c.distance-distance.result in
    record {
      wanted = c.if-not-self.false;
      distance = c.distance-distance.ensures;
      near = c.if-distance.false;
      lower = c.if-height-self.false;
      stays = (has_way (record n.own { used = d }) n.links.items _ d c.has_way.result c.deref.ensures.value
          c.has_way.ensures).0 c.if-has_way.true;
    }

pub returns-else-has_way : goal.returns-else-has_way
returns-else-has_way c =
    let n = c.args.self.now in
    let d = c.distance-distance.result in
    λ v f.
    let same = distance_once n v d f.distance c.distance-distance.ensures in
    false_true _ c.if-has_way.false
    ((has_way (record n.own { used = d }) n.links.items _ d c.has_way.result c.deref.ensures.value
    c.has_way.ensures).1 f.stays.0 f.stays.1
    (subst (λ (k : ℕ). is_way (record n.own { used = k }) f.stays.0 ≡ true) same f.stays.2)
    (omega (arith, same, f.stays.3)))
