use Rattle.std.proofs.Common.{List, ap, arith, replicate, ◌++◌, ◌∙◌, ◌∷◌, ◌≡◌, [], ℕ}
use Rattle.fr_nearest.specs.Distances.{no_distance}
use Rattle.fr_nearest.proofs.Measuring.{distances_of}
use Rattle.fr_nearest.proofs.Reaching.{all_reached, begins}
use Rattle.fr_nearest.proofs.search.measure_all.Goals as goal

pub loop-read-init : goal.loop-read-init
loop-read-init c =
    let n = c.args.net.now.nodes in
    let fresh : c.fill.new.self ≡ replicate n no_distance =
    c.fill.ensures.after (λ y e. e) ∙ ap (λ (k : ℕ). replicate k no_distance) c.requires.one_each in
    let list : c.push_reserved.new.self.items ≡ c.args.dest ∷ [] =
    c.push_reserved.ensures.items ∙ ap (λ (xs : List ℕ). xs ++ c.args.dest ∷ []) c.clear.ensures.items in
    record {
      search =
          rw (fresh, list) (begins c.args.net.now c.args.dest c.network_law.ensures.limits.nodes_few c.requires.node);
      room = c.push_reserved.ensures.capacity ∙ c.clear.ensures.capacity;
    }

pub returns-clause-distances : goal.returns-clause-distances
returns-clause-distances c =
    distances_of _ _ _ _
    (all_reached c.loop-read.read c.network_law.ensures.is_net c.network_law.ensures.limits.nodes_few
    c.loop-read.invariant.search (omega (arith, c.loop-read-test.false, c.len.ensures, c.loop-read.list.ok.0)))

pub returns-clause-small : goal.returns-clause-small
returns-clause-small c =
    (all_reached c.loop-read.read c.network_law.ensures.is_net c.network_law.ensures.limits.nodes_few
    c.loop-read.invariant.search (omega (arith, c.loop-read-test.false, c.len.ensures, c.loop-read.list.ok.0))).small
