use Rattle.std.proofs.Common.{arith, slice_index, ⊎_elim, ◌<◌, ◌≤◌}
use Rattle.fr_nearest.specs.Local.{IsByLinks}
use Rattle.fr_nearest.proofs.Updating.{by_least, raises_none, set_raises}
use Rattle.fr_nearest.proofs.update.raise_distance.Goals as goal
use Rattle.fr_nearest.proofs.update.raise_distance.Goals.{then-x-dest-via-then-x-dest, then-x-dest-via-else-x-dest+then-old}

pub returns-then-x-dest-clause-raised : goal.returns-then-x-dest-clause-raised
returns-then-x-dest-clause-raised c = λ _. raises_none c.requires.listed c.requires.small (elim c.then-x-dest.branch [
  | then-x-dest-via-then-x-dest w ↦ λ apart _. absurd (apart w.if-x-dest.true)
  | then-x-dest-via-else-x-dest+then-old w ↦ λ _ some. absurd (some w.if-old.true)
])

pub returns-then-least-old-clause-raised : goal.returns-then-least-old-clause-raised
returns-then-least-old-clause-raised c =
    let net = c.args.net.now in
    let old = slice_index c.args.distances.now c.args.x in
    let low : old ≤ net.nodes = ⊎_elim (λ none. absurd (c.if-old.false none)) (λ le. le) (c.requires.small c.args.x) in
    let few = c.network_law.ensures.limits.nodes_few in
    let next = c.least_way_distance-least.ensures.from (λ none. omega (arith, none, c.if-least-old.true, low, few)) in
    λ _. raises_none c.requires.listed c.requires.small
    (λ _ _. (next.0, next.1, omega (arith, next.2, c.if-least-old.true)))

pub returns-else-least-old-clause-raised : goal.returns-else-least-old-clause-raised
returns-else-least-old-clause-raised c =
    let net = c.args.net.now in
    let r = c.requires in
    let table = c.args.distances.now in
    let few = c.network_law.ensures.limits.nodes_few in
    let low : slice_index table c.args.x ≤ net.nodes =
    ⊎_elim (λ none. absurd (c.if-old.false none)) (λ le. le) (r.small c.args.x) in
    let by : IsByLinks net.links c.args.dest table c.args.x c.one_link_farther.result =
    rw c.one_link_farther.ensures (by_least c.if-x-dest.false c.least_way_distance-least.ensures c.if-least-old.false) in
    let less : slice_index table c.args.x < c.one_link_farther.result =
    omega (arith, c.one_link_farther.ensures, c.if-least-old.false, low, few) in
    λ t. set_raises c.network_law.ensures.is_net few r.one_each r.small r.node by (c.set_distance.ensures.set t)
    c.if-x-dest.false less
