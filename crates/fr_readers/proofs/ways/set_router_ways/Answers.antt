use Rattle.std.proofs.Common.{List, ap, arith, length, length-set, subst, sym, take, ℕ, ◌+◌, ◌<◌, ◌∙◌, ◌≡◌}
use Rattle.fr_route.specs.NodeWays.{AreNodeWays}
use Rattle.fr_route.specs.States.{State}
use Rattle.fr_ways.specs.Ways.{ways}
use Rattle.fr_readers.proofs.FirstWays.{set_each, ways_low}
use Rattle.fr_readers.proofs.ways.set_router_ways.Goals as goal

pub set-requires-clause-low : goal.set-requires-clause-low
set-requires-clause-low c =
    let s = c.args.router.now in
    let list : List ℕ = take c.write_ways-count.result c.write_ways-count.new.space in
    let are : AreNodeWays s c.loop-x.x list =
    subst (λ (r : State). AreNodeWays r c.loop-x.x list) c.loop-x.invariant.same c.write_ways-count.ensures.ways in
    ways_low s c.requires.settled c.loop-x.x list are

pub loop-x-preserved : goal.loop-x-preserved
loop-x-preserved c =
    let inv = c.loop-x.invariant in
    let s = c.args.router.now in
    let x : ℕ = c.loop-x.x in
    let wanted = c.loop-x.wanted in
    let list : List ℕ = take c.write_ways-count.result c.write_ways-count.new.space in
    let are : AreNodeWays s x list =
    subst (λ (r : State). AreNodeWays r x list) inv.same c.write_ways-count.ensures.ways in
    let below : x < s.nodes = omega (arith, c.loop-x-test.true, c.nodes-x-end.ensures.value, c.net.ensures.nodes) in
    let low : x < length wanted = omega (arith, below, inv.long, c.requires.settled.few) in
    record {
      same = c.write_ways-count.ensures.same ∙ inv.same;
      long = ap length c.set.ensures ∙ (length-set wanted x (take 5 list) ∙ inv.long);
      space = c.write_ways-count.ensures.length ∙ inv.space;
      low = omega (arith, below);
      each = subst
          (λ (t : List (List ℕ)). (y : ℕ) → y < x + 1 → (l : List ℕ) × AreNodeWays s y l × (ways t y ≡ take 5 l))
          (sym c.set.ensures) (set_each (AreNodeWays s) (λ (y : ℕ). y) x wanted list low inv.each are);
    }

pub returns-clause-each : goal.returns-clause-each
returns-clause-each c = λ x low.
    c.loop-x.invariant.each x
    (omega (arith, low, c.loop-x-test.false, c.nodes-x-end.ensures.value, c.net.ensures.nodes))
