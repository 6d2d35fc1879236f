use Rattle.std.proofs.Common.{List, arith, length, slice_index, subst, sym, ℕ, ◌+◌}
use Rattle.fr_core.proofs.LevelSearches.{next_level, search_ends}
use Rattle.fr_core.proofs.LevelStarts.{search_starts}
use Rattle.fr_core.specs.LevelSearch.{IsLevelSearch}
use Rattle.fr_core.proofs.levels.settle.Goals as goal

pub loop-start-init : goal.loop-start-init
loop-start-init c =
    let net = c.args.net.now in
    rw (c.push.ensures, c.new-queue.ensures)
    (search_starts net.nodes c.args.dest net.links c.set_greatest_counts.new.counts (omega arith) c.requires.node
    c.set_greatest_counts.ensures)

pub start_next_level-requires-clause-search : goal.start_next_level-requires-clause-search
start_next_level-requires-clause-search c =
    let net = c.args.net.now in
    let q : List ℕ = c.complete_level.new.queue in
    let s =
    next_level net.nodes (slice_index c.loop-start.queue 0) net.links c.complete_level.new.counts q c.loop-start.start
    c.loop-start.count c.complete_level.ensures.search (omega (arith, c.complete_level.ensures.longer)) in
    subst (λ (d : ℕ). IsLevelSearch net.nodes d net.links c.complete_level.new.counts q (length q) c.loop-start.start
    (length q) (c.loop-start.count + 1)) (sym s.head) s

pub returns : goal.returns
returns c =
    let net = c.args.net.now in
    search_ends net.nodes c.args.dest net.links c.loop-start.counts c.loop-start.queue c.loop-start.start
    c.loop-start.count
    c.loop-start.invariant (omega arith)
