use Rattle.std.proofs.Common.{length, subst, List, ℕ, ◌*◌, ◌+◌}
use Rattle.fr_route.specs.Listing.{nodes_told}
use Rattle.fr_route.specs.Rooms.{Fits, lists_size}
use Rattle.fr_ways.specs.Changes.{Noted}
use Rattle.fr_route.proofs.reports.push_report_in_form.Goals as goal

pub returns-in-JsonWithWays-clause-room : goal.returns-in-JsonWithWays-clause-room
returns-in-JsonWithWays-clause-room c =
    let line = c.args.line.now in
    let new = c.push_report_with_ways.new.line in
    let result = c.push_report_with_ways.result in
    let told = nodes_told c.args.told.now in
    let ways = c.way_changes.result.now in
    rw c.in-JsonWithWays.is (subst (λ (w : Noted). Fits line new result
    (100 + 24 * length told + (lists_size w.shrink + lists_size w.grow))) c.way_changes.ensures
    (subst (λ (xs : List ℕ). Fits line new result (100 + 24 * length xs
    + (lists_size ways.shrink + lists_size ways.grow)))
    c.nodes-in-JsonWithWays.ensures
    (c.push_report_with_ways.ensures.room ways.shrink ways.grow c.from_changes-phases.ensures)))
