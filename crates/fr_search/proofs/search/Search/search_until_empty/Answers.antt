use Rattle.fr_search.proofs.Marks.{kept_same, kept_through}
use Rattle.fr_search.proofs.search.Search.search_until_empty.Goals as goal

pub walk-init : goal.walk-init
walk-init g c = record { search = c.requires; kept = kept_same _ }

pub search_one_step-requires-clause-search : goal.search_one_step-requires-clause-search
search_one_step-requires-clause-search g c = c.walk.invariant.search

pub returns-in-Some-clause-on : goal.returns-in-Some-clause-on
returns-in-Some-clause-on g c =
    let on = c.in_ok-node.ensures.on in
    record { search = on.search; kept = kept_through c.walk.invariant.kept on.kept; back = rw c.in-Some.is at on.back }

pub walk-smaller : goal.walk-smaller
walk-smaller g c = rw c.in_default.is at c.in_ok-node.ensures.fewer

pub walk-preserved : goal.walk-preserved
walk-preserved g c =
    let on = c.in_ok-node.ensures.on in
    record { search = on.search; kept = kept_through c.walk.invariant.kept on.kept }

pub returns-clause-on : goal.returns-clause-on
returns-clause-on g c = record { search = c.walk.invariant.search; kept = c.walk.invariant.kept; back = tt }
