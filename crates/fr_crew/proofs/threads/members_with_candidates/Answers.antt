use Rattle.std.proofs.Common.{arith}
use Rattle.std.proofs.lemmas.List.{with_items_is}
use Rattle.fr_crew.proofs.threads.members_with_candidates.Goals as goal

pub returns-clause-own : goal.returns-clause-own
returns-clause-own g c =
    let round = c.args.round.now in
    let dealt =
    c.deal_first_candidates.ensures.own round
    (rw c.deref_mut.ensures.value (c.in_ok-all.ensures.own round c.requires.own)) in
    rw (with_items_is c.in_ok-all.all.members c.deal_first_candidates.new.members (omega (
      arith,
      c.deal_first_candidates.auto.members,
      c.deref_mut.ensures.len,
    ))) dealt
