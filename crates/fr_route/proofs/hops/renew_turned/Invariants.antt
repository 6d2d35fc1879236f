use Rattle.std.proofs.Common.{get_or, ℕ, ◌<◌}
use Rattle.fr_route.specs.Outcomes.{AreRenewed, NotesMore, SendsTo, state_after}
use Rattle.fr_route.proofs.hops.renew_turned.Given as goal

-- the hops that are left are not those of the nodes so far, or of neighbours that send on to them
abbrev pub invariant-loop-x : goal.invariant-loop-x
invariant-loop-x l = record {
  renewed : AreRenewed (state_after l.round) l.fn.hops l.hops (λ y hop. (j : ℕ) → j < l.x-index
      → ¬ SendsTo l.round.net.now.links (get_or l.x-items j 0) y hop);
  noted : NotesMore (state_after l.round) l.fn.hops l.fn.told l.hops l.told;
}
