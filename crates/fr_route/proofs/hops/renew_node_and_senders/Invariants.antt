use Rattle.std.proofs.Common.{◌≡◌}
use Rattle.fr_route.specs.Outcomes.{AreRenewed, NotesMore, state_after}
use Rattle.fr_route.proofs.Renewing.{NoneSends}
use Rattle.fr_route.proofs.hops.renew_node_and_senders.Given as goal

abbrev pub invariant-loop-w : goal.invariant-loop-w
invariant-loop-w l = record {
  renewed : AreRenewed (state_after l.round) l.fn.hops l.hops (λ y hop. (¬ (y ≡ l.x))
      × NoneSends l.row l.w-index l.x y hop);
  noted : NotesMore (state_after l.round) l.fn.hops l.fn.told l.hops l.told;
}
