use Rattle.std.proofs.Common.{get_or, ℕ, ◌<◌, ◌≡◌}
use Rattle.fr_route.specs.Outcomes.{AreRenewed, NotesMore, state_after}
use Rattle.fr_route.proofs.hops.renew_listed.Given as goal

abbrev pub invariant-loop-x : goal.invariant-loop-x
invariant-loop-x l = record {
  renewed : AreRenewed (state_after l.round) l.fn.hops l.hops (λ y hop. (j : ℕ) → j < l.x-index
      → ¬ (get_or l.moved j y ≡ y));
  noted : NotesMore (state_after l.round) l.fn.hops l.fn.told l.hops l.told;
}
