use Rattle.std.proofs.Common.{inl, refl}
use Rattle.fr_route.proofs.Changing.{too_many_named}
use Rattle.fr_route.proofs.router.Router.turn_candidates.Goals as goal

pub returns-then-revision-gt-MAX_EDITS-clause-fault : goal.returns-then-revision-gt-MAX_EDITS-clause-fault
returns-then-revision-gt-MAX_EDITS-clause-fault c =
    (inl (c.if-revision-gt-MAX_EDITS.true, refl, refl), λ before made d. too_many_named before _)
