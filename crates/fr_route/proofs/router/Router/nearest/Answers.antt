use Rattle.std.proofs.Common.{List, subst, ℕ, ◌∷◌, ◌≡◌}
use Rattle.fr_graph.specs.Links.{HasPath}
use Rattle.fr_nearest.specs.Ways.{IsNearestWalk}
use Rattle.fr_route.specs.NodeWays.{IsNearest}
use Rattle.fr_route.specs.RouterInside.{state_of}
use Rattle.fr_route.specs.States.{State}
use Rattle.fr_route.specs.declared.hops.Walked.TheVariants.{CutOff, Route}
use Rattle.fr_route.proofs.NodeWays.{cut_without}
use Rattle.fr_route.proofs.router.Router.nearest.Goals as goal
use Rattle.fr_route.proofs.router.Router.nearest.Goals.{in-None, in-Some}

pub returns-clause-walked : goal.returns-clause-walked
returns-clause-walked c =
    let x = c.args.x in
    let s : State = state_of c.self.inside in
    elim c.match-branch-2.branch [
      | in-Some w ↦
          let route = w.in-Some.route in
          let walk = rw w.in-Some.is at c.in_ok-route.ensures in
          rw w.result-is (subst (λ (now : State). IsNearest now x (Route route)) c.self.view_is
          (subst (λ (d : ℕ). (rest : List ℕ) × IsNearestWalk s.links d x rest × (route.items ≡ x ∷ rest))
          c.keep_from_now.ensures.dest walk))
      | in-None w ↦
          let none = rw w.in-None.is at c.in_ok-route.ensures in
          rw w.result-is (subst (λ (now : State). IsNearest now x CutOff) c.self.view_is
          (cut_without s c.self.invariant.round x
          (subst (λ (d : ℕ). ¬ HasPath s.links x d) c.keep_from_now.ensures.dest none)))
    ]
