use Rattle.std.proofs.Common.{IfOk, length, replicate, subst, sym, take, ℕ, ◌++◌, ◌-◌, ◌≡◌, ◌≤◌}
use Rattle.std.proofs.lemmas.Result.{IfOk-weaker}
use Rattle.fr_route.specs.Outcomes.{IsSettledTable}
use Rattle.fr_route.specs.RouterInside.{state_of}
use Rattle.fr_route.specs.Routes.{AreHops}
use Rattle.fr_route.specs.States.{State}
use Rattle.fr_route.proofs.SettledHops.{resized_table}
use Rattle.fr_tables.specs.declared.hop.Hop.TheVariants.{CutOff}
use Rattle.fr_route.proofs.router.Router.hops_below.Goals as goal

pub returns : goal.returns
returns c =
    let s : State = state_of c.self.inside in
    let n : ℕ = c.args.count in
    let table = c.deref.result.now in
    let hops : AreHops s s.nodes table = rw c.deref.ensures.value c.self.invariant.hops in
    let enough : s.nodes ≤ n = subst (λ (now : State). now.nodes ≤ n) (sym c.self.view_is) c.requires in
    let made = resized_table s c.self.invariant.round table n hops enough in
    subst (λ (now : State). IfOk c.resized_hops.result (λ r. IsSettledTable now n r.items)) c.self.view_is
    (IfOk-weaker c.resized_hops.result (λ r. r.items ≡ take n table
    ++ replicate (n - length table) CutOff) (λ r. IsSettledTable s n r.items)
    (λ r is. subst (IsSettledTable s n) (sym is) made) c.resized_hops.ensures)
