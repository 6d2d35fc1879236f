use Rattle.std.proofs.Common.{Some, ap, length, slice_get, subst, sym, ℕ, ◌<◌, ◌∙◌, ◌≡◌}
use Rattle.std.proofs.lemmas.Option.{slice_get-get_or}
use Rattle.fr_route.specs.Routes.{IsHop}
use Rattle.fr_route.specs.States.{State}
use Rattle.fr_route.proofs.router.Router.next_hop.Goals as goal

pub returns : goal.returns
returns c =
    let x : ℕ = c.args.x in
    let hops = c.self.inside.forwarding.hops.items in
    let hop = c.index.result.now in
    let below : x < c.self.inside.net.nodes = subst (λ (s : State). x < s.nodes) (sym c.self.view_is) c.requires in
    let low : x < length hops = subst (λ (n : ℕ). x < n) (sym c.self.invariant.hops.one_each) below in
    let at : slice_get hops x ≡ Some hop = slice_get-get_or hops x hop low ∙ ap Some (sym c.index.ensures) in
    subst (λ (s : State). IsHop s x hop) c.self.view_is (c.self.invariant.hops.each x hop at)
