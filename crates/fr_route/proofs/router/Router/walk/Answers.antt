use Rattle.std.proofs.Common.{ap, arith, length, rules, subst, sym, [], ◌++◌, ◌+◌, ◌<◌, ◌∙◌, ◌∷◌, ◌≡◌}
use Rattle.std.proofs.lemmas.List.{length_push}
use Rattle.fr_graph.specs.Links.{IsNet}
use Rattle.fr_route.specs.States.{State}
use Rattle.fr_route.proofs.Walking.{HasWalked, walk_begins, walk_ends, walk_in_range, walk_short, walks_on}
use Rattle.fr_tables.specs.declared.hop.Hop.TheVariants.{CutOff}
use Rattle.fr_route.proofs.router.Router.walk.Goals as goal

pub hops-init : goal.hops-init
hops-init c =
    let open_hop : ¬ (c.next_hop.result ≡ CutOff) = search rules in
    let items : c.push.new.self.items ≡ c.args.x ∷ [] =
    c.in_ok-push.ensures.items ∙ ap (λ l. l ++ c.args.x ∷ []) c.in_ok-route.ensures.items in
    subst (HasWalked c.args.self.now c.args.x c.args.x) (sym items)
    (walk_begins c.args.self.now c.args.x c.next_hop.result c.next_hop.ensures open_hop)

pub next_hop-requires-in-hops : goal.next_hop-requires-in-hops
next_hop-requires-in-hops c =
    let net : IsNet c.args.self.now.nodes c.args.self.now.links =
    subst (λ (s : State). IsNet s.nodes s.links) c.self.view_is c.network_law.ensures.is_net in
    let below : c.args.self.now.dest < c.args.self.now.nodes =
    subst (λ (s : State). s.dest < s.nodes) c.self.view_is c.self.invariant.dest in
    walk_in_range c.args.self.now c.args.x c.hops.at c.hops.route.items net below c.hops.invariant

pub hops-smaller : goal.hops-smaller
hops-smaller c =
    let net : IsNet c.args.self.now.nodes c.args.self.now.links =
    subst (λ (s : State). IsNet s.nodes s.links) c.self.view_is c.network_law.ensures.is_net in
    let below : c.args.self.now.dest < c.args.self.now.nodes =
    subst (λ (s : State). s.dest < s.nodes) c.self.view_is c.self.invariant.dest in
    let items : c.push-in-To.new.self.items ≡ c.hops.route.items ++ c.in-To.next ∷ [] = c.in_ok-push-2.ensures.items in
    let short = walk_short c.args.self.now c.args.x c.in-To.next (c.hops.route.items ++ c.in-To.next ∷ []) net below
    (walks_on c.args.self.now c.args.x c.hops.at c.in-To.next c.hops.route.items c.hops.invariant c.in-To.ensures) in
    let longer : length c.push-in-To.new.self.items ≡ length c.hops.route.items + 1 =
    ap length items ∙ length_push c.hops.route.items c.in-To.next in
    omega (arith, short, longer, length_push c.hops.route.items c.in-To.next)

pub hops-preserved : goal.hops-preserved
hops-preserved c =
    let items : c.push-in-To.new.self.items ≡ c.hops.route.items ++ c.in-To.next ∷ [] = c.in_ok-push-2.ensures.items in
    subst (HasWalked c.args.self.now c.args.x c.in-To.next) (sym items)
    (walks_on c.args.self.now c.args.x c.hops.at c.in-To.next c.hops.route.items c.hops.invariant c.in-To.ensures)

pub returns : goal.returns
returns c = record {
  walked = walk_ends c.args.self.now c.args.x c.hops.at c.hops.route.items c.hops.invariant c.next_hop-in-hops.result
      c.next_hop-in-hops.ensures (λ next. c.in_default.not-To next);
  memory = tt;
}
