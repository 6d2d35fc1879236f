use Rattle.std.proofs.Common.{Option, ap, arith, subst, sym, ◌∙◌, ◌≡◌}
use Rattle.fr_route.specs.States.{State}
use Rattle.fr_readers.specs.Published.{AreFirstWays}
use Rattle.fr_readers.proofs.FirstWays.{all_blank}
use Rattle.fr_readers.proofs.ways.set_session_ways.Goals as goal

pub returns-in-Some-clause-ways : goal.returns-in-Some-clause-ways
returns-in-Some-clause-ways c =
    let wanted = c.clear_ways_from.new.wanted in
    let nodes : c.nodes.result ≡ c.in-Some.router.now.nodes =
    c.nodes.ensures.value ∙ (c.net.ensures.nodes ∙ ap (λ (s : State). s.nodes) c.set_router_ways.ensures.same) in
    subst (λ (s : Option State). AreFirstWays s wanted) (sym c.in-Some.ensures.value) (record {
      one_each = c.clear_ways_from.ensures.long;
      each = λ x low.
          let (list, are, is) = c.set_router_ways.ensures.each x low in
          (list, are, c.clear_ways_from.ensures.others x (omega (arith, low, nodes)) ∙ is);
      others = λ x high. c.clear_ways_from.ensures.none x (omega (arith, high, nodes));
    })

pub returns-in-None-clause-ways : goal.returns-in-None-clause-ways
returns-in-None-clause-ways c =
    let wanted = c.clear_ways_from-in-None.new.wanted in
    subst (λ (s : Option State). AreFirstWays s wanted) (sym c.in-None.ensures.value)
    (all_blank wanted c.clear_ways_from-in-None.ensures.long
    (λ x. c.clear_ways_from-in-None.ensures.none x (omega arith)))
