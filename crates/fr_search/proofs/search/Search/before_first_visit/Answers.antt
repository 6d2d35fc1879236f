use Rattle.fr_search.proofs.Ending.{begins}
use Rattle.fr_search.proofs.search.Search.before_first_visit.Goals as goal

pub returns-clause-rest : goal.returns-clause-rest
returns-clause-rest c = λ rows below. record {
  search = rw (
    c.in_ok-vec.ensures.items_if_clones_equal (λ y e. e),
    c.new.ensures.items,
    c.in_ok-with_capacity.ensures.items,
  )
      (begins c.args.nodes rows below);
  empty = c.new.ensures.items;
}
