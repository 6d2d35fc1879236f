use Rattle.std.proofs.Common.{arith, below_more, ◌∙◌, ◌≢◌}
use Rattle.fr_search.proofs.Ending.{all_left}
use Rattle.fr_search.proofs.Marks.{kept_same, kept_through}
use Rattle.fr_search.specs.Search.{mark_of}
use Rattle.fr_search.specs.declared.search.Mark.TheVariants.{Fresh}
use Rattle.fr_search.proofs.search.Search.search_from_each_node.Goals as goal

pub loop-root-init : goal.loop-root-init
loop-root-init g c = record { rest = c.requires.rest; kept = kept_same _; met = λ x l. absurd (omega (arith, l)) }

pub search_from_root-requires-clause-rest : goal.search_from_root-requires-clause-rest
search_from_root-requires-clause-rest g c = c.loop-root.invariant.rest

pub search_from_root-requires-clause-lower : goal.search_from_root-requires-clause-lower
search_from_root-requires-clause-lower g c = c.loop-root.invariant.met

pub search_from_root-requires-clause-root : goal.search_from_root-requires-clause-root
search_from_root-requires-clause-root g c = omega (arith, c.loop-root.invariant.kept.one_each, c.requires.one_each)

pub returns-in-Some-clause-on : goal.returns-in-Some-clause-on
returns-in-Some-clause-on g c =
    let on = c.in_ok-node.ensures.on in
    record {
      search = on.search;
      kept = kept_through c.loop-root.invariant.kept on.kept;
      back = rw c.in-Some.is at on.back;
    }

pub loop-root-preserved : goal.loop-root-preserved
loop-root-preserved g c =
    let visit = c.in_ok-node.ensures in
    let before = c.loop-root.invariant in
    record {
      rest = record { search = visit.on.search; empty = rw c.in_default.is at visit.empty };
      kept = kept_through before.kept visit.on.kept;
      met =
          below_more (λ x. mark_of c.search_from_root.new.self.marks.items x ≢ Fresh) c.loop-root.root
          (λ x l. visit.on.kept.seen x (before.met x l)) visit.met;
    }

pub returns : goal.returns
returns g c =
    let inv = c.loop-root.invariant in
    record {
      on = record { search = inv.rest.search; kept = inv.kept; back = tt };
      order = all_left c.args.nodes (g.R.Rows.shown c.args.rows.now) c.loop-root.self inv.rest
          (inv.kept.one_each ∙ c.requires.one_each) (λ x l. inv.met x (omega (arith, c.loop-root-test.false, l)));
    }
