use Rattle.std.proofs.Common.{ap, arith, length, ◌≡◌}
use Rattle.std.proofs.lemmas.Result.{IfOk-weaker}
use Rattle.fr_search.proofs.Ending.{met_done}
use Rattle.fr_search.proofs.Marks.{kept_same, kept_through}
use Rattle.fr_search.proofs.search.Search.search_from_root.Goals as goal

pub push_on_path-requires-clause-fresh : goal.push_on_path-requires-clause-fresh
push_on_path-requires-clause-fresh g c = c.has_visited.ensures.fresh (λ is. cc (is, c.if-has_visited.false))

pub returns-then-has_visited : goal.returns-then-has_visited
returns-then-has_visited g c = record {
  on = record { search = c.requires.rest.search; kept = kept_same _; back = tt };
  empty = c.requires.rest.empty;
  met = c.has_visited.ensures.met c.if-has_visited.true;
}

pub search_until_empty-requires : goal.search_until_empty-requires
search_until_empty-requires g c =
    let rows = g.R.Rows.shown c.args.rows.now in
    let none : length c.args.self.now.path.items ≡ 0 = ap length c.requires.rest.empty in
    c.in_ok-push_on_path.ensures.search rows c.requires.rest.search (record {
      leads = λ k full. absurd (omega (arith, full, none));
      begins = λ w _ less. met_done rows c.args.self.now w c.requires.rest (c.requires.lower w less);
    })

pub returns : goal.returns
returns g c =
    let opened = c.in_ok-push_on_path.ensures in
    record {
      on = IfOk-weaker c.search_until_empty.result _ _
          (λ back on. record { search = on.search; kept = kept_through opened.kept on.kept; back = on.back })
          c.search_until_empty.ensures.on;
      empty = c.search_until_empty.ensures.empty;
      met =
          IfOk-weaker c.search_until_empty.result _ _ (λ back on. on.kept.seen c.args.root opened.met)
          c.search_until_empty.ensures.on;
    }
