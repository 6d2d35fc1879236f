use Rattle.std.proofs.Common.{arith, length, refl, ◌+◌, ◌-◌, ◌<◌, ◌≡◌}
use Rattle.std.specs.List.{count_by}
use Rattle.fr_search.proofs.Leaving.{top_open}
use Rattle.fr_search.proofs.Marks.{kept_same, marked_inside, met_open}
use Rattle.fr_search.specs.Search.{is_fresh, node_at, step_at}
use Rattle.fr_search.proofs.search.Search.search_one_step.Given.{Over}
use Rattle.fr_search.proofs.search.Search.search_one_step.Goals as goal
use Rattle.fr_search.proofs.search.Search.search_one_step.Goals.{After-next_unfinished_head, In-Some}

-- the path is as long as before
full : (g : Over) (c : After-next_unfinished_head g)
    → c.next_unfinished_head.new.self.path.len - 1 + 1 ≡ length c.next_unfinished_head.new.self.path.items
full g c = omega (
  arith,
  c.next_unfinished_head.ensures.long,
  c.requires.full,
  c.next_unfinished_head.new.self.path.ok.0,
)

same_count : (g : Over) (c : After-next_unfinished_head g)
    → count_by is_fresh c.next_unfinished_head.new.self.marks.items ≡ count_by is_fresh c.args.self.now.marks.items
same_count g c = rw c.next_unfinished_head.ensures.marks refl

pub pop_finished-requires-clause-below : goal.pop_finished-requires-clause-below
pop_finished-requires-clause-below g c =
    let at = (goal.at.pop_finished-requires-clause-below g c).After-next_unfinished_head in
    let last = c.next_unfinished_head.new.self.path.len - 1 in
    let on = top_open last c.next_unfinished_head.ensures.search (full g at) in
    marked_inside _ _ (λ f. cc (on, f))

inside : (g : Over) (c : In-Some g) → c.in-Some.head < length c.next_unfinished_head.new.self.marks.items
inside g c =
    let path = c.next_unfinished_head.new.self.path in
    let last = path.len - 1 in
    c.next_unfinished_head.ensures.search.below.below (node_at path.items last) c.in-Some.head (
      (step_at path.items last).next,
      c.in-Some.ensures.some.0.leads last (full g (goal.at.In-Some g c).After-next_unfinished_head),
    )

pub has_visited-requires : goal.has_visited-requires
has_visited-requires g c = inside g (goal.at.has_visited-requires g c).In-Some

pub push_on_path-requires-clause-below : goal.push_on_path-requires-clause-below
push_on_path-requires-clause-below g c = inside g (goal.at.push_on_path-requires-clause-below g c).In-Some

pub returns-in_default : goal.returns-in_default
returns-in_default g c =
    let at = (goal.at.returns-in_default g c).After-next_unfinished_head in
    let e = c.next_unfinished_head.ensures in
    let gone = c.in_ok-pop_finished.ensures in
    record {
      on = record {
        search = gone.search (g.R.Rows.shown c.args.rows.now) e.search c.in_default.ensures.none;
        kept = rw e.marks at gone.kept;
        back = tt;
      };
      fewer = omega (
        arith,
        gone.fewer,
        same_count g at,
        e.long,
        c.args.self.now.path.ok.0,
        c.next_unfinished_head.new.self.path.ok.0,
      );
    }

pub returns-then-has_visited : goal.returns-then-has_visited
returns-then-has_visited g c =
    let e = c.next_unfinished_head.ensures in
    let marks = c.next_unfinished_head.new.self.marks.items in
    record {
      on = record {
        search = e.search;
        kept = rw e.marks (kept_same c.args.self.now.marks.items);
        back = record {
          on_path = (e.search.are_open c.in-Some.head).0
              (met_open marks c.in-Some.head (c.has_visited.ensures.met c.if-has_visited.true)
              c.in-Some.ensures.some.1);
          leads = c.in-Some.ensures.some.0;
        };
      };
      fewer = tt;
    }

pub returns : goal.returns
returns g c =
    let at = (goal.at.returns g c).After-next_unfinished_head in
    let e = c.next_unfinished_head.ensures in
    let opened = c.in_ok-push_on_path.ensures in
    record {
      on = record {
        search = opened.search (g.R.Rows.shown c.args.rows.now) e.search c.in-Some.ensures.some.0;
        kept = rw e.marks at opened.kept;
        back = tt;
      };
      fewer = omega (
        arith,
        opened.fewer,
        same_count g at,
        e.long,
        c.args.self.now.path.ok.0,
        c.next_unfinished_head.new.self.path.ok.0,
      );
    }
