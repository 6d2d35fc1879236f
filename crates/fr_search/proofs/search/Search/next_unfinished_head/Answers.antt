use Rattle.std.proofs.Common.{ap, arith, length, refl, sym, ◌+◌, ◌-◌, ◌≡◌}
use Rattle.std.proofs.lemmas.List.{get_or_read}
use Rattle.fr_search.proofs.Leaving.{top_open}
use Rattle.fr_search.proofs.Marks.{marked_inside}
use Rattle.fr_search.proofs.Reading.{can_go_on, read_on}
use Rattle.fr_search.specs.Search.{step_at}
use Rattle.fr_search.specs.declared.search.Step.{Step}
use Rattle.fr_search.proofs.search.Search.next_unfinished_head.Given.{Over}
use Rattle.fr_search.proofs.search.Search.next_unfinished_head.Goals as goal
use Rattle.fr_search.proofs.search.Search.next_unfinished_head.Goals.{After-index-top}

full : (g : Over) (c : After-index-top g) → c.len-last.result - 1 + 1 ≡ length c.args.self.now.path.items
full g c = omega (arith, c.len-last.ensures, c.requires.full, c.args.self.now.path.ok.0)

top_is : (g : Over) (c : After-index-top g)
    → step_at c.args.self.now.path.items (c.len-last.result - 1) ≡ c.index-top.result.now
top_is g c = sym (get_or_read c.args.self.now.path.items (c.len-last.result - 1) c.index-top.result.now
    (omega (arith, full g c)) c.index-top.ensures (record { node = 0; next = 0 }))

pub next_unfinished-requires-clause-rows : goal.next_unfinished-requires-clause-rows
next_unfinished-requires-clause-rows g c = rw c.deref.ensures.value c.requires.search.below

pub next_unfinished-requires-clause-node : goal.next_unfinished-requires-clause-node
next_unfinished-requires-clause-node g c =
    let at = (goal.at.next_unfinished-requires-clause-node g c).After-index-top in
    let on = top_open (c.len-last.result - 1) c.requires.search (full g at) in
    let top : Step = step_at c.args.self.now.path.items (c.len-last.result - 1) in
    let below = marked_inside c.args.self.now.marks.items top.node
    (λ f. cc (on, f)) in
    omega (arith, c.deref.ensures.len, below, ap (λ (t : Step). t.node) (top_is g at))

pub next_unfinished-requires-clause-read : goal.next_unfinished-requires-clause-read
next_unfinished-requires-clause-read g c =
    let at = (goal.at.next_unfinished-requires-clause-read g c).After-index-top in
    rw (c.deref.ensures.value, ← top_is g at)
    (c.requires.search.read (c.len-last.result - 1) (omega (arith, full g at)))

pub returns : goal.returns
returns g c =
    let at = (goal.at.returns g c).After-index-top in
    let s = c.args.self.now in
    let rows = g.R.Rows.shown c.args.rows.now in
    let last = c.len-last.result - 1 in
    let top : Step = c.index-top.result.now in
    let next = rw c.deref.ensures.value at c.in_ok-place.ensures.some in
    record {
      search = read_on s.path.items last c.in_ok-place.place top (full g at) (top_is g at) rows s.marks.items
          s.order.items c.requires.search next.read;
      marks = refl;
      long = refl;
      some = (
        can_go_on s.path.items last c.in_ok-place.place top (full g at) (top_is g at) rows s.marks.items
            c.in_ok-place.head next.leads,
        next.other,
      );
      none = tt;
    }
