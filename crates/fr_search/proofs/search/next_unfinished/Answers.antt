use Rattle.std.proofs.Common.{None, arith, inl, inr, length, sym, ◌∙◌, ◌≡◌}
use Rattle.std.proofs.lemmas.Bool.{cases_eq, cases_lt}
use Rattle.std.proofs.lemmas.List.{get_or_past, length-map}
use Rattle.fr_search.proofs.Reading.{head_is, if_some}
use Rattle.fr_search.specs.Heads.{head_at}
use Rattle.fr_search.proofs.search.next_unfinished.Given.{Over}
use Rattle.fr_search.proofs.search.next_unfinished.Goals as goal
use Rattle.fr_search.proofs.search.next_unfinished.Goals.{After-head_of}

pub row-row-requires : goal.row-row-requires
row-row-requires g c = omega (arith, c.requires.node, c.requires.rows.each)

pub loop-place-init : goal.loop-place-init
loop-place-init g c = c.requires.read

here : (g : Over) (c : After-head_of g)
    → head_at (g.R.Rows.shown c.args.rows.now) c.args.step.node c.loop-place.place ≡ c.head_of.result
here g c = head_is g.R.Rows.head c.row-row.result.now ((g.R.Rows.shown c.args.rows.now).heads c.args.step.node)
    c.loop-place.place c.index-row-place.result c.row-row.ensures c.loop-place-test.true c.index-row-place.is
    ∙ sym c.head_of.ensures

pub if_unfinished-requires : goal.if_unfinished-requires
if_unfinished-requires g c =
    let at = goal.at.if_unfinished-requires g c in
    if_some c.head_of.result _ (λ y is. c.requires.rows.below c.args.step.node y
    (c.loop-place.place, here g at.After-head_of ∙ is))

pub returns-in-Some-clause-some : goal.returns-in-Some-clause-some
returns-in-Some-clause-some g c =
    let at = goal.at.returns-in-Some-clause-some g c in
    record {
      leads = here g at.After-head_of ∙ c.in-Some.ensures.some.0;
      other = c.in-Some.ensures.some.1;
      read = c.loop-place.invariant;
    }

pub loop-place-preserved : goal.loop-place-preserved
loop-place-preserved g c = λ k y lt leads.
    let at = goal.at.loop-place-preserved g c in
    elim (cases_eq k c.loop-place.place) [
      | inl e ↦ rw (sym (here g at.After-head_of) ∙ rw e at leads) at c.in_default.ensures.none
      | inr other ↦ c.loop-place.invariant k y (omega (arith, lt, other)) leads
    ]

pub returns-clause-none : goal.returns-clause-none
returns-clause-none g c = λ y (k, leads).
    let row = (g.R.Rows.shown c.args.rows.now).heads c.args.step.node in
    let long : length row ≡ length c.row-row.result.now = rw (← c.row-row.ensures)
    (length-map c.row-row.result.now g.R.Rows.head) in
    elim (cases_lt k (length row)) [
      | inl less ↦ c.loop-place.invariant k y (omega (arith, less, long, c.loop-place-test.false)) leads
      | inr past ↦ cc (leads, get_or_past row k None past)
    ]
