use Rattle.std.proofs.Common.{get_or, length, refl, ◌<◌, ◌≡◌, ◌∙◌}
use Rattle.std.proofs.lemmas.List.{get_or_default}
use Rattle.fr_graph.proofs.PartTurned.{entry_reversed, neighbour_in, rises_from}
use Rattle.fr_graph.proofs.Places.{neighbour_at, rises_by}
use Rattle.fr_graph.specs.declared.first.First.{First}
use Rattle.fr_graph.specs.declared.first.First.TheVariants.{Outward}
use Rattle.fr_graph.proofs.row.reverse_entry.Goals as goal
use Rattle.fr_graph.proofs.row.reverse_entry.Goals.{After-place_in_row-place}

-- the entry of w at its place
stands : (c : After-place_in_row-place) → (f : First) × (c.place_in_row-place.result < length c.args.row.now)
    × (get_or c.args.row.now c.place_in_row-place.result (c.args.w, f) ≡ (c.args.w, f))
stands c =
    let es = c.args.row.now in
    let in_row = neighbour_in es c.args.w c.requires.stands in
    let at = neighbour_at es c.args.w c.place_in_row-place.result in_row.0 (rises_from es c.requires.rising)
    in_row.1 c.place_in_row-place.ensures.before c.place_in_row-place.ensures.stops in
    (in_row.0, at.0, at.1)

pub place_in_row-place-requires : goal.place_in_row-place-requires
place_in_row-place-requires c = rises_by c.args.row.now (rises_from c.args.row.now c.requires.rising)

pub bounds-row-place : goal.bounds-row-place
bounds-row-place c = (stands (goal.at.bounds-row-place c).After-place_in_row-place).1

pub bounds-row-place-2 : goal.bounds-row-place-2
bounds-row-place-2 c = (stands (goal.at.bounds-row-place-2 c).After-place_in_row-place).1

pub bounds-row-place-3 : goal.bounds-row-place-3
bounds-row-place-3 c = (stands (goal.at.bounds-row-place-3 c).After-place_in_row-place).1

pub returns : goal.returns
returns c =
    let es = c.args.row.now in
    let k = c.place_in_row-place.result in
    let at = stands (goal.at.returns c).After-place_in_row-place in
    let here : get_or es k (0, Outward) ≡ (c.args.w, at.0) =
    get_or_default es k (0, Outward) (c.args.w, at.0) at.1 ∙ at.2 in
    entry_reversed es c.args.w k at.0 (c.args.w, at.0) _ (rises_from es c.requires.rising) at.1 at.2 (rw (
      c.opposite.ensures,
      here,
    ) refl)
