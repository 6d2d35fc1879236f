use Rattle.std.proofs.Common.{List, ap, arith, drop, drop-cons, get_or, length, map, slice_set, subst, suc, take, ◌++◌}
use Rattle.std.proofs.Common.{◌<◌, ◌∙◌, ◌∷◌, ◌≡◌, ℕ}
use Rattle.std.proofs.Math.Seq.{get_or-append_seam}
use Rattle.std.proofs.lemmas.List.{get_or_default, length-map, length-take-le}
use Rattle.std.proofs.lemmas.List.Edits.{map_over_more}
use Rattle.fr_graph.specs.RowLists.{turned_entry}
use Rattle.fr_graph.specs.declared.first.First.{First}
use Rattle.fr_graph.specs.declared.first.First.TheVariants.{Outward}
use Rattle.fr_graph.proofs.row.turn_row.Goals as goal

pub loop-entry-preserved : goal.loop-entry-preserved
loop-entry-preserved c =
    let now = c.loop-entry.row in
    let i = c.loop-entry.entry-index in
    let d : ℕ × First = (0, Outward) in
    let inside : i < length c.args.row.now = c.loop-entry-test.true in
    let here : i < length now = omega (arith, inside, c.loop-entry.auto.row) in
    ap (slice_set now i) c.entry_after_turns.ensures
    ∙ map_over_more (turned_entry c.args.counts.now c.args.x) c.args.row.now now i
    (get_or now i d) inside c.loop-entry.invariant (get_or_default now i d (get_or now i d) here)

-- the elements ahead are unchanged
ahead : (f : ℕ × First → ℕ × First) (row : List (ℕ × First)) (i : ℕ) (d : ℕ × First) → i < length row
    → get_or (map f (take i row) ++ drop i row) i d ≡ get_or row i d
ahead f row i d inside =
    let front : length (map f (take i row)) ≡ i = length-map (take i row) f ∙ length-take-le i row (omega arith) in
    let seam = get_or-append_seam (map f (take i row)) (get_or row i d) (drop (suc i) row) d in
    rw (drop-cons row i d inside) (subst (λ (k : ℕ). get_or (map f (take i row) ++ get_or row i d
    ∷ drop (suc i) row) k d ≡ get_or row i d) front seam)

pub entry_after_turns-requires-clause-neighbour : goal.entry_after_turns-requires-clause-neighbour
entry_after_turns-requires-clause-neighbour c =
    let d : ℕ × First = (0, Outward) in
    let i = c.loop-entry.entry-index in
    let read = ahead (turned_entry c.args.counts.now c.args.x) c.args.row.now i d c.loop-entry-test.true in
    rw (c.loop-entry.invariant, read) (c.requires.below i d c.loop-entry-test.true)
