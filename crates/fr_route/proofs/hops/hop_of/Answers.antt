use Rattle.std.proofs.Common.{◌≡◌, slice_index, arith}
use Rattle.fr_route.specs.Outcomes.{state_after}
use Rattle.fr_route.proofs.RoundEnds.{capped_cut_off, hop_leads_on, still_cut_off}
use Rattle.fr_route.proofs.hops.hop_of.Goals as goal

pub returns-then-counts-x : goal.returns-then-counts-x
returns-then-counts-x c =
    let round = c.args.round.now in
    let r = c.requires.round in
    let at_x : slice_index c.counts.result.now c.args.x ≡ round.net.now.nodes =
    omega (arith, c.if-counts-x.true, c.from.ensures, c.nodes.ensures.value) in
    let capped : slice_index round.turns.now c.args.x ≡ round.net.now.nodes = rw c.counts.ensures at at_x in
    capped_cut_off round.net.now.nodes round.dest r.first (state_after round) r.is_net r.dest r.round c.args.x
    c.if-x-round.false capped

pub returns-in-Some : goal.returns-in-Some
returns-in-Some c =
    let round = c.args.round.now in
    let r = c.requires.round in
    let at_x : ¬ (slice_index c.counts.result.now c.args.x ≡ round.net.now.nodes) =
    λ e. c.if-counts-x.false (omega (arith, e, c.from.ensures, c.nodes.ensures.value)) in
    let free : ¬ (slice_index round.turns.now c.args.x ≡ round.net.now.nodes) = rw c.counts.ensures at at_x in
    hop_leads_on round.net.now.nodes round.dest r.first (state_after round) r.is_net r.dest r.round c.args.x
    c.in-Some.next
    c.if-x-round.false free c.in-Some.ensures

pub returns-in-None : goal.returns-in-None
returns-in-None c =
    let round = c.args.round.now in
    let r = c.requires.round in
    still_cut_off round.net.now.nodes round.dest r.first (state_after round) r.is_net r.dest r.round c.args.x
    c.if-x-round.false c.in-None.ensures
