use Rattle.std.proofs.Common.{List, ap, arith, length, subst, ◌∙◌, ◌≡◌, ◌≤◌, ℕ}
use Rattle.std.specs.Prelude.{slice_index}
use Rattle.fr_graph.specs.Rows.{row}
use Rattle.fr_graph.specs.declared.first.First.{First}
use Rattle.fr_core.specs.Machine.{bound_of, neighbour_at}
use Rattle.fr_round.specs.Setups.{setup_of}
use Rattle.fr_round.proofs.Calling.{all_meet_bounds, looks_on}
use Rattle.fr_round.proofs.MissingNumbers.{other_node}
use Rattle.fr_round.proofs.turn_call.CallingWorker.find_holder.Goals as goal

pub loop-entry-preserved : goal.loop-entry-preserved
loop-entry-preserved c =
    let i = c.loop-entry.invariant in
    let net = c.args.words.now.round_setup.net in
    let j : ℕ = c.loop-entry.entry-index in
    let list = c.row-entry-items.result.now in
    let w' = c.meets_bound.new.self.seat.me.0 in
    let tested = c.meets_bound.ensures in
    let step = c.if-not-meets_bound.ensures.step in
    let other =
    other_node net.nodes net.links c.args.x list j c.network_law.ensures.is_net c.row-entry-items.ensures
    c.loop-entry-test.true in
    let same = tested.stays.seat in
    let enough = subst (λ (l : List (ℕ × First)). bound_of (neighbour_at l j).1 c.args.c ≤ slice_index w'.seen
    (neighbour_at l j).0) c.row-entry-items.ensures step.0 in
    record {
      stays = record {
        seat = (same.0 ∙ i.stays.seat.0, same.1 ∙ i.stays.seat.1, same.2 ∙ i.stays.seat.2);
        seen = tested.stays.seen;
      };
      call =
          looks_on (setup_of c.args.words.now.round_setup) c.args.self.now.seat.me.0 c.loop-entry.self.seat.me.0 w'
          c.args.x
          c.args.c j (neighbour_at list j).0 i.call step.1 tested.up other.1 enough;
    }

pub returns-clause-passed : goal.returns-clause-passed
returns-clause-passed c =
    let net = c.args.words.now.round_setup.net in
    let i = c.loop-entry.invariant in
    let whole : length c.row-entry-items.result.now ≡ length (row net.nodes net.links c.args.x) =
    ap (λ (l : List (ℕ × First)). length l) c.row-entry-items.ensures in
    record {
      stays = i.stays;
      looking = i.call.looking;
      met = all_meet_bounds (setup_of c.args.words.now.round_setup) c.args.x c.args.c c.loop-entry.entry-index
          c.loop-entry.self.seat.me.0.seen c.network_law.ensures.is_net (omega (arith, whole, c.loop-entry-test.false))
          i.call.enough;
    }
