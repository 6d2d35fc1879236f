use Rattle.std.proofs.Common.{rules, sym, subst, ◌≡◌, ◌<◌, ◌≤◌, ap, arith, get_or-set_same, length, ◌∙◌, List, ℕ}
use Rattle.std.specs.Prelude.{nat_lt, slice_index}
use Rattle.fr_graph.proofs.Neighbours.{row_holds}
use Rattle.fr_core.specs.Machine.{bound_of}
use Rattle.std.specs.List.{Contains}
use Rattle.fr_graph.specs.Rows.{row}
use Rattle.fr_core.specs.declared.entry.Reply.TheVariants.{Held}
use Rattle.fr_round.specs.declared.view.Setup.{Setup}
use Rattle.fr_round.specs.Setups.{setup_of}
use Rattle.fr_round.specs.Calls.{IsInCall}
use Rattle.fr_round.specs.Steps.{EndsCall, noted}
use Rattle.fr_round.proofs.Calling.{met_or_held}
use Rattle.fr_round.proofs.turn_call.CallingWorker.meets_bound.Goals as goal

pub misses_bound-requires : goal.misses_bound-requires
misses_bound-requires c =
    let net = c.args.words.now.round_setup.net in
    omega (
      arith,
      (row_holds net.nodes net.links c.args.x c.args.entry c.requires.entry).0,
      c.requires.caller.seen.numbers.one_each,
    )

pub load_neighbour_count-found-requires-clause-call : goal.load_neighbour_count-found-requires-clause-call
load_neighbour_count-found-requires-clause-call c =
    let call = c.requires.call in
    subst (λ (p : ℕ × ℕ). IsInCall (setup_of c.args.words.now.round_setup) p.0 p.1 c.args.self.now.seat.me.0) (λ i. (
      sym call.node i,
      sym call.count i,
    )) call

pub load_neighbour_count-found-requires-clause-entry : goal.load_neighbour_count-found-requires-clause-entry
load_neighbour_count-found-requires-clause-entry c =
    let net = c.args.words.now.round_setup.net in
    subst (λ (y : ℕ). Contains (row net.nodes net.links y) c.args.entry) (sym c.requires.call.node) c.requires.entry

pub raise_seen_count-requires-clause-node : goal.raise_seen_count-requires-clause-node
raise_seen_count-requires-clause-node c =
    let net = c.args.words.now.round_setup.net in
    (row_holds net.nodes net.links c.args.x c.args.entry c.requires.entry).0

pub raise_seen_count-requires-clause-low : goal.raise_seen_count-requires-clause-low
raise_seen_count-requires-clause-low c =
    omega (arith, c.load_neighbour_count-found.ensures.low, ap (λ (b : Setup). b.nodes) c.requires.call.worker.setup)

pub misses_bound-requires-2 : goal.misses_bound-requires-2
misses_bound-requires-2 c =
    let net = c.args.words.now.round_setup.net in
    omega (
      arith,
      (row_holds net.nodes net.links c.args.x c.args.entry c.requires.entry).0,
      c.raise_seen_count.ensures.counted.one_each,
    )

pub returns : goal.returns
returns c =
    let net = c.args.words.now.round_setup.net in
    let e = c.args.entry in
    let l = c.load_neighbour_count-found in
    let v = c.args.self.now.seat.me.0 in
    let w = l.new.seat.me.0 in
    let below = (row_holds net.nodes net.links c.args.x e c.requires.entry).0 in
    let long = c.requires.caller.seen.numbers.one_each in
    let view : length v.seen ≡ length c.args.self.now.seen.counts.items =
    ap (λ (s : List ℕ). length s) c.requires.caller.seen.counts in
    let now : slice_index c.raise_seen_count.new.self.counts.items e.0 ≡ l.result =
    ap (λ (s : List ℕ). slice_index s e.0) c.raise_seen_count.ensures.counts
    ∙ get_or-set_same c.args.self.now.seen.counts.items e.0 l.result 0 (omega arith) in
    let call = c.requires.call in
    let found = l.result in
    let met = subst (λ (k : ℕ). bound_of e.1 k ≤ found → w ≡ noted v e.0 found) call.count l.ensures.met in
    let missed =
    subst (λ (p : ℕ × ℕ). found < bound_of e.1 p.1 → EndsCall v p.0 (Held e.0) e.0 found w) (λ i. (
      call.node i,
      call.count i,
    )) l.ensures.missed in
    let held = met_or_held v w c.args.x e c.args.c l.result c.misses_bound-2.result (c.misses_bound-2.ensures
    ∙ ap (λ (k : ℕ). nat_lt k (bound_of e.1 c.args.c)) now) (omega arith) met missed in
    record {
      stays =
          record {
            seat = l.ensures.same;
            seen = record { counts = search rules; numbers = c.raise_seen_count.ensures.counted };
          };
      up = search rules;
      step = held;
    }
