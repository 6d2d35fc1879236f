use Rattle.std.proofs.Common.{subst, ℕ}
use Rattle.std.proofs.lemmas.Result.{err_from_is_err_and}
use Rattle.fr_route.specs.Listing.{HasPlaces}
use Rattle.fr_route.proofs.Following.{measure_of, no_room, ready}
use Rattle.fr_route.proofs.forwarding.begin_telling.Goals as goal

pub keep_if_asked-requires-clause-old : goal.keep_if_asked-requires-clause-old
keep_if_asked-requires-clause-old c =
    measure_of c.args.net.now c.args.dest c.args.distances.now c.requires.kept.0 c.requires.kept.1

pub begin_ways-requires-clause-measured : goal.begin_ways-requires-clause-measured
begin_ways-requires-clause-measured c = λ asks.
    (c.keep_if_asked.ensures.measured (c.keep_if_asked.ensures.kept (c.wants_ways.ensures.1 asks))).0

pub returns-in_err-make_room : goal.returns-in_err-make_room
returns-in_err-make_room c =
    let p = err_from_is_err_and c.from_residual.result c.from_residual.ensures.1 in
    rw (p.1, p.2) (no_room c.args.told.now c.make_room.new.self c.make_room.ensures.keeps c.make_room.ensures.same
    c.args.net.now c.args.dest c.args.edits.now c.args.distances.now c.requires.kept.0 _ c.requires.kept.1)

pub returns : goal.returns
returns c =
    ready c.args.told.now c.make_room.new.self c.make_room.ensures.keeps c.make_room.ensures.same c.args.net.now
    c.args.dest c.args.edits.now c.keep_if_asked.new.self c.begin_ways.new.self c.begin_ways.ensures.list
    c.begin_ways.ensures.same c.keep_if_asked.ensures.measured c.keep_if_asked.ensures.one_each
    (λ asks. c.keep_if_asked.ensures.kept (c.wants_ways.ensures.1 asks))
    (λ listing. subst (λ (n : ℕ). HasPlaces n c.make_room.new.self) c.nodes.ensures.value
    (c.in_ok-make_room.ensures.room listing))
    c.begin_ways.result c.begin_ways.ensures.begun
