use Rattle.std.proofs.Common.{◌<◌, arith, length, refl, subst}
use Rattle.std.proofs.lemmas.Option.{get_or_from_slice_get, slice_get_read, slice_get_within}
use Rattle.fr_logs.specs.Logged.{IsOwnRecorder}
use Rattle.fr_logs.proofs.Jobs.{both_ok, each_by_get, each_get}
use Rattle.test_rounds.specs.declared.logs.Job.{Job}
use Rattle.test_rounds.specs.declared.logs.Noted.{Noted}
use Rattle.test_rounds.proofs.logs.do_each.Goals as goal

pub map_vec-requires-after_bounds : goal.map_vec-requires-after_bounds
map_vec-requires-after_bounds g c κs within i x below is =
    each_get (λ (job : Job). IsOwnRecorder c.args.round.now job.noted.recorder) c.args.jobs.items i x c.requires
    (slice_get_read c.args.jobs.items (length c.args.jobs.items) i x refl below is)

pub returns-clause-own : goal.returns-clause-own
returns-clause-own g c = both_ok c.map_vec.result
    (λ v long each. each_by_get (λ (noted : Noted). IsOwnRecorder c.args.round.now noted.recorder) v.items
    (λ k x e.
    let inside : k < length c.args.jobs.items = omega
    (arith, slice_get_within v.items k x e, long, v.ok.0, c.args.jobs.ok.0) in
    subst (λ (noted : Noted). IsOwnRecorder c.args.round.now noted.recorder)
    (get_or_from_slice_get v.items k x x e) (each k x inside).1.call.met))
    c.map_vec.ensures.len c.map_vec.ensures.each
