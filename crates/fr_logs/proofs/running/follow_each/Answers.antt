use Rattle.std.proofs.Common.{arith, length, refl}
use Rattle.std.proofs.lemmas.Option.{slice_get_read}
use Rattle.fr_core.specs.Targets.{lists_of}
use Rattle.fr_logs.proofs.Jobs.{all_done, both_ok, job_is_own}
use Rattle.fr_logs.proofs.running.follow_each.Goals as goal

pub map_vec-requires-after_bounds : goal.map_vec-requires-after_bounds
map_vec-requires-after_bounds g c κs within i x below is =
    let job = c.requires.each i x (slice_get_read c.args.jobs.items (length c.args.jobs.items) i x refl below is) in
    (job_is_own c.args.round.now (lists_of c.args.plans.now) i x job, job.room)

pub returns : goal.returns
returns g c = both_ok c.map_vec.result
    (λ v long each. all_done c.args.round.now (lists_of c.args.plans.now) c.args.jobs.items v.items c.requires
    (omega (arith, long, v.ok.0, c.args.jobs.ok.0))
    (λ k d below. let h = (each k d below).1 in record { job = h.job; read = h.job_read; followed = h.call.met }))
    c.map_vec.ensures.len c.map_vec.ensures.each
