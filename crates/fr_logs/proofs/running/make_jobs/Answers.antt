use Rattle.std.proofs.Common.{◌≡◌, ◌∙◌, ◌<◌, ◌∷◌, ◌++◌, [], ℕ, Global, List, Some, Vec, ap, append_assoc, arith}
use Rattle.std.proofs.Common.{length, length-append, refl, rules, subst, sym}
use Rattle.std.proofs.lemmas.Option.{slice_get_read}
use Rattle.std.specs.List.{slice_get}
use Rattle.std.specs.Vec.Iter.{into_iter_items}
use Rattle.fr_core.specs.History.{part}
use Rattle.fr_core.specs.Targets.{lists_of}
use Rattle.fr_core.specs.declared.targets.Target.{Target}
use Rattle.fr_round.specs.Knowledge.{Knowledge, new_worker}
use Rattle.fr_logs.specs.declared.running.Job.{Job}
use Rattle.fr_logs.proofs.Jobs.{at_map, new_worker_next, next_job, new_workers-length, no_job, one_job_more}
use Rattle.fr_logs.proofs.running.make_jobs.Goals as goal
use Rattle.fr_logs.proofs.running.make_jobs.Goals.{After-as_slice-plan}

pub loop-worker-init : goal.loop-worker-init
loop-worker-init c =
    let r = c.args.round.now in record {
      count = omega (
        arith,
        c.in_ok-jobs.ensures.len,
        c.into_iter-worker-iterator.result.rest.ok.0,
        ap (λ (l : List Knowledge). length l) c.into_iter-worker-iterator.ensures.into_iter_gives.0,
        ap (λ (l : List Knowledge). length l) c.requires,
        new_workers-length r r.setup (length c.args.plans.now),
      );
      room = search rules;
      rest = search rules;
      passed = search rules;
      jobs = no_job r (lists_of c.args.plans.now) c.in_ok-jobs.jobs.items c.in_ok-jobs.ensures.items;
    }

-- the next worker, and that there is a plan for it
next_worker : (c : After-as_slice-plan) →
    (c.in-Some.worker ≡ new_worker c.args.round.now.table c.args.round.now.setup (length c.loop-worker.yielded))
    × (length c.loop-worker.yielded < length c.args.plans.now)
next_worker c =
    let r = c.args.round.now in
    new_worker_next r r.setup (length c.args.plans.now) c.loop-worker.yielded c.in-Some.worker
    (into_iter_items c.next.new.self)
    (ap (λ (l : List Knowledge). c.loop-worker.yielded ++ l) (sym c.in-Some.ensures.steps.0)
    ∙ (c.loop-worker.invariant.rest ∙ c.requires))

pub new-requires : goal.new-requires
new-requires c = ap (λ (w : Knowledge). part w.number w.known) (next_worker c).0

-- the plan of the job
plan_is : (c : After-as_slice-plan) → slice_get (lists_of c.args.plans.now)
    (length c.loop-worker.jobs.items) ≡ Some c.as_slice-plan.result.now
plan_is c =
    let plans = c.args.plans.now in
    let v = c.index-plans-len.result in
    let k : c.len.result ≡ length c.loop-worker.jobs.items = c.len.ensures ∙ c.loop-worker.jobs.ok.0 in
    let below : c.len.result < length plans = omega
    (arith, k, (next_worker c).1, c.loop-worker.invariant.passed, c.loop-worker.jobs.ok.0) in
    subst (λ (k : ℕ). slice_get (lists_of plans) k ≡ Some c.as_slice-plan.result.now) k
    (at_map (λ (v : Vec Target Global). v.items) plans c.len.result v
    (slice_get_read plans (length plans) c.len.result v refl below c.index-plans-len.is)
    ∙ ap (λ (l : List Target). Some l) (sym c.as_slice-plan.ensures.value))

pub loop-worker-preserved : goal.loop-worker-preserved
loop-worker-preserved c =
    let r = c.args.round.now in
    let plans = lists_of c.args.plans.now in
    let before = (goal.at.loop-worker-preserved c).After-as_slice-plan in
    let jobs = c.loop-worker.jobs.items in
    let yielded = c.loop-worker.yielded in
    let many : length yielded ≡ length jobs = c.loop-worker.invariant.passed ∙ c.loop-worker.jobs.ok.0 in
    let next = (next_worker before).0 ∙ ap (λ (k : ℕ). new_worker r.table r.setup k) many in
    let job : Job = record { recorder = c.in_ok-recorder.recorder; plan = c.as_slice-plan.result } in
    let is = next_job r plans (length jobs) job c.in-Some.worker next c.in_ok-recorder.ensures.made
    (plan_is before) in record {
      count = search rules;
      room = search rules;
      rest = append_assoc yielded (c.in-Some.worker ∷ []) (into_iter_items c.next.new.self)
          ∙ (ap (λ (l : List Knowledge). yielded ++ l) (sym c.in-Some.ensures.steps.0) ∙ c.loop-worker.invariant.rest);
      passed = omega (
        arith,
        length-append yielded
            (c.in-Some.worker ∷ []),
        c.loop-worker.invariant.passed,
        c.push_reserved.ensures.len,
      );
      jobs = rw c.push_reserved.ensures.items (one_job_more r plans jobs job c.loop-worker.invariant.jobs is);
    }
