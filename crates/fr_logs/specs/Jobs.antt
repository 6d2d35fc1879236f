-- What threads are given, and what they return. For proofs only.
use Rattle.std.specs.Prelude.{◌≡◌, ℕ, ◌≤◌, List, length, Some, slice_get}
use Rattle.fr_graph.specs.Network.{Network}
use Rattle.fr_core.specs.declared.targets.Target.{Target}
use Rattle.fr_round.specs.Knowledge.{OpenRound, new_worker}
use Rattle.fr_logs.specs.declared.running.Job.{Job}
use Rattle.fr_logs.specs.Logged.{IsOwnRecorder}
use Rattle.fr_logs.specs.Recording.{AnswersPlan, Recording, log_of}

-- job k has worker k before its first call, plan k, and room for its replies
pub record IsJob (round : OpenRound) (plans : List (List Target)) (k : ℕ) (job : Job) : Type 0 where
  pub worker : job.recorder.worker ≡ new_worker round.table round.setup k
  pub plan : slice_get plans k ≡ Some job.plan.now
  pub room : length job.plan.now ≤ job.recorder.room

-- a job for each plan
pub record AreJobs (round : OpenRound) (plans : List (List Target)) (jobs : List Job) : Type 0 where
  pub as_many : length jobs ≡ length plans
  pub each : (k : ℕ) (job : Job) → slice_get jobs k ≡ Some job → IsJob round plans k job

-- recorder k has worker k, which has followed plan k
pub record IsDone (round : OpenRound) (plans : List (List Target)) (k : ℕ) (r : Recording) : Type 0 where
  pub own : IsOwnRecorder round r
  pub number : r.worker.number ≡ k
  pub answers : (plan : List Target) → slice_get plans k ≡ Some plan → AnswersPlan round.setup plan (log_of r)

-- a recorder for each plan
pub record AreDone (round : OpenRound) (plans : List (List Target)) (recorders : List Recording) : Type 0 where
  pub as_many : length recorders ≡ length plans
  pub each : (k : ℕ) (r : Recording) → slice_get recorders k ≡ Some r → IsDone round plans k r

-- the network of this round
pub record IsOfRound (round : OpenRound) (net : Network) : Type 0 where
  pub nodes : net.nodes ≡ round.setup.nodes
  pub links : net.links ≡ round.setup.links
