-- Workers that write down the replies that they get. The notions are this project's own.
use Rattle.std.specs.Prelude.{◌≡◌, ℕ, ◌+◌, ◌<◌, ◌⊎◌, List, [], ◌∷◌, ◌++◌, length}
use Rattle.fr_core.specs.History.{part}
use Rattle.fr_core.specs.Played.{answer_of}
use Rattle.fr_core.specs.Replies.{IsAnswerTo}
use Rattle.fr_core.specs.Targets.{IsTargetRefused, node_of}
use Rattle.fr_core.specs.declared.entry.Entry.{Entry}
use Rattle.fr_core.specs.declared.entry.Reply.{Reply}
use Rattle.fr_core.specs.declared.targets.Target.{Target}
use Rattle.fr_core.specs.declared.targets.Target.TheVariants.{Turn, Look}
use Rattle.fr_round.specs.declared.faults.Refusal.{Refusal}
use Rattle.fr_round.specs.declared.view.Setup.{Setup}
use Rattle.fr_round.specs.Histories.{StartsWith, entry}
use Rattle.fr_round.specs.Knowledge.{KeepsWorker, Knowledge, LearnsReply, Refuses, RefusesLook}
use Rattle.fr_logs.specs.declared.faults.CallFault.{CallFault}
use Rattle.fr_logs.specs.declared.faults.CallFault.TheVariants.{Full, Refused}

-- what the worker knows, and for how many entries more its log has room
pub record Recording : Type 0 where
  pub worker : Knowledge
  pub room : ℕ

-- the log: the worker's own part of the history that it knows
abbrev pub log_of : Recording → List Entry
log_of r = part r.worker.number r.worker.known

-- the round refuses the call that a target asks for
abbrev pub RefusesTarget : Setup → Target → Refusal → Type 0
RefusesTarget b (Turn x) why = Refuses b x why
RefusesTarget b (Look x) why = RefusesLook b x why

-- the same as a fact about the target alone
abbrev pub IsRefused : Setup → Target → Type 0
IsRefused b t = IsTargetRefused b.nodes b.dest b.links t

-- why no call is made, each fault in its case and in this order
abbrev pub IsCallFault : Setup → Recording → Target → CallFault → Type 0
IsCallFault b r t Full = r.room ≡ 0
IsCallFault b r t (Refused why) = (0 < r.room) × RefusesTarget b t why

-- the call that a target asks for is made and written down:
pub record Records (b : Setup) (before : Recording) (target : Target) (reply : Reply)
    (after : Recording) : Type 0 where
  -- the round does not refuse it,
  pub accepted : ¬ IsRefused b target
  -- the reply answers it,
  pub answers : IsAnswerTo target (node_of target, reply)
  -- the worker learns the reply,
  pub keeps : KeepsWorker before.worker after.worker
  pub learns : LearnsReply before.worker (node_of target) reply after.worker
  -- and the log gains this entry, which takes up the room of one
  pub log : log_of after ≡ log_of before ++ entry before.worker.number (node_of target) reply ∷ []
  pub room : before.room ≡ after.room + 1

-- the entries answer the targets of a plan that are not refused, one entry for each of these, in order
abbrev pub AnswersPlan : Setup → List Target → List Entry → Type 0
AnswersPlan b [] entries = entries ≡ []
AnswersPlan b (t ∷ ts) entries =
    (IsRefused b t × AnswersPlan b ts entries)
    ⊎ ((e : Entry) × (rest : List Entry) × (entries ≡ e ∷ rest) × ¬ IsRefused b t × IsAnswerTo t
    (answer_of e) × AnswersPlan b ts rest)

-- a plan was followed: the worker still knows what it knew, and the log gained an answer to each target that is not refused,
-- which takes up its room
pub record HasFollowed (b : Setup) (before : Recording) (plan : List Target) (after : Recording) : Type 0 where
  pub keeps : KeepsWorker before.worker after.worker
  pub begins : StartsWith after.worker.known before.worker.known
  pub gained : List Entry
  pub log : log_of after ≡ log_of before ++ gained
  pub answers : AnswersPlan b plan gained
  pub room : before.room ≡ after.room + length gained
