-- The workers of a crew, before their threads and after them. For proofs only.
use Rattle.std.specs.Prelude.{◌≡◌, ℕ, ◌+◌, ◌≤◌, [], length, true, vec_len}
use Rattle.std.specs.List.{AllByRecursion as Each}
use Rattle.std.specs.declared.alloc.Global.{Global}
use Rattle.std.specs.declared.vec.Vec.{Vec}
use Rattle.std.specs.declared.thread.PromisedHandle.{PromisedHandle}
use Rattle.fr_core.specs.History.{part}
use Rattle.fr_round.specs.Knowledge.{Knowledge, OpenRound, IsOwn}
use Rattle.fr_crew.specs.Gates.{EachBefore}
use Rattle.fr_crew.specs.declared.threads.GivesBack.{GivesBack}
use Rattle.fr_crew.specs.declared.threads.Started.{Started}
use Rattle.fr_crew.specs.declared.members.Member.{Member}
use Rattle.fr_crew.specs.declared.naming.Naming.{Ghosts}

-- the worker belongs to this round, and has made no call
pub record IsNew (round : OpenRound) (k : Knowledge) : Type 0 where
  pub own : IsOwn round k
  pub none_yet : k.known ≡ []

-- how many calls a worker has made
abbrev pub calls_of : Knowledge → ℕ
calls_of k = length (part k.number k.known)

-- the same worker at a later time
pub record IsSameWorker (before after : Knowledge) : Type 0 where
  pub table : after.table ≡ before.table
  pub setup : after.setup ≡ before.setup
  pub number : after.number ≡ before.number

-- what the workers of a crew share: their round, how many calls each may make, and their gate
pub record Shift (G : Type 0) : Type 0 where
  pub round : OpenRound
  pub budget : ℕ
  pub gate : G

abbrev pub shift : {G : Type 0} → OpenRound → ℕ → G → Shift G
shift round budget gate = record { round = round; budget = budget; gate = gate }

module _ {G : Type 0} (passed : G → ℕ → ℕ → Type 0) where
  -- a worker that had made one call less has made the call with this number, within the gate
  pub record HasCalled (gate : G) (call : ℕ) (before after : Knowledge) : Type 0 where
    pub same : IsSameWorker before after
    pub made : calls_of after ≡ call
    pub gate_passed : passed gate before.number call

  -- a new worker has made its calls: no more than its budget, each within the gate
  pub record HasWorked (gate : G) (budget : ℕ) (before after : Knowledge) : Type 0 where
    pub same : IsSameWorker before after
    pub few : calls_of after ≤ budget
    pub each_passed : EachBefore (calls_of after + 1) (passed gate before.number)

  -- the same of a worker that has returned to its round
  pub record IsDone (s : Shift G) (k : Knowledge) : Type 0 where
    pub own : IsOwn s.round k
    pub few : calls_of k ≤ s.budget
    pub each_passed : EachBefore (calls_of k + 1) (passed s.gate k.number)

  -- the round is returned with as many workers as it was given, all of which have made their calls
  pub record ComeBack (s : Shift G) (count : ℕ) (back : OpenRound × Vec Knowledge Global) : Type 0 where
    pub round_is : back.0 ≡ s.round
    pub done : Each (IsDone s) back.1.items
    pub len : vec_len back.1 ≡ count

module _ {G : Type 0} where
  -- the thread's promise is about a new worker of this round, with this budget and this gate
  pub record IsOwnThread (s : Shift G) (thread : PromisedHandle Knowledge (GivesBack G)) : Type 0 where
    pub worker : IsNew s.round thread.promise.worker.value
    pub budget : thread.promise.budget ≡ s.budget
    pub gate : thread.promise.gate.value ≡ s.gate

  -- threads for workers of this round: for all members, or for the first of them
  pub record AreStarted (s : Shift G) (members : ℕ) (started : Started G) : Type 0 where
    pub own : Each (IsOwnThread s) started.threads.items
    pub few : vec_len started.threads ≤ members
    pub all : started.all ≡ true → vec_len started.threads ≡ members
    pub none : members ≡ 0 → started.all ≡ true

-- the member's worker is a new one of this round
module _ {J : Type 0} {N : Ghosts J} where
  abbrev pub IsOwnMember : OpenRound → Member J N → Type 0
  IsOwnMember round member = IsNew round member.worker
