-- The workers of a crew are those of its round.
use Rattle.std.proofs.Common.{◌≡◌, ◌∙◌, ◌+◌, ◌<◌, ◌≤◌, ℕ, zero, suc, ◌∷◌, [], List, length, ap, refl, subst, sym, arith}
use Rattle.std.proofs.Common.{length-append}
use Rattle.std.specs.declared.thread.PromisedHandle.{PromisedHandle}
use Rattle.fr_core.specs.History.{part}
use Rattle.fr_core.specs.declared.entry.Entry.{Entry}
use Rattle.fr_core.specs.declared.entry.Reply.{Reply}
use Rattle.fr_round.specs.Histories.{entry}
use Rattle.std.specs.List.{AllByRecursion as Each}
use Rattle.fr_round.specs.Knowledge.{Knowledge, LearnsReply, OpenRound, IsOwn, new_worker, new_workers}
use Rattle.fr_round.specs.declared.view.Setup.{Setup}
use Rattle.fr_round.proofs.StepsKeepTheRule.{each_snoc}
use Rattle.fr_crew.specs.Crews.{HasWorked, IsDone, IsNew, IsOwnThread, IsSameWorker, Shift, calls_of}
use Rattle.fr_crew.specs.Gates.{EachBefore}
use Rattle.fr_crew.specs.declared.threads.GivesBack.{GivesBack}

pub own_again : (round : OpenRound) (before after : Knowledge) → IsOwn round before → IsSameWorker before after
    → IsOwn round after
own_again round before after own same = record {
  table = same.table ∙ own.table;
  setup = same.setup ∙ own.setup;
}

-- a call that is decided is one call more
pub one_more : (before after : Knowledge) (x : ℕ) (reply : Reply) → after.number ≡ before.number
    → LearnsReply before x reply after → calls_of after ≡ calls_of before + 1
one_more before after x reply same learns =
    ap (λ (number : ℕ). length (part number after.known)) same ∙ ap (λ (h : List Entry). length h) learns.history.own
    ∙ length-append (part before.number before.known) (entry before.number x reply ∷ [])

module _ {G : Type 0} (passed : G → ℕ → ℕ → Type 0) where
  -- a new worker that has worked belongs to its round again
  pub worked_done : (s : Shift G) (before after : Knowledge) → IsNew s.round before
      → HasWorked passed s.gate s.budget before after → IsDone passed s after
  worked_done s before after new worked = record {
    own = own_again s.round before after new.own worked.same;
    few = worked.few;
    each_passed =
        subst (λ (number : ℕ). EachBefore (calls_of after + 1) (passed s.gate number)) (sym worked.same.number)
        worked.each_passed;
  }

  -- and so does the worker of a thread that has kept its promise
  pub thread_done : (s : Shift G) (thread : PromisedHandle Knowledge (GivesBack G)) (after : Knowledge)
      → IsOwnThread s thread
      → HasWorked passed thread.promise.gate.value thread.promise.budget thread.promise.worker.value after
      → IsDone passed s after
  thread_done s thread after own kept = worked_done s thread.promise.worker.value after own.worker
      (subst (λ (gate : G). HasWorked passed gate s.budget thread.promise.worker.value after) own.gate
      (subst (λ (budget : ℕ). HasWorked passed thread.promise.gate.value budget thread.promise.worker.value after)
      own.budget kept))

pub new_workers_new : (round : OpenRound) (k : ℕ) → Each (IsNew round) (new_workers round.table round.setup k)
new_workers_new round zero = tt
new_workers_new round (suc k) = each_snoc (IsNew round) (new_workers round.table round.setup k)
    (new_worker round.table round.setup k) (new_workers_new round k)
    (record { own = record { table = refl; setup = refl }; none_yet = refl })

new_workers_length : (round : OpenRound) (k : ℕ) → length (new_workers round.table round.setup k) ≡ k
new_workers_length round zero = refl
new_workers_length round (suc k) =
    omega (
      arith,
      length-append (new_workers round.table round.setup k) (new_worker round.table round.setup k ∷ []),
      new_workers_length round k,
    )

-- there is a worker where one was opened
pub some_worker : (round : OpenRound) (k : ℕ) (workers : List Knowledge) → 1 ≤ k
    → workers ≡ new_workers round.table round.setup k → 0 < length workers
some_worker round k workers some are_new = omega (arith, some, ap length are_new, new_workers_length round k)

-- there are as many as were asked for
pub as_many_as_asked : (opened : OpenRound) (k : ℕ) (workers : List Knowledge)
    → workers ≡ new_workers opened.table opened.setup k → length workers ≡ k
as_many_as_asked opened k workers are_new = omega (arith, ap length are_new, new_workers_length opened k)

-- as many came back as there were opened
pub all_came_back : (opened closing : OpenRound) (n d k : ℕ) (links : List (ℕ × ℕ)) (workers back : List Knowledge)
    → opened.setup ≡ record { nodes = n; dest = d; links = links; workers = k }
    → workers ≡ new_workers opened.table opened.setup k → closing ≡ opened → length back ≡ length workers
    → length back ≡ closing.setup.workers
all_came_back opened closing n d k links workers back asked are_new same all =
    omega (
      arith,
      ap (λ (b : Setup). b.workers) asked,
      all,
      ap length are_new,
      new_workers_length opened k,
      ap (λ (r : OpenRound). r.setup.workers) same,
    )
