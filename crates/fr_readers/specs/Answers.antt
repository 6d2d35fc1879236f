-- What the calls of a published session return. This project's own.
use Rattle.std.specs.Prelude.{◌≡◌, ◌≢◌, ℕ, ◌≤◌, ◌⊎◌, true, false, length, List, Option, Some, None, Result, String}
use Rattle.std.specs.Prelude.{IfOk, IfErr, IfSome, IfNone, OnOk, OnErr, string_bytes}
use Rattle.std.specs.declared.alloc.AllocError.{AllocError}
use Rattle.std.specs.declared.alloc.Global.{Global}
use Rattle.fr_requests.specs.Requests.{reading}
use Rattle.fr_route.specs.Answers.{IsLineAnswer}
use Rattle.fr_route.specs.Blank.{is_blank}
use Rattle.fr_route.specs.Changes.{IsChanged, IsUndone}
use Rattle.fr_route.specs.Reroutes.{AreReplaced, AreRerouted}
use Rattle.fr_route.specs.States.{State, IsReport}
use Rattle.fr_route.specs.Texts.{longest_report}
use Rattle.fr_route.specs.Telling.{TellsOfLine}
use Rattle.fr_route.specs.declared.change.Change.{Change}
use Rattle.fr_route.specs.declared.change.Report.{Report}
use Rattle.fr_route.specs.declared.fault.AnswerFault.{AnswerFault}
use Rattle.fr_route.specs.declared.fault.AnswerFault.TheVariants.{Start}
use Rattle.fr_route.specs.declared.fault.NotMade.{NotMade}
use Rattle.fr_route.specs.declared.fault.RouteFault.TheVariants.{Start as RouteStart}
use Rattle.fr_readers.specs.Published.{LeadsBetween, Published, WayPushes}
use Rattle.fr_readers.specs.Publishing.{PublishesTo, PublishesWaysTo}

-- a line is answered, and the nodes that it reroutes and the ways are published; a blank line has no answer
pub record AnswersLine
    (old : Published) (line : List ℕ) (answer : Result (Option (String Global)) AnswerFault)
    (new : Published) : Type 0 where
  pub blank : IfOk answer (λ a. IfNone a ((is_blank line ≡ true) × (new ≡ old)))
  pub text : IfOk answer (λ a. IfSome a (λ text. (is_blank line ≡ false)
      × IsLineAnswer old.session (reading line) (string_bytes text) new.session))
  pub told : TellsOfLine old.session (reading line) answer new.session old.rerouted new.rerouted
  pub published : PublishesTo old.table new
  pub ways : PublishesWaysTo old.ways new
  pub pushes : new.pushes ≡ old.pushes
  -- if the answer is longer than any report, nothing has changed
  pub short : IfOk answer (λ a. IfSome a (λ text. (new ≡ old) ⊎ (length (string_bytes text) ≤ longest_report)))
  pub unchanged : OnErr answer ((is_blank line ≡ false) × (new ≡ old))
  pub no_start : IfErr answer (λ fault. fault ≢ Start)

-- the change is made, with this report of its round and these rerouted nodes
pub record IsMade (old : Published) (change : Change) (report : Report) (new : Published) : Type 0 where
  pub before : State
  pub after : State
  pub was : old.session ≡ Some before
  pub is : new.session ≡ Some after
  pub changed : IsChanged before change after
  pub report_is : IsReport after report.turned report.cut
  pub rerouted : AreRerouted before after new.rerouted

-- why the change was not made: it is refused, or memory is missing
pub record IsNotMade (old : Published) (change : Change) (undone : NotMade) : Type 0 where
  pub before : State
  pub was : old.session ≡ Some before
  pub refused : IsUndone before change undone
  pub no_start : undone.fault ≢ RouteStart

-- a change is made, and the nodes that it reroutes and the ways are published; there is no answer exactly if there is
-- no network
pub record MakesChange
    (old : Published) (change : Change) (answer : Option (Result Report NotMade)) (new : Published) : Type 0 where
  pub none : IfNone answer ((old.session ≡ None) × (new ≡ old))
  pub made : IfSome answer (λ a. IfOk a (λ report. IsMade old change report new))
  pub fault : IfSome answer (λ a. IfErr a (IsNotMade old change))
  pub unchanged : IfSome answer (λ a. OnErr a (new ≡ old))
  pub published : PublishesTo old.table new
  pub ways : PublishesWaysTo old.ways new

-- the pushes of both phases are those of a change that was made
abbrev pub NotesPushes : Published → Option (Result Report NotMade) → Published → Type 0
NotesPushes old answer new =
    IfSome answer (λ a. IfOk a (λ _. LeadsBetween old.session new.session new.pushes))

-- the noted pushes of both phases are those of a change that was made. Otherwise they are as before
pub record Notes (old : Option State) (answer : Option (Result Report NotMade)) (new : Option State)
    (before after : WayPushes) : Type 0 where
  pub made : IfSome answer (λ a. IfOk a (λ _. LeadsBetween old new after))
  pub fault : IfSome answer (λ a. OnErr a (after ≡ before))
  pub none : IfNone answer (after ≡ before)

-- a router is changed, with this report of its round
pub record ChangesRouter (s : State) (change : Change) (answer : Result Report NotMade) (next : State) : Type 0 where
  pub changed : IfOk answer (λ _. IsChanged s change next)
  pub report : IfOk answer (λ report. IsReport next report.turned report.cut)
  pub fault : IfErr answer (IsUndone s change)
  pub unchanged : OnErr answer (next ≡ s)
  pub no_start : IfErr answer (λ undone. undone.fault ≢ RouteStart)

-- a router replaces the one before it, if there was one, and the nodes that it reroutes and the ways are published
pub record PutsRouter (old : Published) (router : State) (answer : Result (Unit {0}) AllocError)
    (new : Published) : Type 0 where
  pub put : OnOk answer (new.session ≡ Some router)
  pub pushes : new.pushes ≡ old.pushes
  pub rerouted : OnOk answer (AreReplaced old.session router new.rerouted)
  pub published : PublishesTo old.table new
  pub ways : PublishesWaysTo old.ways new
  pub unchanged : OnErr answer (new ≡ old)
