-- What holds of an attempt holds of any weaker one.
use Rattle.std.proofs.Common.{List, [], ◌∷◌, ◌≡◌, Err, IfErr, IfOk, Ok, OnErr, Result, subst, ℕ}
use Rattle.fr_graph.specs.declared.edit.Edit.{Edit}
use Rattle.std.specs.declared.alloc.Global.{Global}
use Rattle.std.specs.declared.vec.Vec.{Vec}
use Rattle.fr_route.specs.Changes.{IsPlaced, IsPlacedFault, IsRouteFault, IsUndone}
use Rattle.fr_route.specs.Outcomes.{IsEdited}
use Rattle.fr_route.specs.declared.change.Change.{Change}
use Rattle.fr_route.specs.declared.change.Change.TheVariants.{Add, Batch, Cut, Destination, Join}
use Rattle.fr_route.specs.States.{State}
use Rattle.fr_route.specs.Tries.{IsTried, Trial, change_of, edit_of, edits_of, without_place}
use Rattle.fr_route.specs.declared.change.Report.{Report}
use Rattle.fr_route.specs.declared.fault.NotMade.{NotMade}
use Rattle.fr_route.specs.declared.fault.RouteFault.{RouteFault}
use Rattle.fr_route.specs.declared.fault.RouteFault.TheVariants.{Memory, Net, Range, Start}
use Rattle.fr_route.specs.declared.changed_nodes.ChangedNodes.{ChangedNodes}

tried_as : (never : Type 0) (trial other : Trial) (s : State) (told : ChangedNodes)
    (answer : Result Report NotMade) (next : State) (more : ChangedNodes)
    → ((new : State) → trial.Made new → other.Made new) → ((why : NotMade) → trial.Undone why → other.Undone why)
    → IsTried never trial s told answer next more → IsTried never other s told answer next more
tried_as never trial other s told (Ok it) next more made undone is = record {
  made = made next is.made;
  report = is.report;
  rerouted = is.rerouted;
  ways = is.ways;
  asks = is.asks;
  fault = tt;
  unchanged = tt;
  untold = tt;
  untold_ways = tt;
  no_start = λ h. tt;
}
tried_as never trial other s told (Err why) next more made undone is = record {
  made = tt;
  report = tt;
  rerouted = tt;
  ways = tt;
  asks = is.asks;
  fault = undone why is.fault;
  unchanged = is.unchanged;
  untold = is.untold;
  untold_ways = is.untold_ways;
  no_start = is.no_start;
}

-- one edit, with the same destination
pub edit_as : (never : Type 0) (edit : Edit) (d : ℕ) (other : Trial) (s : State) (told : ChangedNodes)
    (answer : Result Report NotMade) (next : State) (more : ChangedNodes)
    → ((new : State) → IsEdited s (edit ∷ []) s.dest new → other.Made new)
    → ((why : NotMade) → IsPlaced s (edit ∷ []) s.dest why → other.Undone why)
    → d ≡ s.dest → IsTried never (edit_of s edit d) s told answer next more
    → IsTried never other s told answer next more
edit_as never edit d other s told answer next more made undone here is =
    tried_as never (edit_of s edit s.dest) other s told answer next more made undone
    (subst (λ (at : ℕ). IsTried never (edit_of s edit at) s told answer next more) here is)

-- a batch of edits, with the same destination
pub batch_as : (never : Type 0) (batch : Vec Edit Global) (edits : List Edit) (d : ℕ) (s : State) (told : ChangedNodes)
    (answer : Result Report NotMade) (next : State) (more : ChangedNodes) → edits ≡ batch.items → d ≡ s.dest
    → IsTried never (edits_of s edits d) s told answer next more
    → IsTried never (change_of s (Batch batch)) s told answer next more
batch_as never batch edits d s told answer next more same here is =
    tried_as never (edits_of s batch.items s.dest) (change_of s (Batch batch)) s told answer next more (λ new h. h)
    (λ why h. h)
    (subst (λ (e : ℕ). IsTried never (edits_of s batch.items e) s told answer next more) here
    (subst (λ (es : List Edit). IsTried never (edits_of s es d) s told answer next more) same is))

-- what is said of a result without the place of the refused edit, by what is said with it
module _ {T : Type 0} where
  pub placeless_ok : (P : T → Type 0) → (r : Result T NotMade) → IfOk r P → IfOk (without_place r) P
  placeless_ok P (Ok it) h = h
  placeless_ok P (Err why) h = tt

  pub placeless_on : (A : Type 0) → (r : Result T NotMade) → OnErr r A → OnErr (without_place r) A
  placeless_on A (Ok it) h = tt
  placeless_on A (Err why) h = h

-- why a change fails, without the place of the refused edit
batch_unplaced : (s : State) (edits : Vec Edit Global) (at : ℕ) (fault : RouteFault)
    → IsPlacedFault s edits.items s.dest at fault → IsRouteFault s (Batch edits) fault
batch_unplaced s edits at (Net fault) h = (at, h)
batch_unplaced s edits at Range h = h
batch_unplaced s edits at Start h = h
batch_unplaced s edits at Memory h = h

unplaced : (s : State) (change : Change) (why : NotMade) → IsUndone s change why → IsRouteFault s change why.fault
unplaced s (Cut u v) why h = h
unplaced s (Add u v) why h = h
unplaced s (Join u v) why h = h
unplaced s (Batch edits) why h = batch_unplaced s edits why.at why.fault h
unplaced s (Destination d) why h = h

pub placeless_fault : {T : Type 0} (s : State) (change : Change) (r : Result T NotMade) → IfErr r (IsUndone s change)
    → IfErr (without_place r) (IsRouteFault s change)
placeless_fault s change (Ok it) h = tt
placeless_fault s change (Err why) h = unplaced s change why h
