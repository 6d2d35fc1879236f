-- Which rerouted nodes an answered request lists, for a caller that keeps the hops of all nodes. This project's own.
use Rattle.std.specs.Prelude.{◌≡◌, ℕ, ◌⊎◌, List, Option, Some, None, Result}
use Rattle.std.specs.Prelude.{Ok, Err, String, IfOk, IfSome, IfNone, OnErr}
use Rattle.std.specs.declared.alloc.Global.{Global}
use Rattle.fr_requests.specs.Requests.{PlainRequest, new_network, cut_link, add_link}
use Rattle.fr_requests.specs.Requests.{join_nodes, make_edits, move_dest, walk_from, ask, ask_node, order_pushes, push_ways}
use Rattle.fr_requests.specs.declared.requests.LineFault.{LineFault}
use Rattle.fr_route.specs.Answers.{IsAccepted, IsRefused}
use Rattle.fr_route.specs.Pushing.{AreAsked}
use Rattle.fr_route.specs.Reroutes.{AreReplaced, AreRerouted}
use Rattle.fr_route.specs.States.{State}
use Rattle.fr_route.specs.declared.fault.AnswerFault.{AnswerFault}
use Rattle.fr_tables.specs.declared.hop.Hop.{Hop}

-- what an accepted request makes of the list: a network or a change lists the nodes that it reroutes, in push order,
-- and any other request leaves the list unchanged
abbrev pub TellsOf : Option State → PlainRequest → State → List ℕ → List ℕ → Type 0
TellsOf s (new_network n d links) new before after = AreReplaced s new after
TellsOf s (order_pushes table wanted) new before after = ⊥
TellsOf None request new before after = ⊥
TellsOf (Some s) (cut_link u v) new before after = AreRerouted s new after
TellsOf (Some s) (add_link u v) new before after = AreRerouted s new after
TellsOf (Some s) (join_nodes u v) new before after = AreRerouted s new after
TellsOf (Some s) (make_edits edits) new before after = AreRerouted s new after
TellsOf (Some s) (move_dest d) new before after = AreRerouted s new after
TellsOf (Some s) (walk_from x) new before after = after ≡ before
TellsOf (Some s) (ask question) new before after = after ≡ before
TellsOf (Some s) (ask_node question x) new before after = after ≡ before
TellsOf (Some s) (push_ways table) new before after = after ≡ before

-- what a request makes of the list, and the state after it: refusals and pushes between tables leave the list unchanged
abbrev pub IsTold : Option State → PlainRequest → Option State → List ℕ → List ℕ → Type 0
IsTold s request next before after =
    ((number : ℕ) × IsRefused s request number × (next ≡ s) × (after ≡ before))
    ⊎ (((new : State) × IsAccepted s request new × (next ≡ Some new) × TellsOf s request new before after)
    ⊎ ((pushes : List (ℕ × Hop)) × AreAsked s request pushes × (next ≡ s) × (after ≡ before)))

-- the same for a line that was read with this result
abbrev pub IsLineTold : Option State → Result PlainRequest LineFault → Option State → List ℕ → List ℕ → Type 0
IsLineTold s (Ok request) next before after = IsTold s request next before after
IsLineTold s (Err fault) next before after = (next ≡ s) × (after ≡ before)

-- what a line makes of the caller's list: nothing if the line is blank or the call fails
pub record TellsOfLine (s : Option State) (asked : Result PlainRequest LineFault)
    (answer : Result (Option (String Global)) AnswerFault) (next : Option State) (before after : List ℕ) : Type 0 where
  pub answered : IfOk answer (λ a. IfSome a (λ _. IsLineTold s asked next before after))
  pub blank : IfOk answer (λ a. IfNone a (after ≡ before))
  pub fault : OnErr answer (after ≡ before)
