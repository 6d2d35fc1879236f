use Rattle.std.proofs.Common.{◌≡◌, ◌≢◌, List, arith, refl, rules, subst, ℕ}
use Rattle.std.proofs.lemmas.Result.{err_from_is_err_and}
use Rattle.fr_graph.specs.Network.{Network}
use Rattle.fr_graph.specs.declared.fault.NotEdited.{NotEdited}
use Rattle.fr_graph.specs.declared.fault.NotEdited.TheVariants.{Fault, Refused}
use Rattle.fr_route.specs.Changes.{IsOpenFault, IsPlaced, IsStill}
use Rattle.fr_route.specs.Faults.{of_not_edited}
use Rattle.fr_route.specs.Outcomes.{IsOutcome}
use Rattle.fr_route.specs.States.{State, state_with}
use Rattle.fr_route.specs.declared.fault.RouteFault.{RouteFault}
use Rattle.fr_route.specs.declared.fault.RouteFault.TheVariants.{Start}
use Rattle.fr_route.proofs.Changing.{made_nodes, refused_fault, round_fault}
use Rattle.fr_route.proofs.settling.Settler.edited_outcome.Given.{Over}
use Rattle.fr_route.proofs.settling.Settler.edited_outcome.Goals as goal
use Rattle.fr_route.proofs.settling.Settler.edited_outcome.Goals.{In_err-outcome}

pub edit_if-requires : goal.edit_if-requires
edit_if-requires g c = record {
  callable = λ made is.
      let nodes = made_nodes c.args.net.now c.args.revision.now.edits.now made.now is in
      (c.requires.settles, (omega (arith, c.requires.few.0, nodes), c.requires.from made.now is));
}

-- why the edits are not made, or why there is no round on the network that they make
not_made : (g : Over) (c : In_err-outcome g) (e : ℕ) (counts : List ℕ)
    → IsPlaced (state_with c.args.net.now e counts) c.args.revision.now.edits.now c.args.revision.now.dest
    (of_not_edited c.in_err-outcome.field-0.0)
not_made g c e counts =
    let s : State = state_with c.args.net.now e counts in
    let edits = c.args.revision.now.edits.now in
    let d = c.args.revision.now.dest in
    let reason = c.in_err-outcome.field-0.0 in
    let placed : (r : NotEdited RouteFault) → reason ≡ r → IsPlaced s edits d (of_not_edited r) =
    λ r. elim r as
    (λ (r : NotEdited RouteFault). c.in_err-outcome.field-0.0 ≡ r → IsPlaced s edits d (of_not_edited r)) [
      | Refused refused ↦ λ is.
          refused_fault s edits d refused c.requires.few.1 (rw is at c.in_err-outcome.ensures.refused)
          (rw is at c.in_err-outcome.ensures.names)
      | Fault fault ↦ λ is.
          let why = rw is at c.in_err-outcome.ensures.refused in
          let told = why.1.1.1.1.1 in
          round_fault s edits why.0 d 0 fault c.requires.few.0 why.1.1.0 why.1.0
          (subst (λ (m : Network). IsOpenFault m.nodes d fault) {y = why.0} why.1.1.1.2 told.why)
          (subst (λ (m : Network). IsStill m d → fault ≢ Start) {y = why.0} why.1.1.1.2 told.still)
    ] in
    placed reason refl

pub returns-in_err-outcome : goal.returns-in_err-outcome
returns-in_err-outcome g c =
    let p = err_from_is_err_and c.from_residual.result c.from_residual.ensures.1 in
    rw (p.1, p.2) (record {
      made = tt;
      fault = not_made g (goal.at.returns-in_err-outcome g c).In_err-outcome;
      unchanged = c.in_err-outcome.ensures.unchanged;
      no_start = search rules;
    })

pub returns : goal.returns
returns g c =
    let d = c.args.revision.now.dest in
    let outcome = c.in_ok-outcome.outcome in
    let net : Network = c.edit_if.new.self in
    let ok = c.in_ok-outcome.ensures.ok in
    record {
      made = (
        ok.0,
        subst (λ (m : Network). IsOutcome m d outcome) {y = net} ok.1.2 ok.1.1.0,
      );
      fault = λ e counts. tt;
      unchanged = tt;
      no_start = λ never. tt;
    }
