-- What a change makes, from the edits that it makes and the destination after them.
use Rattle.std.proofs.Common.{List, [], ap, arith, inl, inr, refl, subst, sym, length, take, ℕ, ◌++◌, ◌<◌, ◌≤◌, ◌∙◌}
use Rattle.std.proofs.Common.{◌∷◌, ◌≡◌, ◌≢◌}
use Rattle.std.specs.List.{HoldsAt}
use Rattle.fr_graph.specs.Batches.{AreMade, IsBatchFault, IsEditFault, IsMade}
use Rattle.fr_graph.specs.Edits.{IsJoined, without}
use Rattle.fr_graph.specs.Faults.{IsNetworkOf}
use Rattle.fr_graph.specs.Limits.{most_edits}
use Rattle.fr_graph.specs.declared.fault.EditFault.{EditFault}
use Rattle.fr_graph.specs.declared.fault.NetFault.{NetFault}
use Rattle.fr_graph.specs.declared.fault.NetFault.TheVariants as net
use Rattle.fr_graph.specs.Network.{Network}
use Rattle.fr_graph.specs.declared.edit.Edit.{Edit}
use Rattle.fr_graph.specs.declared.edit.Edit.TheVariants as edit
use Rattle.fr_route.specs.Changes.{IsChanged, IsOpenFault, IsPlaced, IsPlacedFault, IsRouteFault, IsStill, IsUndone}
use Rattle.fr_route.specs.Faults.{of_net_fault}
use Rattle.fr_route.specs.Outcomes.{IsEdited}
use Rattle.fr_graph.specs.Evidence.{NamesInBatch, NamesOfEdit}
use Rattle.fr_route.specs.States.{State, IsRound, net_at}
use Rattle.fr_route.specs.declared.change.Change.{Change}
use Rattle.fr_route.specs.declared.change.Change.TheVariants.{Add, Batch, Cut, Destination, Join}
use Rattle.fr_route.specs.declared.fault.NotMade.{NotMade}
use Rattle.fr_route.specs.declared.fault.RouteFault.{RouteFault}
use Rattle.fr_route.specs.declared.fault.RouteFault.TheVariants.{Memory, Net, Range, Start}
use Rattle.fr_route.proofs.RoundEnds.{round_listed}

nodes_of : (n : ℕ) (links : List (ℕ × ℕ)) (net : Network) → IsNetworkOf n links net → net.nodes ≡ n
nodes_of n links net made = ap (λ (m : Network). m.nodes) made.is

pub joined_nodes : (n : ℕ) (links : List (ℕ × ℕ)) (u v : ℕ) (net : Network) → IsJoined n links u v net → net.nodes ≡ n
joined_nodes n links u v net (inl made) = nodes_of n (links ++ (u, v) ∷ []) net made
joined_nodes n links u v net (inr made) = nodes_of n (links ++ (v, u) ∷ []) net made.1

-- no edit makes a node
edited_nodes : (net : Network) (e : Edit) (after : Network) → IsMade net e after → after.nodes ≡ net.nodes
edited_nodes net (edit.Cut u v) after made = nodes_of net.nodes (without u v net.links) after made.1
edited_nodes net (edit.Add u v) after made = nodes_of net.nodes (net.links ++ (u, v) ∷ []) after made
edited_nodes net (edit.Join u v) after made = joined_nodes net.nodes net.links u v after made

pub made_nodes : (net : Network) (edits : List Edit) (after : Network) → AreMade net edits after
    → after.nodes ≡ net.nodes
made_nodes net [] after made = ap (λ (m : Network). m.nodes) made
made_nodes net (e ∷ es) after made = made_nodes made.0 es after made.1.1 ∙ edited_nodes net e made.0 made.1.0

-- the edits are not made because one is refused
refused_for : (s : State) (edits : List Edit) (d at : ℕ) (fault : NetFault)
    → length edits ≤ most_edits
    → (fault ≢ net.Memory → IsBatchFault (net_at s) edits (record { at = at; fault = fault }))
    → NamesInBatch (net_at s) edits (record { at = at; fault = fault })
    → IsPlacedFault s edits d at (of_net_fault fault)
refused_for s edits d at net.TooMany few why names = (why (λ e. absurd cc), names)
refused_for s edits d at (net.Range x) few why names = (why (λ e. absurd cc), names)
refused_for s edits d at (net.SelfLink x) few why names = (why (λ e. absurd cc), names)
refused_for s edits d at (net.Twice x y) few why names = (why (λ e. absurd cc), names)
refused_for s edits d at (net.Cycle walk) few why names = (why (λ e. absurd cc), names)
refused_for s edits d at net.NoLink few why names = (why (λ e. absurd cc), names)
refused_for s edits d at net.Memory few why names = few

pub refused_fault : (s : State) (edits : List Edit) (d : ℕ) (refused : EditFault) → length edits ≤ most_edits
    → (refused.fault ≢ net.Memory → IsBatchFault (net_at s) edits refused) → NamesInBatch (net_at s) edits refused
    → IsPlacedFault s edits d refused.at (of_net_fault refused.fault)
refused_fault s edits d refused few why names = refused_for s edits d refused.at refused.fault few why names

-- too many edits name no node
pub too_many_named : (made : Network) (e : Edit) → NamesOfEdit made e net.TooMany
too_many_named made (edit.Cut u v) = tt
too_many_named made (edit.Add u v) = tt
too_many_named made (edit.Join u v) = tt

-- or because there is no round on the network that they make
pub round_fault : (s : State) (edits : List Edit) (net : Network) (d at : ℕ) (fault : RouteFault) → d < s.nodes
    → length edits ≤ most_edits → AreMade (net_at s) edits net → IsOpenFault net.nodes d fault
    → (IsStill net d → fault ≢ Start) → IsPlacedFault s edits d at fault
round_fault s edits net d at (Net fault) below few made why moves = absurd why
round_fault s edits net d at Range below few made why moves =
    omega (arith, below, why, made_nodes (net_at s) edits net made)
round_fault s edits net d at Start below few made why moves = (few, below, (net, (made, λ still. moves still refl)))
round_fault s edits net d at Memory below few made why moves = few

-- the change makes exactly this edit
pub record IsBy (s : State) (change : Change) (e : Edit) : Type 0 where
  pub done : (new : State) → IsEdited s (e ∷ []) s.dest new → IsChanged s change new
  pub undone : (why : NotMade) → IsPlaced s (e ∷ []) s.dest why → IsUndone s change why

-- the only edit of a change is refused
pub refused_edit : (s : State) (e : Edit) (refused : EditFault) → IsBatchFault (net_at s) (e ∷ []) refused
    → IsEditFault (net_at s) e refused.fault
refused_edit s e refused (inl more) = absurd (omega (arith, more.0))
refused_edit s e refused (inr (few, at)) =
    let first : refused.at ≡ 0 = omega (arith, at.inside) in
    let before : at.before ≡ net_at s =
    subst (λ (k : ℕ). AreMade (net_at s) (take k (e ∷ [])) at.before) first at.made in
    let here : IsEditFault at.before e refused.fault =
    subst (λ (k : ℕ). HoldsAt (λ edit. IsEditFault at.before edit refused.fault) (e ∷ []) k) first at.refused e in
    subst (λ (m : Network). IsEditFault m e refused.fault) before here

-- and names what it has to
pub named_edit : (s : State) (e : Edit) (refused : EditFault) → IsBatchFault (net_at s) (e ∷ []) refused
    → NamesInBatch (net_at s) (e ∷ []) refused → NamesOfEdit (net_at s) e refused.fault
named_edit s e refused (inl more) names = absurd (omega (arith, more.0))
named_edit s e refused (inr (few, at)) names =
    let first : refused.at ≡ 0 = omega (arith, at.inside) in
    let made : AreMade (net_at s) (take refused.at (e ∷ [])) (net_at s) =
    subst (λ (k : ℕ). AreMade (net_at s) (take k (e ∷ [])) (net_at s)) (sym first) refl in
    subst (λ (k : ℕ). HoldsAt (λ edit. NamesOfEdit (net_at s) edit refused.fault) (e ∷ []) k) first
    (names (net_at s) made) e

pub cut_by : (s : State) (u v : ℕ) → IsBy s (Cut u v) (edit.Cut u v)
cut_by s u v = record { done = done; undone = λ why h. by_place why.at why.fault h }
  where
    done : (new : State) → IsEdited s (edit.Cut u v ∷ []) s.dest new → IsChanged s (Cut u v) new
    done new (few, (net, ((next, (made, is)), round))) = (
      made.0,
      round_listed s.nodes s.dest (without u v s.links) next new made.1
          (subst (λ (m : Network). IsRound m.nodes s.dest m.links new) is round),
    )

    by_place : (at : ℕ) (fault : RouteFault) → IsPlacedFault s (edit.Cut u v ∷ []) s.dest at fault
        → IsRouteFault s (Cut u v) fault
    by_place at (Net fault) (why, names) = refused_edit s (edit.Cut u v) (record { at = at; fault = fault }) why
    by_place at Range h = h
    by_place at Start h = h
    by_place at Memory h = tt

pub add_by : (s : State) (u v : ℕ) → IsBy s (Add u v) (edit.Add u v)
add_by s u v = record { done = done; undone = λ why h. by_place why.at why.fault h }
  where
    done : (new : State) → IsEdited s (edit.Add u v ∷ []) s.dest new → IsChanged s (Add u v) new
    done new (few, (net, ((next, (made, is)), round))) = (
      made.faultless,
      round_listed s.nodes s.dest (s.links ++ (u, v) ∷ []) next new made
          (subst (λ (m : Network). IsRound m.nodes s.dest m.links new) is round),
    )

    by_place : (at : ℕ) (fault : RouteFault) → IsPlacedFault s (edit.Add u v ∷ []) s.dest at fault
        → IsRouteFault s (Add u v) fault
    by_place at (Net fault) (why, names) =
        let refused : EditFault = record { at = at; fault = fault } in
        (refused_edit s (edit.Add u v) refused why, named_edit s (edit.Add u v) refused why names)
    by_place at Range h = h
    by_place at Start h = h
    by_place at Memory h = tt

pub join_by : (s : State) (u v : ℕ) → IsBy s (Join u v) (edit.Join u v)
join_by s u v = record { done = done; undone = λ why h. by_place why.at why.fault h }
  where
    done : (new : State) → IsEdited s (edit.Join u v ∷ []) s.dest new → IsChanged s (Join u v) new
    done new (few, (net, ((next, (made, is)), round))) =
        (next, (made, subst (λ (m : Network). IsRound m.nodes s.dest m.links new) is round))

    by_place : (at : ℕ) (fault : RouteFault) → IsPlacedFault s (edit.Join u v ∷ []) s.dest at fault
        → IsRouteFault s (Join u v) fault
    by_place at (Net fault) (why, names) =
        let refused : EditFault = record { at = at; fault = fault } in
        (refused_edit s (edit.Join u v) refused why, named_edit s (edit.Join u v) refused why names)
    by_place at Range h = h
    by_place at Start h = h
    by_place at Memory h = tt

-- why a change is not made, without the place
pub placeless_fault : (s : State) (change : Change) (why : NotMade) → IsUndone s change why
    → IsRouteFault s change why.fault
placeless_fault s (Cut u v) why h = h
placeless_fault s (Add u v) why h = h
placeless_fault s (Join u v) why h = h
placeless_fault s (Destination d) why h = h
placeless_fault s (Batch edits) why h = by_place why.at why.fault h
  where
    by_place : (at : ℕ) (fault : RouteFault) → IsPlacedFault s edits.items s.dest at fault
        → IsRouteFault s (Batch edits) fault
    by_place at (Net fault) h = (at, h)
    by_place at Range h = h
    by_place at Start h = h
    by_place at Memory h = h
