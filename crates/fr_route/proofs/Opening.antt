-- Why a network is refused.
use Rattle.std.proofs.Common.{Err, IfErr, List, Ok, Result, ap, arith, refl, ℕ, ◌≢◌}
use Rattle.fr_graph.specs.Faults.{IsFirstFault, IsNetworkOf}
use Rattle.fr_graph.specs.Network.{Network}
use Rattle.fr_graph.specs.declared.fault.NetFault.{NetFault}
use Rattle.fr_graph.specs.declared.fault.NetFault.TheVariants as net
use Rattle.fr_route.specs.Changes.{IsOpenFault, IsStill}
use Rattle.fr_route.specs.Faults.{of_net_fault}
use Rattle.fr_route.specs.Outcomes.{IsRoundFault}
use Rattle.fr_graph.specs.Evidence.{NamesFirst}
use Rattle.fr_route.specs.Refusals.{IsNewFault}
use Rattle.fr_route.specs.declared.fault.RouteFault.{RouteFault}
use Rattle.fr_route.specs.declared.fault.RouteFault.TheVariants.{Memory, Net, Range, Start}

-- its links have a fault
pub new_fault : (n d : ℕ) (links : List (ℕ × ℕ)) (fault : NetFault) → (fault ≢ net.Memory → IsFirstFault n links fault)
    → NamesFirst n links fault → IsNewFault n d links (of_net_fault fault)
new_fault n d links net.TooMany why names = (why (λ e. absurd cc), names)
new_fault n d links (net.Range x) why names = (why (λ e. absurd cc), names)
new_fault n d links (net.SelfLink x) why names = (why (λ e. absurd cc), names)
new_fault n d links (net.Twice x y) why names = (why (λ e. absurd cc), names)
new_fault n d links (net.Cycle walk) why names = (why (λ e. absurd cc), names)
new_fault n d links net.NoLink why names = (why (λ e. absurd cc), names)
new_fault n d links net.Memory why names = tt

-- no router is opened on it
open_fault : (n d : ℕ) (links : List (ℕ × ℕ)) (net : Network) (fault : RouteFault) → IsNetworkOf n links net
    → IsOpenFault net.nodes d fault → (IsStill net d → fault ≢ Start) → IsNewFault n d links fault
open_fault n d links net (Net fault) made why moves = absurd why
open_fault n d links net Range made why moves =
    (made.faultless, omega (arith, ap (λ (m : Network). m.nodes) made.is, why))
open_fault n d links net Start made why moves =
    (omega (arith, ap (λ (m : Network). m.nodes) made.is, why), (net, (made, λ still. moves still refl)))
open_fault n d links net Memory made why moves = tt

pub opening_fault : {X : Type 0} (never : Type 0) (n d : ℕ) (links : List (ℕ
    × ℕ)) (net : Network) (opened : Result X RouteFault)
    → IsNetworkOf n links net → IfErr opened (IsRoundFault never net d) → IfErr opened (IsNewFault n d links)
opening_fault never n d links net (Ok router) made why = tt
opening_fault never n d links net (Err fault) made why = open_fault n d links net fault made why.why why.still
