-- A way to get settled counts, which is passed in as a closure. For proofs only.
use Rattle.std.specs.Prelude.{◌≡◌, ◌≢◌, ℕ, ◌<◌, ◌≤◌, ◌^◌, ◌↔◌, List, Option, Result, IfOk, IfErr, replicate}
use Rattle.std.specs.Borrow.{Bor}
use Rattle.fr_graph.specs.Network.{Network}
use Rattle.fr_core.specs.Settled.{AreSettled}
use Rattle.fr_crew.specs.Settlements.{CanBegin, IsCounted}
use Rattle.fr_crew.specs.declared.fault.CrewFault.{CrewFault}
use Rattle.fr_crew.specs.declared.fault.CrewFault.TheVariants.{Range, Start}

-- what the way can be called with: any network, any destination, and what a settlement begins with
pub record CanAsk (net : Bor Network) (d : ℕ) (from : Option (Bor (List ℕ))) (turns : List ℕ) : Type 0 where
  pub fits : d < 2 ^ 32
  pub begin : CanBegin net.now d from turns

-- the result of the call: `Range` exactly if the destination is not a node, and `Start` only if a node can turn
pub record IsCountAnswer (net : Network) (d : ℕ) (answer : Result (List ℕ) CrewFault) : Type 0 where
  pub settled : IfOk answer (IsCounted net.nodes d net.links)
  pub range : IfErr answer (λ fault. (fault ≡ Range) ↔ (net.nodes ≤ d))
  pub still : AreSettled net.nodes d net.links (replicate net.nodes 0) → IfErr answer (λ fault. fault ≢ Start)

module _ {F : Type 0} where
  -- the way accepts all that it can be called with, and returns only such results
  pub record Settles (pre : F → Bor Network → ℕ → Option (Bor (List ℕ)) → List ℕ → Type 0) (post : F → Bor Network
      → ℕ → Option (Bor (List ℕ)) → List ℕ → Result (List ℕ) CrewFault → Type 0) (settle : F) : Type 0 where
    pub takes : (net : Bor Network) (d : ℕ) (from : Option (Bor (List ℕ))) (turns : List ℕ) → CanAsk net d from turns
        → pre settle net d from turns
    pub gives : (net : Bor Network) (d : ℕ) (from : Option (Bor (List ℕ))) (turns : List ℕ)
        (answer : Result (List ℕ) CrewFault) → CanAsk net d from turns → post settle net d from turns answer
        → IsCountAnswer net.now d answer

  -- the way never fails with `Start`
  abbrev pub NeverStarts : (post : F → Bor Network → ℕ → Option (Bor (List ℕ)) → List ℕ → Result (List ℕ) CrewFault
      → Type 0) → F → Type 0
  NeverStarts post settle = (net : Bor Network) (d : ℕ) (from : Option (Bor (List ℕ))) (turns : List ℕ)
      (answer : Result (List ℕ) CrewFault) → CanAsk net d from turns → post settle net d from turns answer
      → IfErr answer (λ fault. fault ≢ Start)
