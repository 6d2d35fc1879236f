-- What the rows of a network contain, in which direction a link can be added, and that a fault has one evidence. Each
-- law is a clause of a function of src/laws.rt. This project's own.
use Rattle.std.specs.Prelude.{ℕ, ◌≡◌, ◌≢◌, ◌↔◌, ◌++◌, List, [], ◌∷◌, map}
use Rattle.std.specs.List.{Contains}
use Rattle.std.specs.List.Sorted.{IsStrictlyIncreasing}
use Rattle.fr_graph.specs.Batches.{IsBatchFault, IsEditFault}
use Rattle.fr_graph.specs.Evidence.{NamesFirst, NamesInBatch, NamesOfEdit, evidence}
use Rattle.fr_graph.specs.Faults.{IsFirstFault, fault_place}
use Rattle.fr_graph.specs.Links.{IsAcyclic, IsNet, Points}
use Rattle.fr_graph.specs.Network.{Network}
use Rattle.fr_graph.specs.Rows.{row}
use Rattle.fr_graph.specs.declared.edit.Edit.{Edit}
use Rattle.fr_graph.specs.declared.fault.EditFault.{EditFault}
use Rattle.fr_graph.specs.declared.fault.NetFault.{NetFault}
use Rattle.fr_graph.specs.declared.first.First.{First}
use Rattle.fr_graph.specs.declared.first.First.TheVariants.{Outward, Inward}

-- The row of x contains w as Outward exactly if a link points from x to w.
abbrev pub OutwardIsALinkTo : Type 0
OutwardIsALinkTo = (n : ℕ) (links : List (ℕ × ℕ)) (x w : ℕ) → IsNet n links
    → Contains (row n links x) (w, Outward) ↔ Points links x w

-- The row of x contains w as Inward exactly if a link points from w to x.
abbrev pub InwardIsALinkFrom : Type 0
InwardIsALinkFrom = (n : ℕ) (links : List (ℕ × ℕ)) (x w : ℕ) → IsNet n links
    → Contains (row n links x) (w, Inward) ↔ Points links w x

-- So each link is in the rows of both its ends: Outward at its tail and Inward at its head.
abbrev pub LinksAreSeenFromBothEnds : Type 0
LinksAreSeenFromBothEnds = (n : ℕ) (links : List (ℕ × ℕ)) (x w : ℕ) → IsNet n links
    → Contains (row n links x) (w, Outward) ↔ Contains (row n links w) (x, Inward)

-- The neighbours in a row are in ascending order, and none is there twice.
abbrev pub NeighboursRise : Type 0
NeighboursRise = (n : ℕ) (links : List (ℕ × ℕ)) (x : ℕ)
    → IsStrictlyIncreasing (map (λ (e : ℕ × First). e.0) (row n links x))

-- Of the two possible links between two nodes, at least one closes no cycle.
abbrev pub OneWayIsFree : Type 0
OneWayIsFree = (links : List (ℕ × ℕ)) (u v : ℕ) → IsAcyclic links → u ≢ v
    → ¬ IsAcyclic (links ++ (u, v) ∷ []) → IsAcyclic (links ++ (v, u) ∷ [])

-- two faults are of one kind and have the same evidence
pub record AreAlike (some other : NetFault) : Type 0 where
  pub kind : fault_place some ≡ fault_place other
  pub shown : evidence some ≡ evidence other

-- The links determine which fault they have first, and what it names.
abbrev pub LinksHaveOneFault : Type 0
LinksHaveOneFault = (n : ℕ) (links : List (ℕ × ℕ)) (f g : NetFault) → IsFirstFault n links f → NamesFirst n links f
    → IsFirstFault n links g → NamesFirst n links g → AreAlike f g

-- A network and an edit determine the same of an edit that is refused.
abbrev pub EditsHaveOneFault : Type 0
EditsHaveOneFault = (net : Network) (edit : Edit) (f g : NetFault) → IsEditFault net edit f → NamesOfEdit net edit f
    → IsEditFault net edit g → NamesOfEdit net edit g → AreAlike f g

-- A network and a batch determine the same of a batch that is refused, and which of its edits is.
abbrev pub BatchesHaveOneFault : Type 0
BatchesHaveOneFault = (net : Network) (edits : List Edit) (f g : EditFault) → IsBatchFault net edits f
    → NamesInBatch net edits f → IsBatchFault net edits g → NamesInBatch net edits g
    → (f.at ≡ g.at) × AreAlike f.fault g.fault
