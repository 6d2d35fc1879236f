-- The entries of the row of a node, and its links.
use Rattle.std.proofs.Common.{List, arith, get_or, inl, inr, length, subst, ℕ, ◌+◌, ◌<◌, ◌≡◌}
use Rattle.std.proofs.lemmas.Bool.{cases_lt}
use Rattle.std.proofs.lemmas.List.{get_or_default}
use Rattle.fr_graph.proofs.Neighbours.{row_of_in, row_of_out}
use Rattle.fr_graph.proofs.SideRows.{entry_below}
use Rattle.fr_graph.specs.Links.{IsNet, Points}
use Rattle.fr_graph.specs.Network.{Network}
use Rattle.fr_graph.specs.Rows.{row}
use Rattle.fr_graph.specs.declared.first.First.{First}
use Rattle.fr_graph.specs.declared.first.First.TheVariants.{Inward, Outward}
use Rattle.fr_nearest.specs.Update.{HoldTo}

-- the neighbour of an entry has a number in a table of all nodes
pub entry_inside : (net : Network) (x : ℕ) (entries : List (ℕ × First)) (k : ℕ) (table : List ℕ)
    → entries ≡ row net.nodes net.links x → k < length entries → length table ≡ net.nodes
    → (get_or entries k (0, Outward)).0 < length table
entry_inside net x entries k table is inside one_each =
    omega (arith, entry_below net.nodes net.links x entries k (0, Outward) is inside, one_each)

-- what holds of the entries before a place, and of the one there
pub hold_more : (P : ℕ × First → Type 0) (entries : List (ℕ × First)) (place : ℕ) → place < length entries
    → HoldTo entries place P → P (get_or entries place (0, Outward)) → HoldTo entries (place + 1) P
hold_more P entries place inside hold here k e lt = elim (cases_lt k place) [
  | inl less ↦ hold k e less
  | inr past ↦
      let at : get_or entries k e ≡ get_or entries place (0, Outward) =
      let is : k ≡ place = omega arith in rw is (get_or_default entries place e (0, Outward) inside) in
      rw at here
]

-- what holds of the entries of a row holds of each link of its node
pub hold_out : (P : ℕ × First → Type 0) (n : ℕ) (links : List (ℕ × ℕ)) (x w : ℕ) → IsNet n links
    → HoldTo (row n links x) (length (row n links x)) P → Points links x w → P (w, Outward)
hold_out P n links x w is_net hold link =
    let at = row_of_out n links x w is_net link in
    subst P at.2 (hold at.0 (w, Outward) at.1)

pub hold_in : (P : ℕ × First → Type 0) (n : ℕ) (links : List (ℕ × ℕ)) (x w : ℕ) → IsNet n links
    → HoldTo (row n links x) (length (row n links x)) P → Points links w x → P (w, Inward)
hold_in P n links x w is_net hold link =
    let at = row_of_in n links x w is_net link in
    subst P at.2 (hold at.0 (w, Inward) at.1)
