-- Whether a link points from one node to another now, by the row of the first.
use Rattle.std.proofs.Common.{All, Contains, List, None, Option, Some, ap, get_or, length, refl, slice_index, subst, ℕ}
use Rattle.std.proofs.Common.{◌<◌, ◌↔◌, ◌≡◌}
use Rattle.std.proofs.lemmas.List.Elements.{All-contains, Contains-get_or}
use Rattle.fr_core.proofs.SensesByRow.{PointsBy, points_from_row, row_from_points}
use Rattle.fr_core.specs.Senses.{sense_of}
use Rattle.fr_core.specs.declared.directions.Sense.{Sense}
use Rattle.fr_core.specs.declared.directions.Sense.TheVariants.{Inward, Outward}
use Rattle.fr_graph.proofs.Neighbours.{row_holds}
use Rattle.fr_graph.specs.Counts.{links_at}
use Rattle.fr_graph.specs.Links.{IsNet, Points}
use Rattle.fr_graph.specs.Rows.{row, row_entry}
use Rattle.fr_graph.specs.declared.first.First.{First}

pub inward_is_other : (s : Option Sense) → s ≡ Some Inward → ¬ (s ≡ Some Outward)
inward_is_other s e f = cc

pub none_is_other : (s : Option Sense) → s ≡ None → ¬ (s ≡ Some Outward)
none_is_other s e f = cc

module _ (n : ℕ) (links : List (ℕ × ℕ)) (c : List ℕ) (x w : ℕ) where
  -- a neighbour has one entry
  one_entry : (f g : First) → Contains (row n links x) (w, f) → Contains (row n links x) (w, g) → f ≡ g
  one_entry f g h k =
      let one : row_entry links x w ≡ Some (w, f) = (row_holds n links x (w, f) h).1 in
      let other : row_entry links x w ≡ Some (w, g) = (row_holds n links x (w, g) k).1 in
      let same : ◌≡◌ {A = ℕ × First} (w, f) (w, g) = cc in
      ap (λ (e : ℕ × First). e.1) same

  -- so the sense of its link says whether one points to it
  points_by_entry : IsNet n links → (f : First) → Contains (row n links x) (w, f)
      → PointsBy c x Outward (w, f) ↔ Points (links_at links c) x w
  points_by_entry net f h = (
    λ p. points_from_row n links c x w f Outward h p,
    λ p.
        let r = row_from_points n links c x net w Outward p in
        rw (one_entry f r.0 h r.1) r.2,
  )

  pub points_at : IsNet n links → (entries : List (ℕ × First)) → entries ≡ row n links x → (k : ℕ) (d : ℕ × First)
      → k < length entries → (get_or entries k d).0 ≡ w
      → (sense_of (get_or entries k d).1 (slice_index c x) (slice_index c w) ≡ Some Outward)
      ↔ Points (links_at links c) x w
  points_at net entries same k d inside at =
      let e : ℕ × First = get_or entries k d in
      let here : Contains (row n links x) e =
      subst (λ (r : List (ℕ × First)). Contains r e) same (Contains-get_or entries k d inside) in
      points_by_entry net e.1 (subst (λ (v : ℕ). Contains (row n links x) (v, e.1)) at here)

  -- no link points to a node with no entry
  pub no_entry : IsNet n links → All (λ (e : ℕ × First). ¬ (e.0 ≡ w)) (row n links x) → ¬ Points (links_at links c) x w
  no_entry net none p =
      let r = row_from_points n links c x net w Outward p in
      All-contains (λ (e : ℕ × First). ¬ (e.0 ≡ w)) (row n links x) (w, r.0) none r.1 refl
