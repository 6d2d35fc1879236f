-- Where the links of a node point now, by its row.
use Rattle.std.proofs.Common.{All, Bool, Contains, List, None, Option, Some, ap, arith, cond, eq-eqb, eqb, false}
use Rattle.std.proofs.Common.{get_or, inl, inr, length, ne_eqb}
use Rattle.std.proofs.Common.{refl, slice_index, subst, sym, true, ℕ, ⊎_elim, ◌+◌, ◌<◌, ◌∙◌, ◌≡◌, ◌⊎◌}
use Rattle.std.proofs.lemmas.Bool.{cond-false, cond-true, false≢true}
use Rattle.std.proofs.lemmas.List.Elements.{All-contains, Contains-get_or}
use Rattle.std.specs.Option.{is_some, option_map}
use Rattle.fr_core.proofs.RowLinks.{link_of_row}
use Rattle.fr_core.specs.Senses.{first_link, link_by, sense_of}
use Rattle.fr_core.specs.declared.directions.Sense.{Sense}
use Rattle.fr_core.specs.declared.directions.Sense.TheVariants as sense
use Rattle.fr_graph.proofs.Giving.{Points-links_at_from, filter_map-Contains, link_at-kept}
use Rattle.fr_graph.proofs.Neighbours.{out_of_row, row_of_in, row_of_out}
use Rattle.fr_graph.specs.Counts.{IsKept, link_at, links_at}
use Rattle.fr_graph.specs.Links.{IsNet, Points}
use Rattle.fr_graph.specs.Rows.{row}
use Rattle.fr_graph.specs.Turn.{IsSink}
use Rattle.fr_graph.specs.declared.first.First.{First}
use Rattle.fr_graph.specs.declared.first.First.TheVariants as first

-- the link that the counts give, and the sense of the link
pub link_at-first_link : (c : List ℕ) (x w : ℕ) (f : First)
    → link_at c (first_link x w f) ≡ option_map (link_by x w) (sense_of f (slice_index c x) (slice_index c w))
link_at-first_link c x w first.Outward =
    go (eqb (slice_index c w) (slice_index c x)) (eqb (slice_index c w) (slice_index c x + 1))
  where
    go : (same more : Bool) → cond same (Some (x, w)) (cond more (Some (w, x)) None) ≡ option_map (link_by x w)
        (cond same (Some sense.Outward) (cond more (Some sense.Inward) None))
    go true more = refl
    go false true = refl
    go false false = refl
link_at-first_link c x w first.Inward =
    go (eqb (slice_index c x) (slice_index c w)) (eqb (slice_index c x) (slice_index c w + 1))
  where
    go : (same more : Bool) → cond same (Some (w, x)) (cond more (Some (x, w)) None) ≡ option_map (link_by x w)
        (cond same (Some sense.Inward) (cond more (Some sense.Outward) None))
    go true more = refl
    go false true = refl
    go false false = refl

-- the sense of a first link, by its counts
sense_of-out_same : (cx cw : ℕ) → cw ≡ cx → sense_of first.Outward cx cw ≡ Some sense.Outward
sense_of-out_same cx cw e = cond-true _ _ _ (eq-eqb cw cx e)

sense_of-out_more : (cx cw : ℕ) → cw ≡ cx + 1 → sense_of first.Outward cx cw ≡ Some sense.Inward
sense_of-out_more cx cw e =
    cond-false _ _ _ (ne_eqb cw cx (λ same. omega arith)) ∙ cond-true _ _ _ (eq-eqb cw (cx + 1) e)

sense_of-in_same : (cx cw : ℕ) → cx ≡ cw → sense_of first.Inward cx cw ≡ Some sense.Inward
sense_of-in_same cx cw e = cond-true _ _ _ (eq-eqb cx cw e)

sense_of-in_more : (cx cw : ℕ) → cx ≡ cw + 1 → sense_of first.Inward cx cw ≡ Some sense.Outward
sense_of-in_more cx cw e =
    cond-false _ _ _ (ne_eqb cx cw (λ same. omega arith)) ∙ cond-true _ _ _ (eq-eqb cx (cw + 1) e)

-- where the entry's link points now, seen from x
abbrev pub PointsBy : List ℕ → ℕ → Sense → ℕ × First → Type 0
PointsBy c x s e = sense_of e.1 (slice_index c x) (slice_index c e.0) ≡ Some s

-- a kept link has a sense
pub has_sense : (c : List ℕ) (x w : ℕ) (f : First) → IsKept c (first_link x w f)
    → PointsBy c x sense.Inward (w, f) ⊎ PointsBy c x sense.Outward (w, f)
has_sense c x w first.Outward (inl e) = inr (sense_of-out_same (slice_index c x) (slice_index c w) e)
has_sense c x w first.Outward (inr e) = inl (sense_of-out_more (slice_index c x) (slice_index c w) e)
has_sense c x w first.Inward (inl e) = inl (sense_of-in_same (slice_index c x) (slice_index c w) e)
has_sense c x w first.Inward (inr e) = inr (sense_of-in_more (slice_index c x) (slice_index c w) e)

-- and a first link with a sense is kept
pub kept_from_sense : (c : List ℕ) (x w : ℕ)
    → is_some (sense_of first.Outward (slice_index c x) (slice_index c w)) ≡ true → IsKept c (x, w)
kept_from_sense c x w some =
    go (sense_of first.Outward (slice_index c x) (slice_index c w)) (link_at-first_link c x w first.Outward) some
  where
    go : (o : Option Sense) → link_at c (x, w) ≡ option_map (link_by x w) o → is_some o ≡ true → IsKept c (x, w)
    go None e known = absurd (false≢true known)
    go (Some s) e known = link_at-kept c (x, w) (link_by x w s) e

pub sense_from_kept : (c : List ℕ) (x w : ℕ) → IsKept c (x, w)
    → is_some (sense_of first.Outward (slice_index c x) (slice_index c w)) ≡ true
sense_from_kept c x w kept = ⊎_elim (λ e. rw e refl) (λ e. rw e refl) (has_sense c x w first.Outward kept)

-- the counts give the entry's link a direction, if it points away from x at first
abbrev pub IsKeptOut : List ℕ → ℕ → ℕ × First → Type 0
IsKeptOut c x e = e.1 ≡ first.Outward → IsKept c (x, e.0)

module _ (n : ℕ) (links : List (ℕ × ℕ)) (c : List ℕ) (x : ℕ) where
  -- the row has each link whose tail is x
  pub kept_by_row : IsNet n links → All (IsKeptOut c x) (row n links x) → (w : ℕ) → Points links x w → IsKept c (x, w)
  kept_by_row net all w p =
      All-contains (IsKeptOut c x) (row n links x) (w, first.Outward) all (row_of_out n links x w net p) refl

  pub row_kept : ((w : ℕ) → Points links x w → IsKept c (x, w)) → All (IsKeptOut c x) (row n links x)
  row_kept kept = λ k d l out.
      let e : ℕ × First = get_or (row n links x) k d in
      kept e.0 (out_of_row n links x e.0
      (subst (λ (f : First). Contains (row n links x) (e.0, f)) out (Contains-get_or (row n links x) k d l)))

  -- a link that the counts give is an entry of the row with this sense
  pub points_from_row : (w : ℕ) (f : First) (s : Sense) → Contains (row n links x) (w, f) → PointsBy c x s (w, f)
      → Contains (links_at links c) (link_by x w s)
  points_from_row w f s h e =
      filter_map-Contains (link_at c) links (first_link x w f) (link_by x w s) (link_of_row n links x w f h)
      (link_at-first_link c x w f ∙ ap (option_map (link_by x w)) e)

  pub row_from_points : IsNet n links → (w : ℕ) (s : Sense) → Contains (links_at links c) (link_by x w s) → (f : First)
      × Contains (row n links x) (w, f) × PointsBy c x s (w, f)
  row_from_points net w sense.Outward h = ⊎_elim
      (λ p. (first.Outward, row_of_out n links x w net p.0, sense_of-out_same (slice_index c x) (slice_index c w) p.1))
      (λ p. (first.Inward, row_of_in n links x w net p.0, sense_of-in_more (slice_index c x) (slice_index c w) p.1))
      (Points-links_at_from links c x w h)
  row_from_points net w sense.Inward h = ⊎_elim
      (λ p. (first.Inward, row_of_in n links x w net p.0, sense_of-in_same (slice_index c x) (slice_index c w) p.1))
      (λ p. (first.Outward, row_of_out n links x w net p.0, sense_of-out_more (slice_index c x) (slice_index c w) p.1))
      (Points-links_at_from links c w x h)

  inward_entry : All (IsKept c) links → IsSink (links_at links c) x → (w : ℕ) (f : First)
      → Contains (row n links x) (w, f) → PointsBy c x sense.Inward (w, f)
  inward_entry kept sink w f h = ⊎_elim (λ e. e)
      (λ e. absurd (sink.1 w (points_from_row w f sense.Outward h e)))
      (has_sense c x w f (All-contains (IsKept c) links (first_link x w f) kept (link_of_row n links x w f h)))

  -- each link of a sink points to it, and it has one
  pub row_points_in : All (IsKept c) links → IsSink (links_at links c) x
      → All (PointsBy c x sense.Inward) (row n links x)
  row_points_in kept sink =
      λ k d l. inward_entry kept sink (get_or (row n links x) k d).0 (get_or (row n links x) k d).1
      (Contains-get_or (row n links x) k d l)

  pub row_of_sink : IsNet n links → IsSink (links_at links c) x → 0 < length (row n links x)
  row_of_sink net sink = let r = row_from_points net sink.0.0 sense.Inward sink.0.1 in omega (arith, r.1.1)

  pub sink_from_row : IsNet n links → 0 < length (row n links x) → All (PointsBy c x sense.Inward) (row n links x)
      → IsSink (links_at links c) x
  sink_from_row net some all = (
    (
      e.0,
      points_from_row e.0 e.1 sense.Inward (Contains-get_or (row n links x) 0 (0, first.Inward) some) (all 0 (
        0,
        first.Inward,
      ) some),
    ),
    λ w p.
        let r = row_from_points net w sense.Outward p in
        let both : ◌≡◌ (Some sense.Outward) (Some sense.Inward) =
        sym r.2 ∙ All-contains (PointsBy c x sense.Inward) (row n links x) (w, r.0) all r.1 in
        cc,
  )
    where
      e : ℕ × First
      e = get_or (row n links x) 0 (0, first.Inward)
