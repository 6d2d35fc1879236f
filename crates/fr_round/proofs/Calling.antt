-- What the steps of a call come to.
use Rattle.std.proofs.Common.{◌≡◌, ◌≢◌, ◌⊎◌, ℕ, ◌+◌, ◌<◌, ◌≤◌, List, false, get_or-set_other, length, sym, ap, ◌∙◌}
use Rattle.std.proofs.Common.{subst, ⊎_elim, arith}
use Rattle.std.proofs.Common.{get_or-set_same, ltb-false, ltb-true, true, Bool}
use Rattle.std.specs.Prelude.{MatchBool, nat_lt, not, slice_index, slice_set}
use Rattle.std.specs.List.{All}
use Rattle.std.proofs.lemmas.List.Elements.{All-contains, All-from_get_or}
use Rattle.fr_graph.specs.Links.{IsNet}
use Rattle.fr_graph.specs.Rows.{row}
use Rattle.fr_graph.specs.declared.first.First.{First}
use Rattle.fr_graph.specs.declared.first.First.TheVariants.{Outward, Inward}
use Rattle.fr_graph.proofs.Neighbours.{row_of_in, row_of_out}
use Rattle.fr_core.specs.Machine.{bound_of, neighbour_at}
use Rattle.fr_core.specs.declared.entry.Reply.TheVariants.{Held}
use Rattle.fr_round.specs.declared.view.Setup.{Setup}
use Rattle.fr_round.specs.declared.view.View.{View}
use Rattle.fr_round.specs.declared.seen_counts.Seen.{Seen}
use Rattle.fr_round.specs.Missing.{IsCounted, misses}
use Rattle.fr_round.specs.Steps.{EndsCall, noted}
use Rattle.fr_round.specs.Calls.{AreEnough, IsUnderWay, AllMeet}
use Rattle.fr_round.proofs.Entries.{set_up}
use Rattle.fr_round.proofs.MissingNumbers.{none_misses}

enough_next : (neighbours : List (ℕ × First)) (j c : ℕ) (seen seen' : List ℕ)
    → ((z : ℕ) → slice_index seen z ≤ slice_index seen' z) → AreEnough neighbours j seen c
    → bound_of (neighbour_at neighbours j).1 c ≤ slice_index seen' (neighbour_at neighbours j).0
    → AreEnough neighbours (j + 1) seen' c
enough_next neighbours j c seen seen' up before here i below =
    ⊎_elim
    (λ (e : i ≡ j). subst (λ (k : ℕ). bound_of (neighbour_at neighbours k).1 c
    ≤ slice_index seen' (neighbour_at neighbours k).0) (sym e) here)
    (λ (lt : i < j). let p = before i lt in let q = up (neighbour_at neighbours i).0 in omega arith)
    (split i j below)
  where
    split : (k i : ℕ) → k < i + 1 → (k ≡ i) ⊎ (k < i)
    split k i h = grind arith

-- a neighbour that meets its bound
pub looks_on : (b : Setup) (v w w' : View) (x c i y : ℕ) → IsUnderWay b v x c i w
    → w' ≡ noted w y (slice_index w'.seen y)
    → slice_index w.seen y ≤ slice_index w'.seen y → y ≢ x
    → bound_of (neighbour_at (row b.nodes b.links x) i).1 c
    ≤ slice_index w'.seen (neighbour_at (row b.nodes b.links x) i).0
    → IsUnderWay b v x c (i + 1) w'
looks_on b v w w' x c i y g is le other here =
    let l = g.looking in
    let f : ℕ = slice_index w'.seen y in
    let set_is : w'.seen ≡ slice_set w.seen y f = ap (λ (u : View). u.seen) is in
    let risen : (z : ℕ) → slice_index w.seen z ≤ slice_index w'.seen z =
    λ z. let p : slice_index w'.seen z ≡ slice_index (slice_set w.seen y f) z =
    ap (λ l. slice_index l z) set_is in omega (arith, set_up w.seen y f le z, p) in
    record {
      looking = record {
        same =
            is ∙ (ap (λ (u : View). record u { seen = slice_set w.seen y f }) l.same ∙ (λ i. record v {
              seen = sym set_is i;
              node = x;
              count = c;
            }));
        up = λ z. omega (arith, l.up z, risen z);
        own = ap (λ l. slice_index l x) set_is ∙ (get_or-set_other w.seen y x f 0 (λ e. other (sym e)) ∙ l.own);
      };
      enough = enough_next (row b.nodes b.links x) i c w.seen w'.seen risen g.enough here;
    }

-- every neighbour meets its bound where each entry of the row does,
meet_by_row : (n : ℕ) (links : List (ℕ × ℕ)) (x c : ℕ) (seen : List ℕ) → IsNet n links
    → All (λ (e : ℕ × First). bound_of e.1 c ≤ slice_index seen e.0) (row n links x) → AllMeet links seen x c
meet_by_row n links x c seen net each =
    let IsEnough : ℕ × First → Type 0 = λ e. bound_of e.1 c ≤ slice_index seen e.0 in
    record {
      along = λ w there. All-contains IsEnough (row n links x) (w, Outward) each (row_of_out n links x w net there);
      against = λ w there. All-contains IsEnough (row n links x) (w, Inward) each (row_of_in n links x w net there);
    }

-- as it does once the whole row was looked at,
pub all_meet_bounds : (b : Setup) (x c j : ℕ) (seen : List ℕ) → IsNet b.nodes b.links
    → length (row b.nodes b.links x) ≤ j
    → AreEnough (row b.nodes b.links x) j seen c → AllMeet b.links seen x c
all_meet_bounds b x c j seen net all enough =
    meet_by_row b.nodes b.links x c seen net
    (All-from_get_or (λ (e : ℕ × First). bound_of e.1 c
    ≤ slice_index seen e.0) (row b.nodes b.links x) (0, Outward) (λ k lt. enough k (omega arith)))

-- and where the number of the node is 0
pub all_were_seen : (n : ℕ) (links : List (ℕ × ℕ)) (seen : Seen) (x : ℕ) → IsNet n links → IsCounted n links seen
    → x < n
    → slice_index seen.missing.items x ≡ 0 → AllMeet links seen.counts.items x (slice_index seen.counts.items x)
all_were_seen n links seen x net counted inside zero =
    let counts = seen.counts.items in
    let own : ℕ = slice_index counts x in
    meet_by_row n links x own counts net
    (All-from_get_or (λ (e : ℕ × First). bound_of e.1 own ≤ slice_index counts e.0) (row n links x) (0, Outward)
    (λ k lt. ltb-false _ _
    (none_misses (misses counts own) (row n links x) k (0, Outward) (sym (counted.right x inside) ∙ zero) lt)))

-- a neighbour whose count was loaded
pub met_or_held : (v w : View) (x : ℕ) (e : ℕ × First) (c found : ℕ) (missed : Bool)
    → missed ≡ nat_lt found (bound_of e.1 c) → e.0 < length v.seen
    → (bound_of e.1 c ≤ found → w ≡ noted v e.0 found) → (found < bound_of e.1 c → EndsCall v x (Held e.0) e.0 found w)
    → MatchBool (not missed) ((bound_of e.1 c ≤ slice_index w.seen e.0) × (w ≡ noted v e.0 (slice_index w.seen e.0)))
    (EndsCall v x (Held e.0) e.0 (slice_index w.seen e.0) w)
met_or_held v w x e c found false is inside met held =
    let enough : bound_of e.1 c ≤ found = ltb-false _ _ (sym is) in
    let noted_is : w ≡ noted v e.0 found = met enough in
    let same : slice_index w.seen e.0 ≡ found =
    ap (λ (u : View). slice_index u.seen e.0) noted_is ∙ get_or-set_same v.seen e.0 found 0 inside in
    (omega (arith, enough, same), noted_is ∙ ap (noted v e.0) (sym same))
met_or_held v w x e c found true is inside met held =
    let d : EndsCall v x (Held e.0) e.0 found w = held (ltb-true _ _ (sym is)) in
    let same : slice_index w.seen e.0 ≡ found =
    ap (λ (u : View). slice_index u.seen e.0) d.same ∙ get_or-set_same v.seen e.0 found 0 inside in
    subst (λ (k : ℕ). EndsCall v x (Held e.0) e.0 k w) (sym same) d
