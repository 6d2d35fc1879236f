-- The rows of a network in a table, after a link is cut or added.
use Rattle.std.proofs.Common.{Contains, List, ap, arith, eq-eqb, false, get_or, inl, inr, length, map, ne_eqb, refl}
use Rattle.std.proofs.Common.{subst, sym, ℕ, ◌<◌, ◌∙◌, ◌≡◌, ◌≢◌}
use Rattle.std.specs.Prelude.{not}
use Rattle.std.specs.List.{insert, remove}
use Rattle.std.specs.List.Sorted.{IsStrictlyIncreasing}
use Rattle.std.proofs.lemmas.Bool.{cases_eq, cases_lt, cond-false, cond-true}
use Rattle.std.proofs.lemmas.List.{get_or_default}
use Rattle.fr_graph.proofs.AddedLinks.{added}
use Rattle.fr_graph.proofs.AddedRows.{put_in_row, row_added}
use Rattle.fr_graph.proofs.CutRows.{row_cut, row_stays, stays}
use Rattle.fr_graph.proofs.KeptRows.{length-rows, row_of_with_row_at, row_of_with_row_beside}
use Rattle.fr_graph.proofs.Linking.{is_between_itself, joined_below}
use Rattle.fr_graph.proofs.Neighbours.{neighbours_rise, row_of_in, row_of_out, row_rises}
use Rattle.fr_graph.proofs.PartTurned.{neighbour_listed}
use Rattle.fr_graph.proofs.Lists.{filter_one}
use Rattle.fr_graph.proofs.Places.{neighbour_at, without_back}
use Rattle.fr_graph.specs.Edits.{without}
use Rattle.fr_graph.specs.Halves.{AreUnjoined, IsPlaceIn}
use Rattle.fr_graph.specs.KeptRows.{AreRows, ShowsLink, ShowsNoLink}
use Rattle.fr_graph.specs.Links.{IsNet, Joins, is_between}
use Rattle.fr_graph.specs.Network.{Network}
use Rattle.fr_graph.specs.Rows.{row}
use Rattle.fr_graph.specs.Tables.{Table, row_of, with_row}
use Rattle.fr_graph.specs.declared.first.First.{First}
use Rattle.fr_graph.specs.declared.first.First.TheVariants.{Inward, Outward}

-- the row of an end of the link that is cut
not_other : (x w y : ℕ) → y ≢ w → x ≢ w → is_between x w (x, y) ≡ false
not_other x w y a b = rw (eq-eqb x x refl, ne_eqb y w a, ne_eqb x w b) refl

remove_entry : (n : ℕ) (links : List (ℕ × ℕ)) (x w j : ℕ) (f : First) → x ≢ w → j < length (row n links x)
    → get_or (row n links x) j (w, f) ≡ (w, f) → row n (without x w links) x ≡ remove (row n links x) j
remove_entry n links x w j f apart l is =
    let es = row n links x in
    let there : (d : ℕ × First) → (get_or es j d).0 ≡ w =
    λ d. ap (λ (e : ℕ × First). e.0) (get_or_default es j d (w, f) l ∙ is) in
    row_cut n links x w x
    ∙ filter_one (stays x w x) es j (w, f) l (ap (stays x w x) is ∙ ap not (is_between_itself (x, w)))
    (λ i e m ne. ap not (not_other x w (get_or es i e).0 (λ same. elim (cases_lt i j) [
      | inl lt ↦ omega (arith, same, there e, row_rises n links x i j e lt l)
      | inr ge ↦ omega (arith, same, there e, row_rises n links x j i e (omega (arith, ge, ne)) m)
    ]) apart))

pub cut_end : (n : ℕ) (links : List (ℕ × ℕ)) (x w j : ℕ) → IsNet n links → x ≢ w → Joins links x w
    → IsPlaceIn (row n links x) w j
    → (j < length (row n links x)) × (row n (without x w links) x ≡ remove (row n links x) j)
cut_end n links x w j net apart (inl p) place =
    let t =
    neighbour_at (row n links x) w j Outward (row_rises n links x) (row_of_out n links x w net p) place.before
    place.stops in
    (t.0, remove_entry n links x w j Outward apart t.0 t.1)
cut_end n links x w j net apart (inr p) place =
    let t =
    neighbour_at (row n links x) w j Inward (row_rises n links x) (row_of_in n links x w net p) place.before
    place.stops in
    (t.0, remove_entry n links x w j Inward apart t.0 t.1)

pub joins_back : (links : List (ℕ × ℕ)) (x w : ℕ) → Joins links x w → Joins links w x
joins_back links x w (inl p) = inr p
joins_back links x w (inr p) = inl p

pub joined_apart : (n : ℕ) (links : List (ℕ × ℕ)) (u v : ℕ) → IsNet n links → Joins links u v → u ≢ v
joined_apart n links u v net (inl (k, l, e)) = subst (λ (p : ℕ × ℕ). p.0 ≢ p.1) e (net.no_self k (u, v) l)
joined_apart n links u v net (inr (k, l, e)) =
    let t : v ≢ u = subst (λ (p : ℕ × ℕ). p.0 ≢ p.1) e (net.no_self k (v, u) l) in λ s. t (sym s)

-- the row of one end names the other end, and is unchanged while the other end's row is written
pub end_listed : (n : ℕ) (links : List (ℕ × ℕ)) (x w : ℕ) → IsNet n links → Joins links x w
    → Contains (map (λ (e : ℕ × First). e.0) (row n links x)) w
end_listed n links x w net (inl p) = neighbour_listed (row n links x) w Outward (row_of_out n links x w net p)
end_listed n links x w net (inr p) = neighbour_listed (row n links x) w Inward (row_of_in n links x w net p)

pub row_rising : (n : ℕ) (links : List (ℕ × ℕ)) (table : Table) (x : ℕ) → AreRows n links table → x < n
    → IsStrictlyIncreasing (map (λ (e : ℕ × First). e.0) (row_of table x))
row_rising n links table x rows less = rw (rows.shown x less) (neighbours_rise n links x)

pub row_beside : (n : ℕ) (links : List (ℕ × ℕ)) (table one : Table) (u v : ℕ) (entries : List (ℕ × First))
    → AreRows n links table → v < n → u ≢ v → one ≡ with_row table u entries → row_of one v ≡ row n links v
row_beside n links table one u v entries rows less apart once =
    ap (λ (t : Table). row_of t v) once ∙ row_of_with_row_beside table u v entries (λ e. apart (sym e))
    ∙ rows.shown v less

pub length_beside : (n : ℕ) (links : List (ℕ × ℕ)) (table one : Table) (u : ℕ) (entries : List (ℕ × First))
    → AreRows n links table → one ≡ with_row table u entries → length one.rows ≡ n
length_beside n links table one u entries rows once =
    ap (λ (t : Table). length t.rows) once ∙ length-rows table u entries ∙ rows.one_each

-- the row of each end, without the entry of the other end
pub rows_cut : (net : Network) (u v j k : ℕ) (table one two : Table) → ShowsLink net u v table
    → IsPlaceIn (row_of table u) v j → one ≡ with_row table u (remove (row_of table u) j)
    → IsPlaceIn (row_of one v) u k → two ≡ with_row one v (remove (row_of one v) k)
    → AreRows net.nodes (without u v net.links) two
rows_cut net u v j k table one two shown at_u once at_v twice =
    let n = net.nodes in
    let links = net.links in
    let below = joined_below n links u v shown.is_net shown.joins in
    let apart = joined_apart n links u v shown.is_net shown.joins in
    let row_u : row_of table u ≡ row n links u = shown.rows.shown u below.0 in
    let long_one = length_beside n links table one u (remove (row_of table u) j) shown.rows once in
    let kept_v = row_beside n links table one u v (remove (row_of table u) j) shown.rows below.1 apart once in
    let cut_u = (cut_end n links u v j shown.is_net apart shown.joins (rw row_u at at_u)).1 in
    let cut_v =
    (cut_end n links v u k shown.is_net (λ e. apart (sym e)) (joins_back links u v shown.joins) (rw kept_v at at_v)).1
    in
    record {
      one_each = ap (λ (t : Table). length t.rows) twice ∙ length-rows one v (remove (row_of one v) k) ∙ long_one;
      shown = λ z less. ap (λ (t : Table). row_of t z) twice ∙ elim (cases_eq z v) [
        | inl e ↦ rw e (
            row_of_with_row_at one v (remove (row_of one v) k) (omega (arith, long_one, below.1))
            ∙ ap (λ (es : List (ℕ × First)). remove es k) kept_v ∙ sym cut_v
            ∙ ap (λ (ls : List (ℕ × ℕ)). row n ls v) (without_back u v links)
            )
        | inr nv ↦ row_of_with_row_beside one v z (remove (row_of one v) k) nv ∙ ap (λ (t : Table). row_of t z) once
            ∙ elim (cases_eq z u) [
              | inl e ↦ rw e (
                  row_of_with_row_at table u (remove (row_of table u) j) (omega (arith, shown.rows.one_each, below.0))
                  ∙ ap (λ (es : List (ℕ × First)). remove es j) row_u ∙ sym cut_u
                  )
              | inr nu ↦ row_of_with_row_beside table u z (remove (row_of table u) j) nu ∙ shown.rows.shown z less
                  ∙ sym (row_cut n links u v z ∙ row_stays u v z (row n links z) nu nv)
            ]
      ];
    }

-- the row of an end of the link that is added
put_tail : (n : ℕ) (links : List (ℕ × ℕ)) (u v j : ℕ) → AreUnjoined n links u v → IsPlaceIn (row n links u) v j
    → row n (added links u v) u ≡ insert (row n links u) j (v, Outward)
put_tail n links u v j nodes place =
    row_added n links u v u nodes.tail nodes.head nodes.apart nodes.free ∙ cond-true _ _ _ (eq-eqb u u refl)
    ∙ put_in_row (v, Outward) (row n links u) j place.inside place.before (λ d l. place.stops j d (omega arith) l)

put_head : (n : ℕ) (links : List (ℕ × ℕ)) (u v j : ℕ) → AreUnjoined n links u v → IsPlaceIn (row n links v) u j
    → row n (added links u v) v ≡ insert (row n links v) j (u, Inward)
put_head n links u v j nodes place =
    row_added n links u v v nodes.tail nodes.head nodes.apart nodes.free
    ∙ cond-false _ _ _ (ne_eqb v u (λ e. nodes.apart (sym e))) ∙ cond-true _ _ _ (eq-eqb v v refl)
    ∙ put_in_row (u, Inward) (row n links v) j place.inside place.before (λ d l. place.stops j d (omega arith) l)

-- the row of each end, with an entry of the other end
pub rows_added : (net : Network) (u v j k : ℕ) (table one two : Table) → ShowsNoLink net u v table
    → IsPlaceIn (row_of table u) v j → one ≡ with_row table u (insert (row_of table u) j (v, Outward))
    → IsPlaceIn (row_of one v) u k → two ≡ with_row one v (insert (row_of one v) k (u, Inward))
    → AreRows net.nodes (added net.links u v) two
rows_added net u v j k table one two shown at_u once at_v twice =
    let n = net.nodes in
    let links = net.links in
    let nodes = shown.nodes in
    let row_u : row_of table u ≡ row n links u = shown.rows.shown u nodes.tail in
    let long_one = length_beside n links table one u (insert (row_of table u) j (v, Outward)) shown.rows once in
    let kept_v =
    row_beside n links table one u v (insert (row_of table u) j (v, Outward)) shown.rows nodes.head nodes.apart once in
    let place_u = rw row_u at at_u in
    let place_v = rw kept_v at at_v in
    record {
      one_each =
          ap (λ (t : Table). length t.rows) twice ∙ length-rows one v (insert (row_of one v) k (u, Inward)) ∙ long_one;
      shown = λ z less. ap (λ (t : Table). row_of t z) twice ∙ elim (cases_eq z v) [
        | inl e ↦ rw e (
            row_of_with_row_at one v (insert (row_of one v) k (u, Inward)) (omega (arith, long_one, nodes.head))
            ∙ ap (λ (es : List (ℕ × First)). insert es k (u, Inward)) kept_v
            ∙ sym (put_head n links u v k nodes place_v)
            )
        | inr nv ↦ row_of_with_row_beside one v z (insert (row_of one v) k (u, Inward)) nv
            ∙ ap (λ (t : Table). row_of t z) once ∙ elim (cases_eq z u) [
              | inl e ↦ rw e (
                  row_of_with_row_at table u (insert (row_of table u) j (v, Outward)) (omega (
                    arith,
                    shown.rows.one_each,
                    nodes.tail,
                  ))
                  ∙ ap (λ (es : List (ℕ × First)). insert es j (v, Outward)) row_u
                  ∙ sym (put_tail n links u v j nodes place_u)
                  )
              | inr nu ↦ row_of_with_row_beside table u z (insert (row_of table u) j (v, Outward)) nu
                  ∙ shown.rows.shown z less
                  ∙ sym (row_added n links u v z nodes.tail nodes.head nodes.apart nodes.free
                  ∙ cond-false _ _ _ (ne_eqb z u nu) ∙ cond-false _ _ _ (ne_eqb z v nv))
            ]
      ];
    }
