-- The links and rows of a network after one link is cut.
use Rattle.std.proofs.Common.{Bool, Contains, List, [], arith, cond, false, get_or, ne_eqb, option_to_list, refl, suc}
use Rattle.std.proofs.Common.{true, zero, ℕ, ◌+◌, ◌∙◌, ◌∷◌, ◌≡◌, ◌≢◌}
use Rattle.std.specs.Prelude.{not}
use Rattle.std.specs.List.{filter}
use Rattle.std.proofs.lemmas.List.Elements.{filter-append}
use Rattle.std.proofs.lemmas.List.Sorted.{IsPermutation-refl}
use Rattle.fr_graph.proofs.Editing.{from_filter}
use Rattle.fr_graph.proofs.Linking.{is_between_turned}
use Rattle.fr_graph.proofs.Neighbours.{row_entry_node}
use Rattle.fr_graph.proofs.Ordering.{least_first, order_of_listed, order_tail}
use Rattle.fr_graph.proofs.Remaking.{row_entry_same}
use Rattle.fr_graph.proofs.Sorting.{IsSorted, sorted_at}
use Rattle.fr_graph.proofs.TurnedRows.{row_entry_none}
use Rattle.fr_graph.specs.Edits.{without}
use Rattle.fr_graph.specs.Links.{Points, is_between}
use Rattle.fr_graph.specs.Order.{AreInOrder, IsNotAfter, in_order}
use Rattle.fr_graph.specs.Rows.{row, row_entry}
use Rattle.fr_graph.specs.declared.first.First.{First}
use Rattle.fr_graph.proofs.Lists.{into_filter, filter_passes, filter-option, filter_kept}

-- whether an entry of x is kept if the link between u and v is cut
abbrev pub stays : ℕ → ℕ → ℕ → ℕ × First → Bool
stays u v x entry = not (is_between u v (x, entry.0))

-- links in order are sorted, and so is a part of them
pub sorted_from_order : (links : List (ℕ × ℕ)) → AreInOrder links → IsSorted IsNotAfter links
sorted_from_order [] order = tt
sorted_from_order (l ∷ ls) order = (λ x h. least_first l ls x order h, sorted_from_order ls (order_tail l ls order))

pub order_from_sorted : (links : List (ℕ × ℕ)) → IsSorted IsNotAfter links → AreInOrder links
order_from_sorted links s k d l = sorted_at IsNotAfter links s k (k + 1) d (omega arith) l

sorted_filter_by : (b : Bool) (p : ℕ × ℕ → Bool) (l : ℕ × ℕ) (ls : List (ℕ × ℕ))
    → ((x : ℕ × ℕ) → Contains ls x → IsNotAfter l x) → IsSorted IsNotAfter (filter p ls)
    → IsSorted IsNotAfter (cond b (l ∷ filter p ls) (filter p ls))
sorted_filter_by true p l ls first rest = (λ x h. first x (from_filter p ls x h), rest)
sorted_filter_by false p l ls first rest = rest

sorted-filter : (p : ℕ × ℕ → Bool) (links : List (ℕ × ℕ)) → IsSorted IsNotAfter links
    → IsSorted IsNotAfter (filter p links)
sorted-filter p [] s = tt
sorted-filter p (l ∷ ls) s = sorted_filter_by (p l) p l ls s.0 (sorted-filter p ls s.1)

pub cut_in_order : (links : List (ℕ × ℕ)) (u v : ℕ) → AreInOrder links
    → without u v links ≡ in_order (without u v links)
cut_in_order links u v order =
    order_of_listed (without u v links) (without u v links) (IsPermutation-refl (without u v links))
    (order_from_sorted (without u v links) (sorted-filter (λ (l : ℕ
    × ℕ). not (is_between u v l)) links (sorted_from_order links order)))

pub no_link_between : (links : List (ℕ × ℕ)) (u v a b : ℕ) → is_between u v (a, b) ≡ true
    → ¬ Points (without u v links) a b
no_link_between links u v a b e h =
    let kept = filter_passes (λ (l : ℕ × ℕ). not (is_between u v l)) links (a, b) h in cc (e, kept)

still_linked : (links : List (ℕ × ℕ)) (u v a b : ℕ) → is_between u v (a, b) ≡ false → Points links a b
    → Points (without u v links) a b
still_linked links u v a b e h = into_filter (λ (l : ℕ × ℕ). not (is_between u v l)) links (a, b) h (rw e refl)

entry_cut_by : (c : Bool) (links : List (ℕ × ℕ)) (u v x w : ℕ) → is_between u v (x, w) ≡ c
    → option_to_list (row_entry (without u v links) x w) ≡ filter (stays u v x) (option_to_list (row_entry links x w))
entry_cut_by true links u v x w e =
    rw (
      row_entry_none (without u v links) x w (no_link_between links u v x w e)
          (no_link_between links u v w x (is_between_turned u v w x ∙ e)),
      filter-option false (stays u v x) (row_entry links x w)
          (λ entry is. let node = row_entry_node links x w entry is in rw (node, e) refl),
    ) refl
entry_cut_by false links u v x w e =
    rw (
      row_entry_same (without u v links) links x w (from_filter (λ (l : ℕ
          × ℕ). not (is_between u v l)) links (x, w)) (still_linked links u v x w e)
          (from_filter (λ (l : ℕ
          × ℕ). not (is_between u v l)) links (w, x)) (still_linked links u v w x (is_between_turned u v w x ∙ e)),
      filter-option true (stays u v x) (row_entry links x w)
          (λ entry is. let node = row_entry_node links x w entry is in rw (node, e) refl),
    ) refl

-- the row of a node after the link between u and v is cut
pub row_cut : (n : ℕ) (links : List (ℕ × ℕ)) (u v x : ℕ)
    → row n (without u v links) x ≡ filter (stays u v x) (row n links x)
row_cut zero links u v x = refl
row_cut (suc w) links u v x =
    rw (
      row_cut w links u v x,
      entry_cut_by (is_between u v (x, w)) links u v x w refl,
      filter-append (stays u v x) (row w links x) (option_to_list (row_entry links x w)),
    ) refl

-- the row of a node that is not an end of the link is unchanged
not_between : (u v x w : ℕ) → x ≢ u → x ≢ v → is_between u v (x, w) ≡ false
not_between u v x w a b = rw (ne_eqb x u a, ne_eqb x v b) refl

pub row_stays : (u v x : ℕ) (entries : List (ℕ × First)) → x ≢ u → x ≢ v → filter (stays u v x) entries ≡ entries
row_stays u v x entries a b =
    filter_kept (stays u v x) entries (λ i d l. rw (not_between u v x (get_or entries i d).0 a b) refl)
