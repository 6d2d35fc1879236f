-- What edits and a new destination touch: the links of every other node are unchanged, and so is its hop.
use Rattle.std.proofs.Common.{Contains, List, [], ap, append_assoc, arith, ◌≤◌, get_or, inl, inr, length, refl, subst}
use Rattle.std.proofs.Common.{sym, take}
use Rattle.std.proofs.Common.{ℕ, ⊎_elim, ◌+◌, ◌++◌, ◌<◌, ◌↔◌, ◌∙◌, ◌∷◌, ◌≡◌, ◌⊎◌}
use Rattle.std.specs.Prelude.{not}
use Rattle.std.specs.List.{All}
use Rattle.std.proofs.lemmas.Bool.{cases_Bool}
use Rattle.std.proofs.lemmas.List.{length_push, take_more}
use Rattle.std.proofs.lemmas.List.Sorted.{length_permutation}
use Rattle.std.proofs.lemmas.List.Sums.{count_by-le-length, length-filter}
use Rattle.std.proofs.lemmas.List.Elements.{All-cons, All-contains, All-nil, All-tail, Contains-append_left}
use Rattle.std.proofs.lemmas.List.Elements.{Contains-push, Contains-push_cases}
use Rattle.fr_graph.specs.Batches.{AreMade, IsMade}
use Rattle.fr_graph.specs.Edits.{without}
use Rattle.fr_graph.specs.Faults.{IsNetworkOf}
use Rattle.fr_graph.specs.Links.{HaveSameLinks, IsNet, Points, is_between}
use Rattle.fr_graph.specs.Network.{Network}
use Rattle.fr_graph.specs.Order.{AreInOrder}
use Rattle.fr_graph.specs.declared.edit.Edit.{Edit}
use Rattle.fr_graph.specs.declared.edit.Edit.TheVariants.{Add, Cut, Join}
use Rattle.fr_graph.proofs.Building.{permuted_net}
use Rattle.fr_graph.proofs.Editing.{from_filter}
use Rattle.fr_graph.proofs.Lists.{into_filter}
use Rattle.fr_graph.proofs.Linking.{joined_below, joined_from, link_below}
use Rattle.fr_graph.proofs.Members.{Contains-cases, Contains-head, Contains-none, Contains-tail}
use Rattle.fr_graph.proofs.Ordering.{in_order_order}
use Rattle.fr_core.proofs.SameLinks.{same_from_permutation}
use Rattle.fr_nearest.specs.LinkChanges.{Adds, AreEnds, Cuts, HasEndsBelow, IsAdded, IsCut}
use Rattle.fr_route.specs.Ends.{ends_of}

-- the same links join x with others in both lists, in the same direction
pub record HaveSameAt (some other : List (ℕ × ℕ)) (x : ℕ) : Type 0 where
  pub out : (w : ℕ) → Points some x w ↔ Points other x w
  pub into : (w : ℕ) → Points some w x ↔ Points other w x

-- An edit removes or adds a link only between its own ends

cut_pair : (links : List (ℕ × ℕ)) (u v x w : ℕ) → Points links x w → AreEnds u v x w ⊎ Points (without u v links) x w
cut_pair links u v x w h = elim (cases_Bool (is_between u v (x, w))) [
  | inl e ↦ inl (joined_from u v (x, w) e)
  | inr e ↦ inr (into_filter (λ l. not (is_between u v l)) links (x, w) h (ap not e))
]

add_pair : (links : List (ℕ × ℕ)) (u v x w : ℕ) → Points (links ++ (u, v) ∷ []) x w → AreEnds u v x w ⊎ Points links x w
add_pair links u v x w h = elim (Contains-push_cases links (u, v) (x, w) h) [
  | inl old ↦ inr old
  | inr e ↦ inl (inl (sym (ap (λ (p : ℕ × ℕ). p.0) e), sym (ap (λ (p : ℕ × ℕ). p.1) e)))
]

-- an edit is made
record IsAt (net : Network) (e : Edit) (after : Network) : Type 0 where
  kept : (x w : ℕ) → Points net.links x w → Cuts e x w ⊎ Points after.links x w
  new : (x w : ℕ) → Points after.links x w → Adds e x w ⊎ Points net.links x w
  is_net : IsNet after.nodes after.links
  order : AreInOrder after.links
  nodes : after.nodes ≡ net.nodes
  below : HasEndsBelow net.nodes e
  few : length after.links ≤ length net.links + 1

network_net : (n : ℕ) (listed : List (ℕ × ℕ)) (after : Network) → IsNetworkOf n listed after
    → IsNet after.nodes after.links
network_net n listed after made =
    let same : after.nodes ≡ n = ap (λ (m : Network). m.nodes) made.is in
    subst (λ (k : ℕ). IsNet k after.links) (sym same)
    (permuted_net n listed after.links made.same_links made.faultless.is_net)

network_order : (n : ℕ) (listed : List (ℕ × ℕ)) (after : Network) → IsNetworkOf n listed after → AreInOrder after.links
network_order n listed after made = subst (λ (m : Network). AreInOrder m.links) (sym made.is) (in_order_order listed)

cut_at : (net : Network) (u v : ℕ) (after : Network) → IsNet net.nodes net.links → IsMade net (Cut u v) after
    → IsAt net (Cut u v) after
cut_at net u v after is made =
    let rest = without u v net.links in
    let same : HaveSameLinks rest after.links = same_from_permutation rest after.links made.1.same_links in
    record {
      kept = λ x w h. ⊎_elim (λ ends. inl ends) (λ left. inr ((same x w).0 left)) (cut_pair net.links u v x w h);
      new = λ x w h. inr (from_filter (λ l. not (is_between u v l)) net.links (x, w) ((same x w).1 h));
      is_net = network_net net.nodes rest after made.1;
      order = network_order net.nodes rest after made.1;
      nodes = ap (λ (m : Network). m.nodes) made.1.is;
      below = joined_below net.nodes net.links u v is made.0;
      few = omega (
        arith,
        length_permutation rest after.links made.1.same_links,
        length-filter (λ l. not (is_between u v l)) net.links,
        count_by-le-length (λ l. not (is_between u v l)) net.links,
      );
    }

-- a link from u to v is added
record IsAddedAt (net : Network) (u v : ℕ) (after : Network) : Type 0 where
  kept : (x w : ℕ) → Points net.links x w → Points after.links x w
  new : (x w : ℕ) → Points after.links x w → AreEnds u v x w ⊎ Points net.links x w
  is_net : IsNet after.nodes after.links
  order : AreInOrder after.links
  nodes : after.nodes ≡ net.nodes
  below : (u < net.nodes) × (v < net.nodes)
  few : length after.links ≤ length net.links + 1

added_at : (net : Network) (u v : ℕ) (after : Network) → IsNetworkOf net.nodes (net.links ++ (u, v) ∷ []) after
    → IsAddedAt net u v after
added_at net u v after made =
    let more = net.links ++ (u, v) ∷ [] in
    let same : HaveSameLinks more after.links = same_from_permutation more after.links made.same_links in
    record {
      kept = λ x w h. (same x w).0 (Contains-append_left net.links ((u, v) ∷ []) (x, w) h);
      new = λ x w h. add_pair net.links u v x w ((same x w).1 h);
      is_net = network_net net.nodes more after made;
      order = network_order net.nodes more after made;
      nodes = ap (λ (m : Network). m.nodes) made.is;
      below = link_below net.nodes more u v made.faultless.is_net (Contains-push net.links (u, v));
      few = omega (arith, length_permutation more after.links made.same_links, length_push net.links (u, v));
    }

-- an edit that adds a link from u to v is made
by_added : (net : Network) (e : Edit) (u v : ℕ) (after : Network) → IsAddedAt net u v after
    → ((x w : ℕ) → AreEnds u v x w → Adds e x w) → HasEndsBelow net.nodes e → IsAt net e after
by_added net e u v after at adds below = record {
  kept = λ x w h. inr (at.kept x w h);
  new = λ x w h. ⊎_elim (λ ends. inl (adds x w ends)) (λ old. inr old) (at.new x w h);
  is_net = at.is_net;
  order = at.order;
  nodes = at.nodes;
  below = below;
  few = at.few;
}

add_at : (net : Network) (u v : ℕ) (after : Network) → IsMade net (Add u v) after → IsAt net (Add u v) after
add_at net u v after made =
    let at : IsAddedAt net u v after = added_at net u v after made in
    by_added net (Add u v) u v after at (λ x w ends. ends) at.below

join_at : (net : Network) (u v : ℕ) (after : Network) → IsMade net (Join u v) after → IsAt net (Join u v) after
join_at net u v after (inl made) =
    let at : IsAddedAt net u v after = added_at net u v after made in
    by_added net (Join u v) u v after at (λ x w ends. ends) at.below
join_at net u v after (inr made) =
    let at : IsAddedAt net v u after = added_at net v u after made.1 in
    by_added net (Join u v) v u after at (λ x w ends. ⊎_elim (λ e. inr e) (λ e. inl e) ends) (at.below.1, at.below.0)

edit_at : (net : Network) (e : Edit) (after : Network) → IsNet net.nodes net.links → IsMade net e after
    → IsAt net e after
edit_at net (Cut u v) after is made = cut_at net u v after is made
edit_at net (Add u v) after is made = add_at net u v after made
edit_at net (Join u v) after is made = join_at net u v after made

-- Edits are made: each link has been removed by one of them, or is there still, and each link now has been added by one
-- of them, or was there
pub record AreAt (net : Network) (edits : List Edit) (after : Network) : Type 0 where
  pub kept : (x w : ℕ) → Points net.links x w → IsCut edits x w ⊎ Points after.links x w
  pub new : (x w : ℕ) → Points after.links x w → IsAdded edits x w ⊎ Points net.links x w
  pub below : All (HasEndsBelow net.nodes) edits
  pub is_net : IsNet after.nodes after.links
  pub order : AreInOrder net.links → AreInOrder after.links
  pub few : length after.links ≤ length net.links + length edits

at_first : (net : Network) (e : Edit) (next : Network) (rest : List Edit) (after : Network) → IsAt net e next
    → AreAt next rest after → AreAt net (e ∷ rest) after
at_first net e next rest after first then = record {
  kept = λ x w h. elim (first.kept x w h) [
    | inl cut ↦ inl (e, Contains-head e rest, cut)
    | inr left ↦ elim (then.kept x w left) [
      | inl cut ↦ inl (cut.0, Contains-tail cut.0 e rest cut.1, cut.2)
      | inr stays ↦ inr stays
    ]
  ];
  new = λ x w h. elim (then.new x w h) [
    | inl add ↦ inl (add.0, Contains-tail add.0 e rest add.1, add.2)
    | inr was ↦ elim (first.new x w was) [
      | inl add ↦ inl (e, Contains-head e rest, add)
      | inr old ↦ inr old
    ]
  ];
  below = All-cons (HasEndsBelow net.nodes) e rest first.below
      (subst (λ (n : ℕ). All (HasEndsBelow n) rest) first.nodes then.below);
  is_net = then.is_net;
  order = λ sorted. then.order first.order;
  few = omega (arith, first.few, then.few);
}

pub edits_at : (net : Network) (edits : List Edit) (after : Network) → IsNet net.nodes net.links
    → AreMade net edits after → AreAt net edits after
edits_at net [] after is made = record {
  kept = λ x w h. inr (subst (λ (m : Network). Points m.links x w) (sym made) h);
  new = λ x w h. inr (subst (λ (m : Network). Points m.links x w) made h);
  below = All-nil (HasEndsBelow net.nodes);
  is_net = subst (λ (m : Network). IsNet m.nodes m.links) (sym made) is;
  order = λ sorted. subst (λ (m : Network). AreInOrder m.links) (sym made) sorted;
  few = omega (arith, ap (λ (m : Network). length m.links) made);
}
edits_at net (e ∷ es) after is (next, (made, rest)) =
    let first : IsAt net e next = edit_at net e next is made in
    at_first net e next es after first (edits_at next es after first.is_net rest)

-- At every node except the ends of the edited links, the links are unchanged

ends_later : (e : Edit) (rest : List Edit) (y : ℕ) → Contains (ends_of rest) y → Contains (ends_of (e ∷ rest)) y
ends_later (Cut u v) rest y h = Contains-tail y u (v ∷ ends_of rest) (Contains-tail y v (ends_of rest) h)
ends_later (Add u v) rest y h = Contains-tail y u (v ∷ ends_of rest) (Contains-tail y v (ends_of rest) h)
ends_later (Join u v) rest y h = Contains-tail y u (v ∷ ends_of rest) (Contains-tail y v (ends_of rest) h)

pair_ends : (u v x w : ℕ) (rest : List ℕ) → AreEnds u v x w → Contains (u ∷ (v ∷ rest)) x × Contains (u ∷ (v ∷ rest)) w
pair_ends u v x w rest (inl e) =
    rw (e.0, e.1) (Contains-head u (v ∷ rest), Contains-tail v u (v ∷ rest) (Contains-head v rest))
pair_ends u v x w rest (inr e) =
    rw (e.0, e.1) (Contains-tail v u (v ∷ rest) (Contains-head v rest), Contains-head u (v ∷ rest))

ends_first : (e : Edit) (rest : List Edit) (x w : ℕ) → Cuts e x w ⊎ Adds e x w
    → Contains (ends_of (e ∷ rest)) x × Contains (ends_of (e ∷ rest)) w
ends_first (Cut u v) rest x w is = pair_ends u v x w (ends_of rest) (⊎_elim (λ h. h) (λ h. absurd h) is)
ends_first (Add u v) rest x w is = pair_ends u v x w (ends_of rest) (⊎_elim (λ h. absurd h) (λ h. h) is)
ends_first (Join u v) rest x w is = pair_ends u v x w (ends_of rest) (⊎_elim (λ h. absurd h) (λ h. h) is)

edited_ends : (edits : List Edit) (x w : ℕ) (e : Edit) → Contains edits e → Cuts e x w ⊎ Adds e x w
    → Contains (ends_of edits) x × Contains (ends_of edits) w
edited_ends [] x w e h is = absurd (Contains-none e h)
edited_ends (d ∷ ds) x w e h is = elim (Contains-cases e d ds h) [
  | inl same ↦ ends_first d ds x w (subst (λ (it : Edit). Cuts it x w ⊎ Adds it x w) (sym same) is)
  | inr later ↦
      let rest = edited_ends ds x w e later is in
      (ends_later d ds x rest.0, ends_later d ds w rest.1)
]

pub edits_keep : (net : Network) (edits : List Edit) (after : Network) (x : ℕ) → AreAt net edits after
    → ¬ Contains (ends_of edits) x → HaveSameAt net.links after.links x
edits_keep net edits after x at none = record {
  out = λ w. (
    λ h. ⊎_elim (λ cut. absurd (none (edited_ends edits x w cut.0 cut.1 (inl cut.2)).0)) (λ stays. stays)
        (at.kept x w h),
    λ h. ⊎_elim (λ add. absurd (none (edited_ends edits x w add.0 add.1 (inr add.2)).0)) (λ was. was) (at.new x w h),
  );
  into = λ w. (
    λ h. ⊎_elim (λ cut. absurd (none (edited_ends edits w x cut.0 cut.1 (inl cut.2)).1)) (λ stays. stays)
        (at.kept w x h),
    λ h. ⊎_elim (λ add. absurd (none (edited_ends edits w x add.0 add.1 (inr add.2)).1)) (λ was. was) (at.new w x h),
  );
}

ends_below_first : (n : ℕ) (e : Edit) (es : List Edit) → HasEndsBelow n e → All (λ (x : ℕ). x < n) (ends_of es)
    → All (λ (x : ℕ). x < n) (ends_of (e ∷ es))
ends_below_first n (Cut u v) es low rest =
    All-cons (λ (x : ℕ). x < n) u (v ∷ ends_of es) low.0 (All-cons (λ (x : ℕ). x < n) v (ends_of es) low.1 rest)
ends_below_first n (Add u v) es low rest =
    All-cons (λ (x : ℕ). x < n) u (v ∷ ends_of es) low.0 (All-cons (λ (x : ℕ). x < n) v (ends_of es) low.1 rest)
ends_below_first n (Join u v) es low rest =
    All-cons (λ (x : ℕ). x < n) u (v ∷ ends_of es) low.0 (All-cons (λ (x : ℕ). x < n) v (ends_of es) low.1 rest)

pub ends_below : (n : ℕ) (edits : List Edit) → All (HasEndsBelow n) edits → All (λ (x : ℕ). x < n) (ends_of edits)
ends_below n [] below = All-nil (λ (x : ℕ). x < n)
ends_below n (e ∷ es) below =
    ends_below_first n e es (All-contains (HasEndsBelow n) (e ∷ es) e below (Contains-head e es))
    (ends_below n es (All-tail (HasEndsBelow n) e es below))

ends_push : (es : List Edit) (e : Edit) → ends_of (es ++ e ∷ []) ≡ ends_of es ++ ends_of (e ∷ [])
ends_push [] e = refl
ends_push (Cut u v ∷ es) e = ap (λ (xs : List ℕ). u ∷ (v ∷ xs)) (ends_push es e)
ends_push (Add u v ∷ es) e = ap (λ (xs : List ℕ). u ∷ (v ∷ xs)) (ends_push es e)
ends_push (Join u v ∷ es) e = ap (λ (xs : List ℕ). u ∷ (v ∷ xs)) (ends_push es e)

-- the ends of one more edit
pub ends_more : (es : List Edit) (k : ℕ) (e : Edit) (first nodes : List ℕ) (u v : ℕ) → k < length es
    → ends_of (get_or es k e ∷ []) ≡ u ∷ (v ∷ []) → nodes ≡ first ++ ends_of (take k es)
    → (nodes ++ u ∷ []) ++ v ∷ [] ≡ first ++ ends_of (take (k + 1) es)
ends_more es k e first nodes u v low is so_far =
    let before : List ℕ = ends_of (take k es) in
    let longer : ends_of (take (k + 1) es) ≡ (before ++ u ∷ []) ++ v ∷ [] =
    ap ends_of (take_more es k e low)
    ∙ (ends_push (take k es) (get_or es k e)
    ∙ (ap (λ (ends : List ℕ). before ++ ends) is ∙ sym (append_assoc before (u ∷ []) (v ∷ [])))) in
    ap (λ (ends : List ℕ). (ends ++ u ∷ []) ++ v ∷ []) so_far
    ∙ (ap (λ (ends : List ℕ). ends ++ v ∷ []) (append_assoc first before (u ∷ []))
    ∙ (append_assoc first (before ++ u ∷ []) (v ∷ []) ∙ ap (λ (ends : List ℕ). first ++ ends) (sym longer)))

-- each edit has two ends
pub ends_length : (es : List Edit) → length (ends_of es) ≡ length es + length es
ends_length [] = refl
ends_length (Cut u v ∷ es) = omega (arith, ends_length es)
ends_length (Add u v ∷ es) = omega (arith, ends_length es)
ends_length (Join u v ∷ es) = omega (arith, ends_length es)
