-- What edits did is undone: a removed link is added again at its place, and an added link is removed.
use Rattle.std.proofs.Common.{IsPermutation, List, [], ap, arith, get_or, length, refl, subst, sym, ℕ, ⊎_elim, ◌++◌}
use Rattle.std.proofs.Common.{◌+◌, ◌<◌, ◌∙◌, ◌∷◌, ◌≡◌, ◌≤◌}
use Rattle.std.proofs.lemmas.List.{append-nil, length_push}
use Rattle.std.proofs.lemmas.List.Elements.{All-contains, Contains-push}
use Rattle.std.proofs.lemmas.List.Sorted.{IsPermutation-middle, IsPermutation-refl, IsPermutation-remove}
use Rattle.std.proofs.lemmas.List.Sorted.{IsPermutation-sym, IsPermutation-trans}
use Rattle.std.proofs.lemmas.List.Sorted.{length_permutation}
use Rattle.fr_graph.proofs.AddedLinks.{added, added_in_order}
use Rattle.fr_graph.proofs.AddedRows.{ends_more}
use Rattle.fr_graph.proofs.Building.{acyclic_listed}
use Rattle.fr_graph.proofs.CutRows.{cut_in_order, no_link_between}
use Rattle.fr_graph.proofs.Joining.{cut_put}
use Rattle.fr_graph.proofs.Linking.{is_between_back, is_between_itself}
use Rattle.fr_graph.proofs.Ordering.{into_order, order_of_listed}
use Rattle.fr_graph.proofs.Places.{cut_is_remove}
use Rattle.fr_graph.proofs.Remaking.{in_order_row, with_links}
use Rattle.fr_graph.specs.Edits.{without}
use Rattle.fr_graph.specs.Faults.{IsNetworkOf}
use Rattle.fr_graph.specs.Graph.{AreDone, CanPut, HasRoomFor, IsDone, IsGraph, IsSame, shown}
use Rattle.fr_graph.specs.Halves.{AreUnjoined}
use Rattle.fr_graph.specs.Links.{AreSingle, Points}
use Rattle.fr_graph.specs.Network.{Network}
use Rattle.fr_graph.specs.Order.{in_order}
use Rattle.fr_graph.specs.Rows.{row}
use Rattle.fr_graph.specs.Tables.{HaveRoom, KeepsRooms, room_of, row_of}
use Rattle.fr_graph.specs.declared.graph.Effect.{Effect}
use Rattle.fr_graph.specs.declared.graph.Effect.TheVariants.{Added, Removed}
use Rattle.fr_graph.specs.declared.graph.Graph.{Graph}

-- a link is removed and added again
back_permutes : (links : List (ℕ × ℕ)) (tail head : ℕ) → AreSingle links → Points links tail head
    → IsPermutation (added (without tail head links) tail head) links
back_permutes links tail head single stands =
    let p : ℕ × ℕ = (tail, head) in
    let gone = without tail head links in
    IsPermutation-trans (added gone tail head) (p ∷ gone) links
    (subst (λ (ls : List (ℕ × ℕ)). IsPermutation (added gone tail head) (p
    ∷ ls)) (append-nil gone) (IsPermutation-middle gone p []))
    (IsPermutation-sym links (p ∷ gone)
    (subst (λ (ls : List (ℕ × ℕ)). IsPermutation links (p
    ∷ ls)) (sym (cut_is_remove links tail head stands.0 single stands.1 stands.2))
    (IsPermutation-remove links stands.0 p stands.1 (sym stands.2))))

pub cut_one : (links : List (ℕ × ℕ)) (tail head : ℕ) → AreSingle links → Points links tail head
    → length links ≡ length (without tail head links) + 1
cut_one links tail head single stands =
    length_permutation (added (without tail head links) tail head) links (back_permutes links tail head single stands)
    ∙ length_push (without tail head links) (tail, head)

taken_is : (net : Network) (tail head : ℕ) (after : Network) → IsDone net (Removed tail head) after
    → after ≡ with_links net.nodes (without tail head net.links)
taken_is net tail head after done =
    done.step.1.is ∙ ap (with_links net.nodes) (sym (cut_in_order net.links tail head done.sorted))

permuted : (net : Network) (tail head : ℕ) (after : Network) → IsDone net (Removed tail head) after
    → IsPermutation (added after.links tail head) net.links
permuted net tail head after done =
    subst (λ (m : Network). IsPermutation (added m.links tail head) net.links) (sym (taken_is net tail head after done))
    (back_permutes net.links tail head done.faultless.is_net.single done.step.0)

pub taken_one : (net : Network) (tail head : ℕ) (after : Network) → IsDone net (Removed tail head) after
    → length net.links ≡ length after.links + 1
taken_one net tail head after done =
    length_permutation (added after.links tail head) net.links (permuted net tail head after done)
    ∙ length_push after.links (tail, head)

taken_unjoined : (net : Network) (tail head : ℕ) (after : Network) → IsDone net (Removed tail head) after
    → AreUnjoined after.nodes after.links tail head
taken_unjoined net tail head after done =
    let p : ℕ × ℕ = (tail, head) in
    let links = net.links in
    let clear = done.faultless.is_net in
    let ends = All-contains (λ (l : ℕ × ℕ). (l.0 < net.nodes) × (l.1 < net.nodes)) links p clear.in_range done.step.0 in
    let here = is_between_itself p in
    let free : AreUnjoined net.nodes (without tail head links) tail head = record {
      tail = ends.0;
      head = ends.1;
      apart = All-contains (λ (l : ℕ × ℕ). ¬ (l.0 ≡ l.1)) links p clear.no_self done.step.0;
      free =
          λ h. ⊎_elim (no_link_between links tail head tail head here)
          (no_link_between links tail head head tail (is_between_back tail head)) h;
    } in
    subst (λ (m : Network). AreUnjoined m.nodes m.links tail head) (sym (taken_is net tail head after done)) free

pub taken_can_be_put : (net : Network) (tail head : ℕ) (after : Network) → IsDone net (Removed tail head) after
    → CanPut after tail head
taken_can_be_put net tail head after done = record {
  few = omega (arith, taken_one net tail head after done, done.faultless.limits.links_few);
  unjoined = taken_unjoined net tail head after done;
  acyclic =
      acyclic_listed (added after.links tail head) net.links (permuted net tail head after done)
      done.faultless.is_net.acyclic;
}

pub taken_back : (net : Network) (tail head : ℕ) (after back : Network) → IsDone net (Removed tail head) after
    → IsNetworkOf after.nodes (added after.links tail head) back → back ≡ net
taken_back net tail head after back done made =
    let nodes : after.nodes ≡ net.nodes = ap (λ (m : Network). m.nodes) (taken_is net tail head after done) in
    let links : net.links ≡ in_order (added after.links tail head) =
    order_of_listed (added after.links tail head) net.links
    (permuted net tail head after done) done.sorted in
    made.is ∙ ap (λ (n : ℕ). with_links n (in_order (added after.links tail head))) nodes
    ∙ ap (with_links net.nodes) (sym links)

-- a link is added and removed
pub put_stands : (net : Network) (tail head : ℕ) (after : Network) → IsDone net (Added tail head) after
    → Points after.links tail head
put_stands net tail head after done =
    subst (λ (m : Network). Points m.links tail head) (sym done.step.1.is)
    (into_order (added net.links tail head) (tail, head) (Contains-push net.links (tail, head)))

pub put_back : (net : Network) (tail head : ℕ) (after back : Network) → IsDone net (Added tail head) after
    → IsNetworkOf after.nodes (without tail head after.links) back → back ≡ net
put_back net tail head after back done made =
    let is : after ≡ with_links net.nodes (in_order (added net.links tail head)) = done.step.1.is in
    let gone : without tail head after.links ≡ net.links =
    ap (λ (m : Network). without tail head m.links) is
    ∙ ap (without tail head) (sym (added_in_order net.links tail head done.sorted))
    ∙ cut_put net.links tail head done.step.0.free in
    made.is
    ∙ ap (λ (m : Network). with_links m.nodes (in_order (without tail head after.links))) is
    ∙ ap (λ (ls : List (ℕ × ℕ)). with_links net.nodes (in_order ls)) gone
    ∙ ap (with_links net.nodes) (sym (order_of_listed net.links net.links (IsPermutation-refl net.links) done.sorted))

-- one more step, and the last one
pub more_done : (g : Graph) (net : Network) (done : List Effect) (mid : Network) (last : Effect) (after : Network)
    → AreDone g net done mid → HasRoomFor g mid → IsDone mid last after → AreDone g net (done ++ last ∷ []) after
more_done g net [] mid last after steps room h =
    subst (λ (m : Network). AreDone g m (last ∷ []) after) steps (room, (after, (h, refl)))
more_done g net (d ∷ ds) mid last after steps room h =
    (steps.0, (steps.1.0, (steps.1.1.0, more_done g steps.1.0 ds mid last after steps.1.1.1 room h)))

pub last_done : (g : Graph) (net : Network) (done : List Effect) (last : Effect) (after : Network)
    → AreDone g net (done ++ last ∷ []) after
    → (mid : Network) × (AreDone g net done mid × (HasRoomFor g mid × IsDone mid last after))
last_done g net [] last after steps =
    (net, (refl, (steps.0, subst (λ (m : Network). IsDone net last m) (sym steps.1.1.1) steps.1.1.0)))
last_done g net (d ∷ ds) last after steps =
    let rest = last_done g steps.1.0 ds last after steps.1.1.1 in
    (rest.0, ((steps.0, (steps.1.0, (steps.1.1.0, rest.1.0))), rest.1.1))

-- no step means no change
pub no_steps : (g : Graph) (net : Network) (done : List Effect) (after : Network) → length done ≡ 0
    → AreDone g net done after → after ≡ net
no_steps g net [] after none steps = steps
no_steps g net (d ∷ ds) after none steps = absurd (omega (arith, none))

-- what fits still fits if no row has less room
pub still_room : (before after : Graph) (net : Network) → KeepsRooms before.rows after.rows → HasRoomFor before net
    → HasRoomFor after net
still_room before after net kept room = λ x less. omega (arith, room x less, kept x)

pub still_done : (before after : Graph) (net : Network) (done : List Effect) (end : Network)
    → KeepsRooms before.rows after.rows → AreDone before net done end → AreDone after net done end
still_done before after net [] end kept steps = steps
still_done before after net (d ∷ ds) end kept steps = (
  still_room before after net kept steps.0,
  (steps.1.0, (steps.1.1.0, still_done before after steps.1.0 ds end kept steps.1.1.1)),
)

-- a graph has room for the network that it shows
pub own_room : (g : Graph) → IsGraph g → ((x : ℕ) → length (row_of g.rows x) ≤ room_of g.rows x)
    → HasRoomFor g (shown g)
own_room g graph room = λ x less. omega (arith, room x, ap length (graph.rows.shown x less))

-- a row before its link was removed
row_before : (net : Network) (tail head : ℕ) (after : Network) (x : ℕ) → IsDone net (Removed tail head) after
    → row net.nodes net.links x ≡ row after.nodes (added after.links tail head) x
row_before net tail head after x done =
    let more = added after.links tail head in
    let nodes : after.nodes ≡ net.nodes = ap (λ (m : Network). m.nodes) (taken_is net tail head after done) in
    ap (λ (ls : List (ℕ
    × ℕ)). row net.nodes ls x) (order_of_listed more net.links (permuted net tail head after done) done.sorted)
    ∙ sym (in_order_row net.nodes more x) ∙ ap (λ (n : ℕ). row n more x) (sym nodes)

-- if there is room for the network with a link, there is room to add the link again
pub taken_room : (net : Network) (tail head : ℕ) (g : Graph) → IsGraph g → IsDone net (Removed tail head) (shown g)
    → HasRoomFor g net → HaveRoom g.rows tail head
taken_room net tail head g graph done room =
    let after = shown g in
    let free = taken_unjoined net tail head after done in
    let nodes : after.nodes ≡ net.nodes = ap (λ (m : Network). m.nodes) (taken_is net tail head after done) in
    let more = ends_more after.nodes after.links tail head free in
    record {
      tail = omega (
        arith,
        more.0,
        ap length (row_before net tail head after tail done),
        room tail (omega (arith, nodes, free.tail)),
        ap length (graph.rows.shown tail free.tail),
      );
      head = omega (
        arith,
        more.1,
        ap length (row_before net tail head after head done),
        room head (omega (arith, nodes, free.head)),
        ap length (graph.rows.shown head free.head),
      );
    }

-- the same room is no less room
pub rooms_kept : (before after : Graph) → after.rows.rooms ≡ before.rows.rooms → KeepsRooms before.rows after.rows
rooms_kept before after is = λ x. let same = ap (λ (rooms : List ℕ). get_or rooms x 0) is in omega (arith, same)

-- a link was added, after room was made for it
pub record IsPut (before after : Graph) (tail head : ℕ) : Type 0 where
  pub by : IsDone (shown before) (Added tail head) (shown after)
  pub made : IsNetworkOf before.nodes (added (shown before).links tail head) (shown after)
  pub rooms : KeepsRooms before.rows after.rows
  pub back : HasRoomFor after (shown before)

pub put_with_room : (before mid after : Graph) (tail head : ℕ) → IsGraph before → IsSame before mid
    → ((x : ℕ) → length (row_of mid.rows x) ≤ room_of mid.rows x)
    → AreUnjoined before.nodes (shown before).links tail head
    → after.rows.rooms ≡ mid.rows.rooms → IsNetworkOf mid.nodes (added (shown mid).links tail head) (shown after)
    → IsPut before after tail head
put_with_room before mid after tail head graph same law free is made =
    let here : IsNetworkOf before.nodes (added (shown before).links tail head) (shown after) =
    subst (λ (m : Network). IsNetworkOf m.nodes (added m.links tail head) (shown after)) same.same made in
    let kept = rooms_kept mid after is in
    record {
      by = record { faultless = graph.faultless; sorted = graph.sorted; step = (free, here) };
      made = here;
      rooms = λ x. omega (arith, same.rooms x, kept x);
      back =
          subst (λ (m : Network). HasRoomFor after m) same.same
          (still_room mid after (shown mid) kept (own_room mid same.graph law));
    }
