-- How the ways that a change alters are noted, node by node.
use Rattle.std.proofs.Common.{[], Contains, List, arith, inl, inr, length, slice_index, subst, suc, take, zero, ℕ}
use Rattle.std.proofs.Common.{⊎_elim, ◌+◌, ◌++◌, ◌<◌, ◌∙◌, ◌∷◌, ◌≡◌, ◌≤◌, ◌⊎◌}
use Rattle.std.specs.List.Sorted.{IsStrictlyIncreasing}
use Rattle.std.proofs.lemmas.List.Elements.{All-contains, Contains-get_or}
use Rattle.std.proofs.lemmas.Bool.{cases_eq, cases_lt}
use Rattle.std.proofs.lemmas.List.{get_or-take, get_or_append_left, get_or_default, get_or_push, length-take-le}
use Rattle.std.proofs.lemmas.List.{length_push}
use Rattle.fr_graph.specs.Links.{HasPath, IsNet, IsPath, end_of}
use Rattle.fr_graph.specs.declared.edit.Edit.{Edit}
use Rattle.fr_graph.proofs.Linking.{link_below}
use Rattle.fr_nearest.specs.Affected.{AreAffected, KeepsWays}
use Rattle.fr_nearest.specs.LinkChanges.{HadLinks, HasTurned}
use Rattle.fr_nearest.specs.declared.update.LinkChanges.{LinkChanges}
use Rattle.fr_graph.specs.Turns.{AreTurned}
use Rattle.fr_nearest.specs.Distances.{AreDistances, Measured, no_distance}
use Rattle.fr_nearest.specs.Ways.{AreWays}
use Rattle.fr_nearest.proofs.Walking.{has_path, one_list}
use Rattle.fr_nearest.proofs.Counting.{ways_within}
use Rattle.fr_ways.specs.Changes.{HasNoPushes, HasRoomFor, IsNotedTo, MayNote, Noted}
use Rattle.fr_ways.specs.Ways.{ways}
use Rattle.fr_ways.proofs.Changing.{noted_on}
use Rattle.fr_route.specs.NodeWays.{AreAllWays, HasTurnedEnd}
use Rattle.fr_route.specs.States.{State, net_at}
use Rattle.fr_route.specs.WayNotes.{AreWaysOf, HasSameMemory, IsNext, LeadsOn}
use Rattle.fr_route.specs.declared.way_notes.WayNotes.{WayNotes}
use Rattle.fr_route.proofs.NodeWays.{ways_below_exist}
use Rattle.fr_route.proofs.WayPushes.{ways_in_range}

-- From which nodes a path leads to the destination is told by the distances. So each node has a list of ways.

module _ (n : ℕ) (links : List (ℕ × ℕ)) (d : ℕ) (net : IsNet n links) (low : d < n) (table : List ℕ)
    (are : AreDistances n links d table) where
  past_end : (w : ℕ) → n ≤ w → (nodes : List ℕ) → IsPath links w nodes → ¬ (end_of w nodes ≡ d)
  past_end w past [] path end = omega (arith, past, low, end)
  past_end w past (v ∷ vs) path end = omega (arith, past, (link_below n links w v net path.0).0)

  leads_or_not : (w : ℕ) → HasPath links w d ⊎ ¬ HasPath links w d
  leads_or_not w = elim (cases_lt w n) [
    | inl inside ↦
        let measured = are.each w inside in
        elim (cases_eq (slice_index table w) no_distance) [
          | inl none ↦ inr (measured.none none)
          | inr some ↦ inl (has_path (measured.some some))
        ]
    | inr past ↦ inr (λ (nodes, walk). past_end w past nodes walk.0 walk.1)
  ]

pub tables_exist : (s : State) → IsNet s.nodes s.links → s.dest < s.nodes → (table : List ℕ)
    → AreDistances s.nodes s.links s.dest table → (all : List (List ℕ)) × AreAllWays s all
tables_exist s net low table are =
    ways_below_exist s net.in_range (leads_or_not s.nodes s.links s.dest net low table are) s.nodes

-- the ways of one more of these nodes
pub ways_of_more : (n : ℕ) (links : List (ℕ × ℕ)) (d : ℕ) (nodes : List ℕ) (table : List (List ℕ)) (k : ℕ)
    (list : List ℕ) → k < length nodes → AreWaysOf n links d (take k nodes) table
    → (slice_index nodes k < n → AreWays links d (slice_index nodes k) list)
    → AreWaysOf n links d (take (k + 1) nodes) (table ++ list ∷ [])
ways_of_more n links d nodes table k list low so_far here = record {
  one_each = omega (arith, length_push table list, long, length-take-le (k + 1) nodes (omega (arith, low)));
  each = each;
}
  where
    long : length table ≡ k
    long = omega (arith, so_far.one_each, length-take-le k nodes (omega (arith, low)))

    each : (i : ℕ) → i < length (take (k + 1) nodes) → slice_index (take (k + 1) nodes) i < n
        → AreWays links d (slice_index (take (k + 1) nodes) i) (ways (table ++ list ∷ []) i)
    each i inside below =
        let place : i < k + 1 = omega (arith, inside, length-take-le (k + 1) nodes (omega (arith, low))) in
        let at : slice_index (take (k + 1) nodes) i ≡ slice_index nodes i = get_or-take (k + 1) nodes i 0 place in
        elim (cases_eq i k) [
          | inl e ↦ rw (at, e, get_or_push table list [] k long) (here (rw (at, e) at below))
          | inr apart ↦
              let early : i < k = omega (arith, place, apart) in
              let was : slice_index (take k nodes) i ≡ slice_index nodes i = get_or-take k nodes i 0 early in
              rw (at, get_or_append_left table (list ∷ []) [] i (omega (arith, early, long)))
              (rw was at (so_far.each i (omega (arith, early, length-take-le k nodes (omega (arith, low)))))
              (rw at at below))
        ]

-- z is above the nodes before this place, and not above those from it on
pub record IsBetween (nodes : List ℕ) (place z : ℕ) : Type 0 where
  pub above : (k : ℕ) → k < place → k < length nodes → slice_index nodes k < z
  pub below : (k : ℕ) → place ≤ k → k < length nodes → z ≤ slice_index nodes k

-- the changes of the affected nodes before this place are noted
pub record IsNotingAt (s next : State) (edits : List Edit) (m : Measured) (before after : List (List ℕ)) (place : ℕ)
    (notes : WayNotes) : Type 0 where
  pub leads : LeadsOn s next edits m notes
  pub rises : (i j : ℕ) → i < j → j < length notes.affected.nodes
      → slice_index notes.affected.nodes i < slice_index notes.affected.nodes j
  pub below : (k : ℕ) → k < length notes.affected.nodes → slice_index notes.affected.nodes k < next.nodes
  pub others : (y : ℕ) → y < next.nodes → ¬ Contains notes.affected.nodes y
      → KeepsWays s.links s.dest next.links next.dest y
  pub noted : (z : ℕ) → z ≤ next.nodes → IsBetween notes.affected.nodes place z → IsNotedTo before after z notes.changes

-- the same, for the states between which the notes lead
abbrev pub IsNoting : State → List Edit → Measured → WayNotes → ℕ → WayNotes → Type 0
IsNoting next edits m start place notes = (s : State) (before after : List (List ℕ)) → LeadsOn s next edits m start
    → AreAllWays s before → AreAllWays next after → IsNotingAt s next edits m before after place notes

-- the notes still lead on when only the pushes have changed
pub leads_same : {s next : State} {edits : List Edit} {m : Measured} {old new : WayNotes} → LeadsOn s next edits m old
    → HasSameMemory old new → LeadsOn s next edits m new
leads_same {s} {next} {edits} {m} {old} {new} leads same = record {
  begun = record {
    few = leads.begun.few;
    ends = rw same.ends leads.begun.ends;
    end_ways = rw (same.ends, same.end_ways) leads.begun.end_ways;
    affected = rw same.room leads.begun.affected;
    before = rw same.before leads.begun.before;
    after = rw same.after leads.begun.after;
    nodes = rw same.nodes leads.begun.nodes;
    ways = rw same.ways leads.begun.ways;
  };
  same_nodes = leads.same_nodes;
  was_net = leads.was_net;
  is_net = leads.is_net;
  was_below = leads.was_below;
  is_below = leads.is_below;
  were = leads.were;
  are = leads.are;
  changed = leads.changed;
  counted = leads.counted;
  ends = leads.ends;
  kept = leads.kept;
  new = leads.new;
  had = leads.had;
  few = leads.few;
}

module _ (s next : State) (edits : List Edit) (m : Measured) (before after : List (List ℕ)) (notes : WayNotes)
    (leads : LeadsOn s next edits m notes) (were : AreAllWays s before) (are : AreAllWays next after) where
  -- there is room for the pushes
  pub has_room : HasRoomFor after notes.changes
  has_room = record {
    nodes = omega (arith, are.one_each, leads.begun.nodes);
    ways = omega (
      arith,
      ways_within next.links next.dest after (λ x low. are.each x (omega (arith, low, are.one_each))),
      leads.few,
      leads.begun.ways,
    );
  }

  -- the notes also hold of the nodes up to the next affected one, since those between keep their ways
  pub noted_between : (nodes : List ℕ) → ((y : ℕ) → y < next.nodes → ¬ Contains nodes y
      → KeepsWays s.links s.dest next.links next.dest y) → (x place z : ℕ)
      → ((k : ℕ) → k < place → k < length nodes → slice_index nodes k < x) → x ≤ z → z ≤ next.nodes
      → ((k : ℕ) → place ≤ k → k < length nodes → z ≤ slice_index nodes k) → (noted : Noted)
      → IsNotedTo before after x noted → IsNotedTo before after z noted
  noted_between nodes others x place z above le high below noted is = noted_on before after x z noted is le keeps
    where
      apart : (y : ℕ) → x ≤ y → y < z → ¬ Contains nodes y
      apart y from to (k, low, at) =
          let here : slice_index nodes k ≡ y = get_or_default nodes k 0 y low ∙ at in
          elim (cases_lt k place) [
            | inl early ↦ omega (arith, above k early low, from, here)
            | inr late ↦ omega (arith, below k late low, to, here)
          ]

      keeps : (y : ℕ) → x ≤ y → y < z → ways before y ≡ ways after y
      keeps y from to =
          let low : y < next.nodes = omega (arith, to, high) in
          one_list next.links next.dest y (ways before y) (ways after y)
          ((others y low (apart y from to) (ways before y)).0 (were.each y (omega (arith, low, leads.same_nodes))))
          (are.each y low)

-- What one node needs.

module _ (s next : State) (edits : List Edit) (m : Measured) (before after : List (List ℕ)) (x : ℕ) (notes : WayNotes)
    (is : IsNext s next edits m before after x notes) where
  leads : LeadsOn s next edits m notes
  leads = is.leads

  may_note : (old new : List ℕ) → AreWays s.links s.dest x old → AreWays next.links next.dest x new
      → MayNote before after x old new notes.changes
  may_note old new were are = record {
    below = is.noted;
    ways_before =
        one_list s.links s.dest x (ways before x) old (is.were.each x (omega (arith, is.node, leads.same_nodes))) were;
    ways_after = one_list next.links next.dest x (ways after x) new (is.are.each x is.node) are;
    inside = omega (arith, is.node, is.are.one_each);
    range = ways_in_range next leads.is_net next.nodes after (omega arith) is.are;
    room = has_room s next edits m before after notes leads is.were is.are;
  }

  -- at an end of an edit, the old list is kept
  pub may_note_end : (place : ℕ) (new : List ℕ) → place < length notes.ends.items
      → slice_index notes.ends.items place ≡ x
      → AreWays next.links next.dest x new → MayNote before after x (ways notes.end_ways place) new notes.changes
  may_note_end place new low at are =
      may_note (ways notes.end_ways place) new
      ((rw at at (leads.begun.end_ways.each place low)) is.node) are

  -- any other node had the links that the turns have reversed
  pub may_note_other : (old new : List ℕ) → ¬ Contains notes.ends.items x
      → (HadLinks next.links next.counts s.links x → AreWays s.links s.dest x old) → AreWays next.links next.dest x new
      → MayNote before after x old new notes.changes
  may_note_other old new none had are =
      may_note old new (had (leads.had x (λ end. none (leads.begun.ends.these x end)))) are

-- a search that does not find x shows that it is not there
pub not_found : (nodes : List ℕ) (x i : ℕ) → ((k : ℕ) → k < i → slice_index nodes k < x)
    → ((k : ℕ) → i ≤ k → k < length nodes → x < slice_index nodes k) → ¬ Contains nodes x
not_found nodes x i less more (k, low, at) =
    let here : slice_index nodes k ≡ x = get_or_default nodes k 0 x low ∙ at in
    elim (cases_lt k i) [
      | inl early ↦ omega (arith, less k early, here)
      | inr late ↦ omega (arith, more k late low, here)
    ]

-- The list of affected nodes.

-- later nodes of an ascending list are higher
rises_to : (nodes : List ℕ) → IsStrictlyIncreasing nodes → (i j : ℕ) → i < j → j < length nodes
    → slice_index nodes i < slice_index nodes j
rises_to nodes up i zero lt low = absurd (omega (arith, lt))
rises_to nodes up i (suc j) lt low =
    let step : slice_index nodes j < slice_index nodes (j + 1) = up j (omega (arith, low)) in
    let next : j + 1 ≡ suc j = omega arith in
    let last : slice_index nodes j < slice_index nodes (suc j) =
    subst (λ (k : ℕ). slice_index nodes j < slice_index nodes k) next step in
    elim (cases_eq i j) [
      | inl e ↦ rw e last
      | inr apart ↦ omega (arith, rises_to nodes up i j (omega (arith, lt, apart)) (omega (arith, low)), last)
    ]

-- the first affected node is the next to note
pub noting_first : (s next : State) (touched : LinkChanges) (m : Measured) (before after : List (List ℕ)) (notes : WayNotes)
    → LeadsOn s next touched.edits.now m notes → AreAllWays s before → AreAllWays next after
    → AreTurned next.counts touched.turned.now
    → AreAffected (net_at next) touched m.before m.table notes.affected.nodes → HasNoPushes notes.changes
    → IsNotingAt s next touched.edits.now m before after 0 notes
noting_first s next touched m before after notes leads were are turned affected none = record {
  leads = leads;
  rises = rises_to nodes affected.order;
  below = λ k low. All-contains (λ (x : ℕ). x < next.nodes) nodes (slice_index nodes k) affected.below
      (Contains-get_or nodes k 0 low);
  others = others;
  noted = λ z high between.
      noted_between s next touched.edits.now m before after notes leads were are nodes others 0 0 z
      (λ k early low. absurd (omega (arith, early))) (omega arith) high between.below notes.changes
      (record { shrink = none.shrink; emptied = none.emptied; grow = none.grow });
}
  where
    nodes : List ℕ
    nodes = notes.affected.nodes

    has_turned : (x w : ℕ) → HasTurnedEnd next.counts x w → HasTurned touched x w
    has_turned x w is = ⊎_elim (λ h. inl ((turned.each x).1 h)) (λ h. inr ((turned.each w).1 h)) is

    others : (y : ℕ) → y < next.nodes → ¬ Contains nodes y → KeepsWays s.links s.dest next.links next.dest y
    others = affected.others s.links s.dest next.dest leads.were leads.are
        (λ x w link. ⊎_elim (λ cut. inl cut)
        (λ left. inr (⊎_elim (λ same. inl same) (λ back. inr (back.0, has_turned x w back.1)) left))
        (leads.kept x w link))
        (λ x w link. ⊎_elim (λ add. inl add)
        (λ left. inr (⊎_elim (λ was. inl was) (λ ends. inr (has_turned x w ends)) left)) (leads.new x w link))

-- the node at this place is the next one
pub noting_next : {s next : State} {edits : List Edit} {m : Measured} {before after : List (List ℕ)} {place : ℕ}
    {notes : WayNotes} → AreAllWays s before → AreAllWays next after
    → IsNotingAt s next edits m before after place notes → place < length notes.affected.nodes
    → IsNext s next edits m before after (slice_index notes.affected.nodes place) notes
noting_next {s} {next} {edits} {m} {before} {after} {place} {notes} were are noting low = record {
  leads = noting.leads;
  were = were;
  are = are;
  node = noting.below place low;
  noted = noting.noted (slice_index notes.affected.nodes place) (omega (arith, noting.below place low)) (record {
    above = λ k early inside. noting.rises k place early low;
    below = λ k late inside. elim (cases_eq k place) [
      | inl e ↦ rw e (omega arith)
      | inr apart ↦ omega (arith, noting.rises place k (omega (arith, late, apart)) inside)
    ];
  });
}

-- and once it is noted, the one after it
pub noting_more : {s next : State} {edits : List Edit} {m : Measured} {before after : List (List ℕ)} {place : ℕ}
    {old new : WayNotes} → AreAllWays s before → AreAllWays next after
    → IsNotingAt s next edits m before after place old → place < length old.affected.nodes → HasSameMemory old new
    → new.affected ≡ old.affected
    → IsNotedTo before after (slice_index old.affected.nodes place + 1) new.changes
    → IsNotingAt s next edits m before after (place + 1) new
noting_more {s} {next} {edits} {m} {before} {after} {place} {old} {new} were are noting low same list noted = record {
  leads = leads;
  rises = rw list noting.rises;
  below = rw list noting.below;
  others = rw list noting.others;
  noted = rw list (λ z high between.
      noted_between s next edits m before after new leads were are nodes noting.others (x + 1) (place + 1) z
      (λ k early inside. elim (cases_eq k place) [
        | inl e ↦ rw e (omega arith)
        | inr apart ↦ omega (arith, noting.rises k place (omega (arith, early, apart)) low)
      ])
      (omega (arith, between.above place (omega arith) low)) high between.below new.changes noted);
}
  where
    nodes : List ℕ
    nodes = old.affected.nodes

    x : ℕ
    x = slice_index nodes place

    leads : LeadsOn s next edits m new
    leads = leads_same noting.leads same

-- at the end all nodes are noted
pub noting_last : {s next : State} {edits : List Edit} {m : Measured} {before after : List (List ℕ)} {place : ℕ}
    {notes : WayNotes} → AreAllWays next after → IsNotingAt s next edits m before after place notes
    → length notes.affected.nodes ≤ place → IsNotedTo before after (length after) notes.changes
noting_last {s} {next} {edits} {m} {before} {after} {place} {notes} are noting past = rw are.one_each
    (noting.noted next.nodes (omega arith) (record {
      above = λ k early inside. noting.below k inside;
      below = λ k late inside. absurd (omega (arith, late, inside, past));
    }))

-- the tables of both states
pub both_exist : (s next : State) (edits : List Edit) (m : Measured) (notes : WayNotes) → LeadsOn s next edits m notes
    → (before : List (List ℕ)) × AreAllWays s before × ((after : List (List ℕ)) × AreAllWays next after)
both_exist s next edits m notes leads =
    let was =
    tables_exist s (rw leads.same_nodes leads.was_net) (omega (arith, leads.was_below, leads.same_nodes)) m.before
    (rw leads.same_nodes leads.were) in
    let is = tables_exist next leads.is_net leads.is_below m.table leads.are in
    (was.0, was.1, (is.0, is.1))
