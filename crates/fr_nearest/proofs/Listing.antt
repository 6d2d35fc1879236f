-- How an update begins: which nodes it lists, and why each other node still agrees.
use Rattle.std.proofs.Common.{All, Contains, List, [], ap, arith, drop, get_or, inl, inr, length, refl}
use Rattle.std.proofs.Common.{slice_index, subst, sym, take, ℕ, ⊎_elim, ◌++◌, ◌+◌, ◌<◌, ◌∙◌, ◌∷◌, ◌≡◌, ◌≢◌, ◌≤◌}
use Rattle.std.proofs.Math.Seq.{drop-append_seam}
use Rattle.std.proofs.lemmas.List.{append-nil, append_assoc, drop_all, length_push, take_more}
use Rattle.std.proofs.lemmas.List.Elements.{All-contains, All-push, Contains-append_left, Contains-append_right}
use Rattle.std.proofs.lemmas.List.Elements.{Contains-push, Contains-push_cases}
use Rattle.fr_graph.proofs.Linking.{link_below}
use Rattle.fr_graph.proofs.Members.{Contains-none}
use Rattle.fr_graph.specs.Limits.{most_nodes}
use Rattle.fr_graph.specs.Links.{IsNet, Points}
use Rattle.fr_graph.specs.Network.{Network}
use Rattle.fr_graph.specs.Rows.{row}
use Rattle.fr_graph.specs.declared.edit.Edit.{Edit}
use Rattle.fr_graph.specs.declared.edit.Edit.TheVariants.{Add, Cut, Join}
use Rattle.fr_graph.specs.declared.first.First.{First}
use Rattle.fr_graph.specs.declared.first.First.TheVariants.{Outward}
use Rattle.fr_nearest.specs.Distances.{no_distance}
use Rattle.fr_nearest.specs.Local.{Agrees, IsSmall}
use Rattle.fr_nearest.specs.LinkChanges.{AreEnds, Cuts, HasEndsBelow, IsCut, IsOutOfDate}
use Rattle.fr_nearest.specs.Update.{HasNearer, HoldTo, IsListed, IsNear, IsPending, IsRaising, IsReversed, IsReversedAt}
use Rattle.fr_nearest.specs.Update.{IsSeen, IsTouched, IsUnaffected, IsUnaffectedBy, IsWithin, KeepsOthers, Lists}
use Rattle.fr_nearest.specs.Update.{ListsOne, ListsRow, ListsTurned, MayHave, Touches, direction_of}
use Rattle.fr_nearest.specs.declared.update.Event.{Event}
use Rattle.fr_nearest.specs.declared.update.Event.TheVariants.{Gained, Lost}
use Rattle.fr_nearest.specs.declared.update.LinkChanges.{LinkChanges}
use Rattle.fr_nearest.proofs.Entries.{hold_in, hold_more, hold_out}
use Rattle.fr_nearest.proofs.Measuring.{agrees_of}
use Rattle.fr_nearest.proofs.NotedNodes.{in_or_out}

-- One node

pub one_listed : (n : ℕ) (table : List ℕ) (x old new : ℕ) (list : List ℕ) → IsListed n list → x < n → length list < n
    → ListsOne n table x old new list (list ++ x ∷ [])
one_listed n table x old new list listed low short = record {
  added = x ∷ [];
  all = refl;
  listed = record {
    below = All-push (λ (y : ℕ). y < n) list x listed.below low;
    few = omega (arith, length_push list x, short);
  };
  affected = inl (Contains-push [] x);
}

-- a node that was listed first, or later
seen_first : (event : Event) (table some more : List ℕ) (x w : ℕ) → IsSeen event table some x w
    → IsSeen event table (some ++ more) x w
seen_first event table some more x w is = ⊎_elim (λ h. inl (Contains-append_left some more x h)) (λ u. inr u) is

seen_later : (event : Event) (table some more : List ℕ) (x w : ℕ) → IsSeen event table more x w
    → IsSeen event table (some ++ more) x w
seen_later event table some more x w is = ⊎_elim (λ h. inl (Contains-append_right some more x h)) (λ u. inr u) is

-- Edits

pub lists_none : {n : ℕ} {table list : List ℕ} (event : Event) (May : ℕ → ℕ → Type 0) → ((x w : ℕ) → ¬ May x w)
    → IsListed n list → Lists n table event May list list
lists_none {n} {table} {list} event May none listed = record {
  added = [];
  all = sym (append-nil list);
  listed = listed;
  seen = λ x w may. absurd (none x w may);
}

pub ends_seen : {n : ℕ} {table : List ℕ} (event : Event) (May : ℕ → ℕ → Type 0) (u v old_u new_u old_v new_v : ℕ)
    {list more last : List ℕ} → ((x w : ℕ) → May x w → AreEnds u v x w)
    → (IsUnaffected (slice_index table u) old_u new_u
    → IsUnaffectedBy event (slice_index table u) (slice_index table v))
    → (IsUnaffected (slice_index table v) old_v new_v
    → IsUnaffectedBy event (slice_index table v) (slice_index table u))
    → ListsOne n table u old_u new_u list more → ListsOne n table v old_v new_v more last
    → Lists n table event May list last
ends_seen {n} {table} event May u v old_u new_u old_v new_v {list} {more} {last} ends same_u same_v one two = record {
  added = one.added ++ two.added;
  all = two.all ∙ rw one.all (append_assoc list one.added two.added);
  listed = two.listed;
  seen = λ x w may. both x w (ends x w may);
}
  where
    both : (x w : ℕ) → AreEnds u v x w → IsSeen event table (one.added ++ two.added) x w
    both x w (inl is) = rw (is.0, is.1)
        (⊎_elim (λ h. inl (Contains-append_left one.added two.added u h)) (λ a. inr (same_u a)) one.affected)
    both x w (inr is) = rw (is.0, is.1)
        (⊎_elim (λ h. inl (Contains-append_right one.added two.added v h)) (λ a. inr (same_v a)) two.affected)

pub edits_more : {n : ℕ} {table : List ℕ} {event : Event} (edits : List Edit) {list more last : List ℕ} (k : ℕ)
    (e : Edit) → k < length edits → Lists n table event (IsTouched event (take k edits)) list more
    → Lists n table event (Touches event (get_or edits k e)) more last
    → Lists n table event (IsTouched event (take (k + 1) edits)) list last
edits_more {n} {table} {event} edits {list} {more} {last} k e inside some one = record {
  added = some.added ++ one.added;
  all = one.all ∙ rw some.all (append_assoc list some.added one.added);
  listed = one.listed;
  seen = λ x w h. elim (Contains-push_cases (take k edits) at h.0 (rw is at h.1)) [
    | inl old ↦ seen_first event table some.added one.added x w (some.seen x w (h.0, old, h.2))
    | inr same ↦ seen_later event table some.added one.added x w
        (one.seen x w (subst (λ (d : Edit). Touches event d x w) (sym same) h.2))
  ];
}
  where
    at : Edit
    at = get_or edits k e

    is : take (k + 1) edits ≡ take k edits ++ at ∷ []
    is = take_more edits k e inside

-- Nodes that have turned

pub row_first : (n : ℕ) (table : List ℕ) (event : Event) (x : ℕ) (entries : List (ℕ × First)) (list : List ℕ) → x < n
    → All (λ (y : ℕ). y < n) list → ListsRow n table event x entries 0 list (list ++ x ∷ [])
row_first n table event x entries list low below = record {
  added = x ∷ [];
  all = refl;
  short = omega (arith, length_push list x);
  below = All-push (λ (y : ℕ). y < n) list x below low;
  here = Contains-push [] x;
  near = λ k e lt. absurd (omega arith);
}

-- this neighbour is listed
pub row_listed : {n : ℕ} {table : List ℕ} {event : Event} {x : ℕ} {entries : List (ℕ × First)} {place : ℕ}
    {list more : List ℕ} → place < length entries → (get_or entries place (0, Outward)).0 < n
    → ListsRow n table event x entries place list more
    → ListsRow n table event x entries (place + 1) list (more ++ (get_or entries place (0, Outward)).0 ∷ [])
row_listed {n} {table} {event} {x} {entries} {place} {list} {more} inside low l =
    let w = (get_or entries place (0, Outward)).0 in
    let all = l.added ++ w ∷ [] in
    record {
      added = all;
      all = rw l.all (append_assoc list l.added (w ∷ []));
      short = omega (arith, length_push more w, l.short);
      below = All-push (λ (y : ℕ). y < n) more w l.below low;
      here = Contains-append_left l.added (w ∷ []) x l.here;
      near = hold_more (IsNear event table x all) entries place inside
          (λ k e lt seen. seen_first event table l.added (w ∷ []) (get_or entries k e).0 x (l.near k e lt seen))
          (λ _. inl (Contains-push l.added w));
    }

-- this neighbour agrees
pub row_none : {n : ℕ} {table : List ℕ} {event : Event} {x : ℕ} {entries : List (ℕ × First)} {place : ℕ}
    {list more : List ℕ} → place < length entries
    → ((get_or entries place (0, Outward)).1 ≡ direction_of event
    → IsUnaffectedBy event (slice_index table (get_or entries place (0, Outward)).0) (slice_index table x))
    → ListsRow n table event x entries place list more → ListsRow n table event x entries (place + 1) list more
row_none {n} {table} {event} {x} {entries} {place} {list} {more} inside same l = record {
  added = l.added;
  all = l.all;
  short = omega (arith, l.short);
  below = l.below;
  here = l.here;
  near = hold_more (IsNear event table x l.added) entries place inside l.near (λ seen. inr (same seen));
}

pub row_all : {net : Network} {table : List ℕ} {event : Event} {x : ℕ} {list more : List ℕ} → IsNet net.nodes net.links
    → length more ≤ net.nodes
    → ListsRow net.nodes table event x (row net.nodes net.links x) (length (row net.nodes net.links x)) list more
    → (lists : Lists net.nodes table event (IsReversed event net.links x) list more) × Contains lists.added x
row_all {net} {table} {event} {x} {list} {more} is_net short l = (
  record {
    added = l.added;
    all = l.all;
    listed = record { below = l.below; few = short };
    seen = λ y w h. rw h.0 (seen event l.near y (rw h.0 at h.1));
  },
  l.here,
)
  where
    seen : (e : Event)
        → HoldTo (row net.nodes net.links x) (length (row net.nodes net.links x)) (IsNear e table x l.added)
        → (y : ℕ) → MayHave e net.links y x → IsSeen e table l.added y x
    seen Lost near y link = hold_out (IsNear Lost table x l.added) net.nodes net.links x y is_net near link refl
    seen Gained near y link = hold_in (IsNear Gained table x l.added) net.nodes net.links x y is_net near link refl

pub turned_none : (net : Network) (table : List ℕ) (event : Event) (list : List ℕ) → IsListed net.nodes list
    → ListsTurned net table event [] list list
turned_none net table event list listed = record {
  lists = lists_none event (IsReversedAt event net.links []) (λ x w h. Contains-none w h.0) listed;
  here = λ x h. absurd (Contains-none x h);
}

pub turned_more : {net : Network} {table : List ℕ} {event : Event} (turned : List ℕ) {list more last : List ℕ} (k : ℕ)
    → k < length turned → ListsTurned net table event (take k turned) list more
    → (one : Lists net.nodes table event (IsReversed event net.links (slice_index turned k)) more last)
    → Contains one.added (slice_index turned k) → ListsTurned net table event (take (k + 1) turned) list last
turned_more {net} {table} {event} turned {list} {more} {last} k inside some one here = record {
  lists = record {
    added = was.added ++ one.added;
    all = one.all ∙ (ap (λ (xs : List ℕ). xs ++ one.added) was.all ∙ append_assoc list was.added one.added);
    listed = one.listed;
    seen = λ x w h. elim (Contains-push_cases (take k turned) at w (rw is at h.0)) [
      | inl old ↦ seen_first event table was.added one.added x w (was.seen x w (old, h.1))
      | inr same ↦ seen_later event table was.added one.added x w (one.seen x w (sym same, h.1))
    ];
  };
  here = λ x h. elim (Contains-push_cases (take k turned) at x (rw is at h)) [
    | inl old ↦ Contains-append_left was.added one.added x (some.here x old)
    | inr same ↦ Contains-append_right was.added one.added x (subst (Contains one.added) same here)
  ];
}
  where
    was : Lists net.nodes table event (IsReversedAt event net.links (take k turned)) list more
    was = some.lists

    at : ℕ
    at = slice_index turned k

    is : take (k + 1) turned ≡ take k turned ++ at ∷ []
    is = take_more turned k 0 inside

-- The nodes that are not listed

-- what two steps have listed
listed_two : {n : ℕ} {table : List ℕ} {event : Event} {May Might : ℕ → ℕ → Type 0} {first then last : List ℕ}
    → (one : Lists n table event May first then) → (two : Lists n table event Might then last)
    → drop (length first) last ≡ one.added ++ two.added
listed_two {n} {table} {event} {May} {Might} {first} {then} {last} one two =
    let all : last ≡ first ++ (one.added ++ two.added) =
    two.all ∙ rw one.all (append_assoc first one.added two.added) in
    rw all (drop-append_seam first (one.added ++ two.added))

module _ (net : Network) (touched : LinkChanges) (d : ℕ) (table : List ℕ) (is_net : IsNet net.nodes net.links)
    (few : net.nodes ≤ most_nodes) (small : IsSmall net.nodes table) (old : IsOutOfDate net touched d table) where
  -- the edits did not cut a link to a node that is not there
  cut_below : (x w : ℕ) → IsCut touched.edits.now x w → w < net.nodes
  cut_below x w (e, h, cut) = below e (All-contains (HasEndsBelow net.nodes) touched.edits.now e old.edits h) cut
    where
      below : (e : Edit) → HasEndsBelow net.nodes e → Cuts e x w → w < net.nodes
      below (Cut u v) ends (inl is) = rw is.1 ends.1
      below (Cut u v) ends (inr is) = rw is.1 ends.0
      below (Add u v) ends cut = absurd cut
      below (Join u v) ends cut = absurd cut

  was_below : (x w : ℕ) → Points old.links x w → w < net.nodes
  was_below x w link = elim (old.kept x w link) [
    | inl cut ↦ cut_below x w cut
    | inr left ↦ elim left [
      | inl same ↦ (link_below net.nodes net.links x w is_net same).1
      | inr back ↦ (link_below net.nodes net.links w x is_net back.0).0
    ]
  ]

  agreed : (x : ℕ) → x < net.nodes → Agrees old.links d table x
  agreed x low = agrees_of net.nodes old.links d table old.were small few x low (was_below x)

  module _ {first then last : List ℕ}
      (edits : Lists net.nodes table Lost (IsTouched Lost touched.edits.now) first then)
      (turned : ListsTurned net table Lost touched.turned.now then last) where
    abbrev lost_added : List ℕ
    lost_added = edits.added ++ turned.lists.added

    -- x has not lost this way
    not_lost : (x w : ℕ) → slice_index table x ≢ no_distance → slice_index table w < slice_index table x
        → ¬ IsUnaffectedBy Lost (slice_index table x) (slice_index table w)
    not_lost x w some less same =
        let bound : slice_index table x ≤ net.nodes = ⊎_elim (λ none. absurd (some none)) (λ le. le) (small x) in
        omega (arith, same.nearer less, bound, few)

    still_nearer : (x : ℕ) → x < net.nodes → ¬ Contains lost_added x → HasNearer net.links d table x
    still_nearer x low out apart some =
        let next = (agreed x low).from apart some in
        let w = next.0 in
        let less : slice_index table w < slice_index table x = omega (arith, next.2) in
        let by_edit : IsSeen Lost table edits.added x w → ⊥ = λ is.
        ⊎_elim (λ h. out (Contains-append_left edits.added turned.lists.added x h)) (not_lost x w some less) is in
        let by_turn : IsSeen Lost table turned.lists.added x w → ⊥ = λ is.
        ⊎_elim (λ h. out (Contains-append_right edits.added turned.lists.added x h)) (not_lost x w some less) is in
        elim (old.kept x w next.1) [
          | inl cut ↦ absurd (by_edit (edits.seen x w cut))
          | inr left ↦ elim left [
            | inl same ↦ (w, same, less)
            | inr back ↦ elim back.1 [
              | inl here ↦ absurd (out (Contains-append_right edits.added turned.lists.added x (turned.here x here)))
              | inr there ↦ absurd (by_turn (turned.lists.seen x w (there, back.0)))
            ]
          ]
        ]

    pub raising_first : length first ≡ 0 → IsRaising net d table table last 0
    raising_first empty = record {
      one_each = old.were.one_each;
      small = small;
      listed = turned.lists.listed;
      others = λ x _. refl;
      home = refl;
      within = λ x w link is. is;
      nearer = λ x low. elim (in_or_out x lost_added) [
        | inl h ↦ inr (subst (λ (xs : List ℕ). Contains xs x)
            (sym (listed_two edits turned.lists) ∙ ap (λ (k : ℕ). drop k last) empty) h)
        | inr out ↦ inl (still_nearer x low out)
      ];
    }

  module _ {now list then last : List ℕ} (raised : IsRaising net d table now list (length list))
      (edits : Lists net.nodes now Gained (IsTouched Gained touched.edits.now) list then)
      (turned : ListsTurned net now Gained touched.turned.now then last) where
    abbrev gained_added : List ℕ
    gained_added = edits.added ++ turned.lists.added

    within : (x w : ℕ) → x < net.nodes → ¬ Contains gained_added x → ¬ (x ≡ d) → Points net.links x w → IsWithin now x w
    within x w low out apart link = elim (old.new x w link) [
      | inl added ↦ (⊎_elim (λ h. absurd (out (Contains-append_left edits.added turned.lists.added x h))) (λ u. u)
          (edits.seen x w added)).near
      | inr left ↦ elim left [
        | inl was ↦ raised.within x w link ((agreed x low).near apart w was)
        | inr ends ↦ elim ends [
          | inl here ↦ absurd (out (Contains-append_right edits.added turned.lists.added x (turned.here x here)))
          | inr there ↦ (⊎_elim (λ h. absurd (out (Contains-append_right edits.added turned.lists.added x h)))
              (λ u. u) (turned.lists.seen x w (there, link))).near
        ]
      ]
    ]

    has_nearer : (x : ℕ) → x < net.nodes → HasNearer net.links d now x
    has_nearer x low = ⊎_elim (λ has. has) (λ h.
        let none : drop (length list) list ≡ [] = drop_all (length list) list (omega arith) in
        absurd (Contains-none x (subst (λ (xs : List ℕ). Contains xs x) none h))) (raised.nearer x low)

    agrees : (x : ℕ) → x < net.nodes → ¬ Contains gained_added x → Agrees net.links d now x
    agrees x low out = record {
      home = λ e. rw e (raised.home ∙ (agreed d (rw e at low)).home refl);
      near = λ apart w link. within x w low out apart link;
      from = λ apart some.
          let next = has_nearer x low apart some in
          let near = within x next.0 low out apart next.1 in
          (next.0, next.1, omega (arith, next.2, near));
    }

    pub pending_first : IsPending net d now last (length list)
    pending_first = record {
      one_each = raised.one_each;
      small = raised.small;
      listed = turned.lists.listed;
      agrees = λ x low. elim (in_or_out x gained_added) [
        | inl h ↦ inr (rw (listed_two edits turned.lists) h)
        | inr out ↦ inl (agrees x low out)
      ];
    }

    -- what was raised is in the list
    pub raised_others : KeepsOthers table now last
    raised_others x out = raised.others x (λ h. out (rw (turned.lists.all, edits.all)
        (Contains-append_left (list ++ edits.added) turned.lists.added x (Contains-append_left list edits.added x h))))
