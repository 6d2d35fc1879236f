-- A step of an update: a node gets the number that its links give, and the nodes that this affects are listed.
use Rattle.std.proofs.Common.{Contains, List, [], ap, arith, drop, get_or, get_or-set_other, get_or-set_same, inl, inr}
use Rattle.std.proofs.Common.{length, min, refl, set, slice_index, subst, sym, ℕ, ⊎_elim, ◌++◌, ◌+◌, ◌<◌, ◌∙◌, ◌∷◌}
use Rattle.std.proofs.Common.{◌≡◌, ◌≤◌, ◌⊎◌}
use Rattle.std.proofs.lemmas.Bool.{cases_eq, cases_lt}
use Rattle.std.proofs.lemmas.List.{append-nil, append_assoc, drop-append-le, drop_all, drop_more, get_or_default}
use Rattle.std.proofs.lemmas.List.Elements.{Contains-append_left, Contains-append_right, Contains-get_or}
use Rattle.fr_graph.proofs.Members.{Contains-cases, Contains-none}
use Rattle.fr_graph.proofs.Neighbours.{cases_points, entry_is, out_of_row}
use Rattle.fr_graph.specs.Limits.{most_nodes}
use Rattle.fr_graph.specs.Links.{IsNet, Points}
use Rattle.fr_graph.specs.Network.{Network}
use Rattle.fr_graph.specs.Rows.{row}
use Rattle.fr_graph.specs.declared.first.First.{First}
use Rattle.fr_graph.specs.declared.first.First.TheVariants.{Inward, Outward}
use Rattle.fr_nearest.specs.Distances.{no_distance}
use Rattle.fr_nearest.specs.Local.{Agrees, IsByLinks, IsSmall, one_farther}
use Rattle.fr_nearest.specs.Update.{HasNearer, IsLeast, IsLeastWay, IsListed, IsListedIfAffected, IsPending, IsRaising}
use Rattle.fr_nearest.specs.Update.{IsUnaffected, KeepsOthers, ListsAffected, ListsOne, ListsSome, RaisesOne}
use Rattle.fr_nearest.specs.Update.{SetsOne, UpdatesOne}
use Rattle.fr_nearest.proofs.Entries.{hold_in, hold_more, hold_out}
use Rattle.fr_nearest.proofs.Measuring.{AllAgree}

-- The least number of the nodes to which links point

pub least_none : (table : List ℕ) (entries : List (ℕ × First)) → IsLeast table entries 0 no_distance
least_none table entries = record { near = λ k e lt. absurd (omega arith); from = λ some. absurd (some refl) }

-- a link points to the node of this entry
pub least_out : {table : List ℕ} {entries : List (ℕ × First)} {place least : ℕ} → IsLeast table entries place least
    → place < length entries → (get_or entries place (0, Outward)).1 ≡ Outward
    → IsLeast table entries (place + 1) (min least (slice_index table (get_or entries place (0, Outward)).0))
least_out {table} {entries} {place} {least} is inside out =
    let e = get_or entries place (0, Outward) in
    let own = slice_index table e.0 in
    record {
      near = hold_more (λ q. q.1 ≡ Outward → min least own ≤ slice_index table q.0) entries place inside
          (λ k d lt outward. omega (arith, is.near k d lt outward)) (λ _. omega arith);
      from = λ some. elim (cases_lt own least) [
        | inl less ↦
            let listed : Contains entries (e.0, Outward) =
            (place, inside, get_or_default entries place (e.0, Outward) (0, Outward) inside ∙ entry_is e Outward out) in
            (e.0, listed, omega arith)
        | inr past ↦
            let was = is.from (λ none. some (omega (arith, none, past))) in
            (was.0, was.1, omega (arith, was.2, past))
      ];
    }

-- none does
pub least_in : {table : List ℕ} {entries : List (ℕ × First)} {place least : ℕ} → IsLeast table entries place least
    → place < length entries → ¬ ((get_or entries place (0, Outward)).1 ≡ Outward)
    → IsLeast table entries (place + 1) least
least_in {table} {entries} {place} {least} is inside out = record {
  near = hold_more (λ q. q.1 ≡ Outward → least ≤ slice_index table q.0) entries place inside is.near
      (λ outward. absurd (out outward));
  from = is.from;
}

pub least_all : {net : Network} {x : ℕ} {table : List ℕ} {least : ℕ} (enough : ℕ) → IsNet net.nodes net.links
    → IsLeast table (row net.nodes net.links x) (length (row net.nodes net.links x)) least
    → IsLeastWay net.links table x enough least
least_all {net} {x} {table} {least} enough is_net is = record {
  near = λ _ w link.
      let Near : ℕ × First → Type 0 = λ q. q.1 ≡ Outward → least ≤ slice_index table q.0 in
      hold_out Near net.nodes net.links x w is_net is.near link refl;
  from = λ some. let next = is.from some in (next.0, out_of_row net.nodes net.links x next.0 next.1, next.2);
}

-- a node that is near enough
pub least_enough : (net : Network) (x : ℕ) {table : List ℕ} (place : ℕ) {least : ℕ} (enough : ℕ)
    → IsLeast table (row net.nodes net.links x) place least → least < enough → IsLeastWay net.links table x enough least
least_enough net x {table} place {least} enough is less = record {
  near = λ far w link. absurd (omega (arith, far, less));
  from = λ some. let next = is.from some in (next.0, out_of_row net.nodes net.links x next.0 next.1, next.2);
}

pub by_least : {links : List (ℕ × ℕ)} {d x : ℕ} {table : List ℕ} {enough least : ℕ} → ¬ (x ≡ d)
    → IsLeastWay links table x enough least → enough ≤ least → IsByLinks links d table x (one_farther least)
by_least {links} {d} {x} {table} {enough} {least} apart is far = record {
  home = λ e. absurd (apart e);
  near = λ _ w link. omega (arith, is.near far w link);
  from = λ _ some.
      let next = is.from (λ e. some (rw e refl)) in
      (next.0, next.1, omega (arith, next.2, some));
}

-- The nodes that may be affected

pub some_none : (table : List ℕ) (old new : ℕ) (entries : List (ℕ × First)) (list : List ℕ)
    → ListsSome table old new entries 0 list list
some_none table old new entries list = record {
  added = [];
  all = sym (append-nil list);
  passed = λ k e lt. absurd (omega arith);
}

-- this neighbour may be affected: it is listed if it is
pub some_more : {n : ℕ} {table : List ℕ} {old new : ℕ} {entries : List (ℕ × First)} {place : ℕ}
    {list more last : List ℕ} → ListsSome table old new entries place list more → place < length entries
    → ListsOne n table (get_or entries place (0, Outward)).0 old new more last
    → ListsSome table old new entries (place + 1) list last
some_more {n} {table} {old} {new} {entries} {place} {list} {more} {last} is inside one =
    let e = get_or entries place (0, Outward) in
    let all = is.added ++ one.added in
    record {
      added = all;
      all = one.all ∙ rw is.all (append_assoc list is.added one.added);
      passed = hold_more (IsListedIfAffected table old new all) entries place inside
          (λ k d lt inward. ⊎_elim (λ h. inl (Contains-append_left is.added one.added _ h)) (λ u. inr u)
          (is.passed k d lt inward))
          (λ _. ⊎_elim (λ h. inl (Contains-append_right is.added one.added e.0 h)) (λ u. inr u) one.affected);
    }

-- no link points from this neighbour
pub some_other : {table : List ℕ} {old new : ℕ} {entries : List (ℕ × First)} {place : ℕ} {list more : List ℕ}
    → ListsSome table old new entries place list more → place < length entries
    → ¬ ((get_or entries place (0, Outward)).1 ≡ Inward) → ListsSome table old new entries (place + 1) list more
some_other {table} {old} {new} {entries} {place} is inside out = record {
  added = is.added;
  all = is.all;
  passed = hold_more (IsListedIfAffected table old new is.added) entries place inside is.passed
      (λ inward. absurd (out inward));
}

pub affected_all : {net : Network} {x old : ℕ} {table list more : List ℕ} → IsNet net.nodes net.links
    → IsListed net.nodes more
    → ListsSome table old (slice_index table x) (row net.nodes net.links x) (length (row net.nodes net.links x)) list
    more
    → ListsAffected net x old table list more
affected_all {net} {x} {old} {table} is_net listed is = record {
  added = is.added;
  all = is.all;
  listed = listed;
  affected = λ y link. hold_in (IsListedIfAffected table old (slice_index table x) is.added) net.nodes net.links x y
      is_net is.passed link refl;
}

-- One node gets its number

no_self_link : (n : ℕ) (links : List (ℕ × ℕ)) (x : ℕ) → IsNet n links → ¬ Points links x x
no_self_link n links x net (k, l, e) =
    net.no_self k (x, x) l (ap (λ (q : ℕ × ℕ). q.0) e ∙ sym (ap (λ (q : ℕ × ℕ). q.1) e))

module _ {net : Network} {d x v : ℕ} {table : List ℕ} (is_net : IsNet net.nodes net.links)
    (few : net.nodes ≤ most_nodes) (one_each : length table ≡ net.nodes) (small : IsSmall net.nodes table)
    (low : x < net.nodes) (by : IsByLinks net.links d table x v) where
  abbrev after : List ℕ
  after = set table x v

  at_x : slice_index after x ≡ v
  at_x = get_or-set_same table x v 0 (omega (arith, low, one_each))

  at_other : (y : ℕ) → ¬ (y ≡ x) → slice_index after y ≡ slice_index table y
  at_other y apart = get_or-set_other table x y v 0 apart

  -- the number of x does not depend on itself
  here : Agrees net.links d after x
  here = rw at_x record {
    home = by.home;
    near = λ apart w link.
        rw (at_other w (λ e. no_self_link net.nodes net.links x is_net (rw e at link))) (by.near apart w link);
    from = λ apart some.
        let next = by.from apart some in
        let away : ¬ (next.0 ≡ x) = λ e. no_self_link net.nodes net.links x is_net (rw e at next.1) in
        (next.0, next.1, next.2 ∙ rw (at_other next.0 away) refl);
  }

  -- a node that is not affected still agrees
  still : (y : ℕ) → ¬ (y ≡ x) → (Points net.links y x → IsUnaffected (slice_index table y) (slice_index table x) v)
      → Agrees net.links d table y → Agrees net.links d after y
  still y apart same agrees = rw (at_other y apart) record {
    home = agrees.home;
    near = λ out w link. elim (cases_eq w x) [
      | inl e ↦ rw (e, at_x) (same (rw e at link)).near
      | inr other ↦ rw (at_other w other) (agrees.near out w link)
    ];
    from = λ out some.
        let next = agrees.from out some in
        elim (cases_eq next.0 x) [
          | inl e ↦
              let to_x : Points net.links y x = rw e at next.1 in
              let was : slice_index table y ≡ slice_index table x + 1 = rw e at next.2 in
              let u = same to_x in
              let is : slice_index table y ≡ v + 1 = omega (arith, was, u.nearer (omega (arith, was)), u.near) in
              (x, to_x, rw at_x is)
          | inr other ↦ (next.0, next.1, next.2 ∙ rw (at_other next.0 other) refl)
        ];
  }

  small_after : (v ≡ no_distance) ⊎ (v ≤ net.nodes) → IsSmall net.nodes after
  small_after small_v y = elim (cases_eq y x) [
    | inl e ↦ rw (e, at_x) small_v
    | inr apart ↦ rw (at_other y apart) (small y)
  ]

  updates : {list more : List ℕ} → (v ≡ no_distance) ⊎ (v ≤ net.nodes)
      → ListsAffected net x (slice_index table x) after list more → UpdatesOne net d x table list after more
  updates small_v lists = record {
    added = lists.added;
    all = lists.all;
    listed = lists.listed;
    small = small_after small_v;
    others = at_other;
    here = here;
    agrees = λ y agrees. elim (cases_eq y x) [
      | inl e ↦ inl (rw e here)
      | inr apart ↦ elim (cases_points net.links y x) [
        | inl link ↦ ⊎_elim (λ h. inr h)
            (λ u. inl (still y apart (λ _. rw (at_other y apart, at_x) at u) agrees)) (lists.affected y link)
        | inr none ↦ inl (still y apart (λ link. absurd (none link)) agrees)
      ]
    ];
  }

  -- it was less, and x is not the destination
  raises : {list more : List ℕ} → ¬ (x ≡ d) → slice_index table x < v → (v ≡ no_distance) ⊎ (v ≤ net.nodes)
      → ListsAffected net x (slice_index table x) after list more → RaisesOne net d x table list after more
  raises {list} {more} apart less small_v lists = record {
    added = lists.added;
    all = lists.all;
    listed = lists.listed;
    small = small_after small_v;
    others = at_other;
    home = at_other d (λ e. apart (sym e));
    within = λ y w link was. elim (cases_eq y x) [
      | inl e ↦
          let from_x : Points net.links x w = rw e at link in
          let away : ¬ (w ≡ x) = λ same. no_self_link net.nodes net.links x is_net (rw same at from_x) in
          rw (e, at_x, at_other w away) (by.near apart w from_x)
      | inr other ↦ elim (cases_eq w x) [
        | inl e ↦
            let old : slice_index table y ≤ one_farther (slice_index table x) = rw e at was in
            rw (e, at_x, at_other y other) (omega (arith, old, less))
        | inr away ↦ rw (at_other y other, at_other w away) was
      ]
    ];
    here = here_nearer;
    nearer = λ y has. elim (cases_eq y x) [
      | inl e ↦ inl (rw e here_nearer)
      | inr other ↦ elim (cases_eq y d) [
        | inl home ↦ inl (λ out. absurd (out home))
        | inr out ↦ elim (cases_eq (slice_index table y) no_distance) [
          | inl none ↦ inl (λ _ some. absurd (some (at_other y other ∙ none)))
          | inr some ↦ still_nearer y other (has out some)
        ]
      ]
    ];
  }
    where
      here_nearer : HasNearer net.links d after x
      here_nearer _ some =
          let next = by.from apart (rw at_x at some) in (
            next.0,
            next.1,
            rw (at_x, at_other next.0 (λ e. no_self_link net.nodes net.links x is_net (rw e at next.1)))
                (omega (arith, next.2)),
          )

      still_nearer : (y : ℕ) → ¬ (y ≡ x) → (w : ℕ) × Points net.links y w × (slice_index table w < slice_index table y)
          → HasNearer net.links d after y ⊎ Contains lists.added y
      still_nearer y other next = elim (cases_eq next.0 x) [
        | inl e ↦
            let link : Points net.links y x = rw e at next.1 in
            let was : slice_index table x < slice_index table y = rw e at next.2 in
            ⊎_elim (λ h. inr h)
            (λ u. inl (λ _ _. (x, link, u.nearer (rw (at_other y other) was))))
            (lists.affected y link)
        | inr away ↦ inl (λ _ _. (next.0, next.1, rw (at_other y other, at_other next.0 away) next.2))
      ]

  -- the same for the table that `set_distance` leaves
  module _ {list now more : List ℕ} (sets : SetsOne net x v table list now more) where
    affected : ListsAffected net x (slice_index table x) after list more
    affected = subst (λ (xs : List ℕ). ListsAffected net x (slice_index table x) xs list more) sets.set sets.lists

    pub set_updates : UpdatesOne net d x table list now more
    set_updates = subst (λ (xs : List ℕ). UpdatesOne net d x table list xs more) (sym sets.set)
        (updates sets.small affected)

    pub set_raises : ¬ (x ≡ d) → slice_index table x < v → RaisesOne net d x table list now more
    set_raises apart less = subst (λ (xs : List ℕ). RaisesOne net d x table list xs more) (sym sets.set)
        (raises apart less sets.small affected)

-- x has a nearer way, or need not have one
pub raises_none : {net : Network} {d x : ℕ} {table list : List ℕ} → IsListed net.nodes list → IsSmall net.nodes table
    → HasNearer net.links d table x → RaisesOne net d x table list table list
raises_none {net} {d} {x} {table} {list} listed small has = record {
  added = [];
  all = sym (append-nil list);
  listed = listed;
  small = small;
  others = λ y apart. refl;
  home = refl;
  within = λ y w link is. is;
  here = has;
  nearer = λ y is. inl is;
}

-- All nodes

-- the node at the place `read` is taken up: afterwards Q holds of it, and where it does not, a node is listed
taken_up : (P Q : ℕ → Type 0) (list : List ℕ) {more : List ℕ} (added : List ℕ) (read x : ℕ) → read < length list
    → slice_index list read ≡ x → more ≡ list ++ added → Q x → ((y : ℕ) → P y → Q y ⊎ Contains added y)
    → (y : ℕ) → P y ⊎ Contains (drop read list) y → Q y ⊎ Contains (drop (read + 1) more) y
taken_up P Q list {more} added read x left at all now others y was =
    let is : drop (read + 1) more ≡ drop (read + 1) list ++ added =
    rw all (drop-append-le (read + 1) list added (omega arith)) in
    elim was [
      | inl holds ↦ ⊎_elim (λ q. inl q)
          (λ h. inr (rw is (Contains-append_right (drop (read + 1) list) added y h))) (others y holds)
      | inr waits ↦
          let split : drop read list ≡ x ∷ drop (read + 1) list =
          subst (λ (q : ℕ). drop read list ≡ q ∷ drop (read + 1) list) at (drop_more list read 0 left) in
          elim (Contains-cases y x (drop (read + 1) list) (rw split at waits)) [
            | inl e ↦ inl (rw (sym e) now)
            | inr later ↦ inr (rw is (Contains-append_left (drop (read + 1) list) added y later))
          ]
    ]

pub keeps_others : (before table list after : List ℕ) {more : List ℕ} (added : List ℕ) (read x : ℕ)
    → KeepsOthers before table list → read < length list → slice_index list read ≡ x → more ≡ list ++ added
    → ((y : ℕ) → ¬ (y ≡ x) → slice_index after y ≡ slice_index table y) → KeepsOthers before after more
keeps_others before table list after {more} added read x keeps left at all others y out =
    let old : ¬ Contains list y = λ h. out (rw all (Contains-append_left list added y h)) in
    let apart : ¬ (y ≡ x) = λ e. old (subst (Contains list) (at ∙ sym e) (Contains-get_or list read 0 left)) in
    others y apart ∙ keeps y old

pub pending_less : {net : Network} {d : ℕ} {table list after more : List ℕ} (read x : ℕ)
    → IsPending net d table list read → read < length list → slice_index list read ≡ x → length after ≡ length table
    → UpdatesOne net d x table list after more → IsPending net d after more (read + 1)
pending_less {net} {d} {table} {list} {after} {more} read x p left at same u = record {
  one_each = same ∙ p.one_each;
  small = u.small;
  listed = u.listed;
  agrees = λ y low. taken_up (Agrees net.links d table) (Agrees net.links d after) list u.added read x left at u.all
      u.here u.agrees y (p.agrees y low);
}

pub raising_less : {net : Network} {d : ℕ} {before table list after more : List ℕ} (read x : ℕ)
    → IsRaising net d before table list read → read < length list → slice_index list read ≡ x
    → length after ≡ length table → RaisesOne net d x table list after more
    → IsRaising net d before after more (read + 1)
raising_less {net} {d} {before} {table} {list} {after} {more} read x p left at same u = record {
  one_each = same ∙ p.one_each;
  small = u.small;
  listed = u.listed;
  others = keeps_others before table list after u.added read x p.others left at u.all u.others;
  home = u.home ∙ p.home;
  within = λ y w link is. u.within y w link (p.within y w link is);
  nearer = λ y low. taken_up (HasNearer net.links d table) (HasNearer net.links d after) list u.added read x left at
      u.all u.here u.nearer y (p.nearer y low);
}

-- all listed nodes have been taken up
pub raised_all : {net : Network} {d : ℕ} {before table list : List ℕ} (read : ℕ)
    → IsRaising net d before table list read → length list ≤ read → IsRaising net d before table list (length list)
raised_all {net} {d} {before} {table} {list} read p end = record {
  one_each = p.one_each;
  small = p.small;
  listed = p.listed;
  others = p.others;
  home = p.home;
  within = p.within;
  nearer = λ x low. ⊎_elim (λ has. inl has)
      (λ h. absurd (Contains-none x (subst (λ (xs : List ℕ). Contains xs x) (drop_all read list end) h)))
      (p.nearer x low);
}

pub none_pending : {net : Network} {d : ℕ} {table list : List ℕ} (read : ℕ) → IsNet net.nodes net.links
    → net.nodes ≤ most_nodes → IsPending net d table list read → length list ≤ read
    → AllAgree net.nodes net.links d table
none_pending {net} {d} {table} {list} read is_net few p end = record {
  one_each = p.one_each;
  few = few;
  is_net = is_net;
  small = p.small;
  each = λ x low. ⊎_elim (λ a. a)
      (λ h. absurd (Contains-none x (subst (λ (xs : List ℕ). Contains xs x) (drop_all read list end) h)))
      (p.agrees x low);
}
