-- Nodes are noted one by one.
use Rattle.std.proofs.Common.{Bool, Contains, List, [], arith, false, get_or, get_or-set_other, get_or-set_same, inl}
use Rattle.std.proofs.Common.{inr, length, length-set, refl, set, slice_index, subst, sym, vec_capacity}
use Rattle.std.proofs.Common.{take, true, ℕ, ⊎_elim, ◌++◌, ◌+◌, ◌<◌, ◌∙◌, ◌∷◌, ◌≡◌, ◌≢◌, ◌⊎◌}
use Rattle.std.proofs.lemmas.Bool.{cases_eq, false≢true}
use Rattle.std.proofs.lemmas.List.{ext_get_or, length_push, take_more}
use Rattle.std.proofs.lemmas.List.Elements.{Contains-append_left, Contains-push, Contains-push_cases}
use Rattle.fr_graph.proofs.Lists.{once_more}
use Rattle.fr_graph.proofs.Members.{Contains-none, cases_some}
use Rattle.fr_nearest.specs.Changes.{AreAllNoted, AreNoted, IsForgotten, IsNoted, IsTakenOver, NotesOne}
use Rattle.fr_nearest.specs.declared.distance_changes.DistanceChanges.{DistanceChanges}
use Rattle.fr_nearest.specs.Distances.{AreChanged}
use Rattle.fr_nearest.specs.Update.{KeepsOthers}

pub in_or_out : (x : ℕ) (list : List ℕ) → Contains list x ⊎ ¬ Contains list x
in_or_out x list = ⊎_elim
    (λ (y, found, is). inl (subst (Contains list) is found))
    (λ none. inr (λ found. none x found refl))
    (cases_some (λ (y : ℕ). y ≡ x) (λ y. cases_eq y x) list)

-- x is noted, and was not
pub notes_it : {table : List ℕ} {x : ℕ} {before after : DistanceChanges} → AreNoted table before → x < length table
    → slice_index table x ≢ slice_index before.before.items x → ¬ IsNoted before x → after.before ≡ before.before
    → after.noted.items ≡ set before.noted.items x true → after.nodes.items ≡ before.nodes.items ++ x ∷ []
    → vec_capacity after.nodes ≡ vec_capacity before.nodes → NotesOne table x before after
notes_it {table} {x} {before} {after} was low other fresh same_before noted_are nodes_are room = record {
  same_before = same_before;
  room = room;
  keeps = λ y h. rw nodes_are (Contains-append_left before.nodes.items (x ∷ []) y h);
  here = λ _. rw nodes_are (Contains-push before.nodes.items x);
  length_at_most = rw nodes_are (omega (arith, length_push before.nodes.items x));
  noted = λ _. record {
    before = rw same_before was.before;
    noted = rw noted_are (length-set before.noted.items x true ∙ was.noted);
    room = rw room was.room;
    same = λ y. (
      λ noted. elim (cases_eq y x) [
        | inl e ↦ rw (nodes_are, e) (Contains-push before.nodes.items x)
        | inr apart ↦
            let old : IsNoted before y =
            sym (get_or-set_other before.noted.items x y true false apart) ∙ rw noted_are at noted in
            rw nodes_are (Contains-append_left before.nodes.items (x ∷ []) y ((was.same y).0 old))
      ],
      λ h. elim (Contains-push_cases before.nodes.items x y (rw nodes_are at h)) [
        | inl old ↦
            let apart : y ≢ x = λ e. fresh ((was.same x).1 (subst (Contains before.nodes.items) e old)) in
            rw (noted_are, get_or-set_other before.noted.items x y true false apart) ((was.same y).1 old)
        | inr e ↦ rw (noted_are, sym e) (get_or-set_same before.noted.items x true false (omega (
          arith,
          low,
          was.noted,
        )))
      ],
    );
    just = λ y h. rw same_before (elim (Contains-push_cases before.nodes.items x y (rw nodes_are at h)) [
      | inl old ↦ was.just y old
      | inr e ↦ rw (sym e) (low, other)
    ]);
    once = rw nodes_are (once_more before.nodes.items x was.once (λ h. fresh ((was.same x).1 h)));
  };
}

pub notes_none : {table : List ℕ} {x : ℕ} {changes : DistanceChanges}
    → (slice_index table x ≢ slice_index changes.before.items x → Contains changes.nodes.items x)
    → NotesOne table x changes changes
notes_none known = record {
  same_before = refl;
  room = refl;
  keeps = λ y h. h;
  here = known;
  length_at_most = omega arith;
  noted = λ was. was;
}

-- nothing is noted yet
pub noted_first : {old table : List ℕ} {changes : DistanceChanges} → IsForgotten old changes
    → length old ≡ length table → AreNoted table changes
noted_first {old} {table} {changes} f same = record {
  before = rw f.before same;
  noted = f.noted ∙ same;
  room = omega (arith, f.room, same);
  same = λ x. (λ h. absurd (f.none x h), λ h. absurd (Contains-none x (rw f.empty at h)));
  just = λ x h. absurd (Contains-none x (rw f.empty at h));
  once = λ i j lt l. absurd (let none : j < 0 = rw f.empty at l in omega (arith, none));
}

-- the noted nodes are those at which the tables differ
pub changed_of : {table : List ℕ} {changes : DistanceChanges} → AreAllNoted table changes
    → AreChanged changes.before.items table changes.nodes.items
changed_of all = record {
  one_each = all.noted.before;
  once = all.noted.once;
  just = λ x. (λ h. all.noted.just x h, λ (low, other). all.all x low other);
}

-- the changes at the nodes of a list, up to a place, are noted
abbrev pub HasNoted : List ℕ → DistanceChanges → List ℕ → Type 0
HasNoted table changes nodes =
    (x : ℕ) → Contains nodes x → slice_index table x ≢ slice_index changes.before.items x
    → Contains changes.nodes.items x

pub noted_more : {table : List ℕ} (nodes : List ℕ) (place : ℕ) {before after : DistanceChanges} → place < length nodes
    → NotesOne table (slice_index nodes place) before after
    → HasNoted table before (take place nodes) → HasNoted table after (take (place + 1) nodes)
noted_more {table} nodes place {before} {after} l one noted x h other =
    let was : slice_index table x ≢ slice_index before.before.items x = rw one.same_before at other in
    elim (Contains-push_cases (take place nodes) (slice_index nodes place) x (rw (take_more nodes place 0 l) at h)) [
      | inl old ↦ one.keeps x (noted x old was)
      | inr e ↦ subst (Contains after.nodes.items) e (one.here (rw e was))
    ]

-- what an update makes of forgotten changes
pub all_noted : {old table : List ℕ} {changes first : DistanceChanges} (nodes : List ℕ) → IsForgotten old first
    → changes.before ≡ first.before → KeepsOthers old table nodes
    → AreNoted table changes → HasNoted table changes nodes → AreAllNoted table changes
all_noted {old} {table} {changes} {first} nodes f same keeps noted has = record {
  noted = noted;
  all = λ x low other. elim (in_or_out x nodes) [
    | inl h ↦ has x h other
    | inr out ↦ absurd (other (keeps x out ∙ rw (same, f.before) refl))
  ];
}

-- what the noted nodes of a table take over from it
pub taken_none : (table before : List ℕ) (noted : List Bool) → length before ≡ length table
    → length noted ≡ length table
    → IsTakenOver table [] before noted before noted
taken_none table before noted e f = record {
  before_each = e;
  noted_each = f;
  these = λ x h. absurd (Contains-none x h);
  others = λ x _. (refl, refl);
}

pub taken_more : {table : List ℕ} (nodes : List ℕ) {first before : List ℕ} {marks noted : List Bool} (place : ℕ)
    → place < length nodes → slice_index nodes place < length table
    → IsTakenOver table (take place nodes) first marks before noted
    → IsTakenOver table (take (place
    + 1) nodes) first marks (set before (slice_index nodes place) (slice_index table (slice_index nodes place)))
    (set noted (slice_index nodes place) false)
taken_more {table} nodes {first} {before} {marks} {noted} place inside low t =
    let x = slice_index nodes place in
    let v = slice_index table x in
    let more : take (place + 1) nodes ≡ take place nodes ++ x ∷ [] = take_more nodes place 0 inside in
    record {
      before_each = length-set before x v ∙ t.before_each;
      noted_each = length-set noted x false ∙ t.noted_each;
      these = λ y h. elim (cases_eq y x) [
        | inl e ↦ rw e (
          get_or-set_same before x v 0 (omega (arith, low, t.before_each)),
          get_or-set_same noted x false false (omega (arith, low, t.noted_each)),
        )
        | inr apart ↦
            let was : Contains (take place nodes) y =
            ⊎_elim (λ old. old) (λ e. absurd (apart (sym e)))
            (Contains-push_cases (take place nodes) x y (rw more at h)) in (
              get_or-set_other before x y v 0 apart ∙ (t.these y was).0,
              get_or-set_other noted x y false false apart ∙ (t.these y was).1,
            )
      ];
      others = λ y out.
          let apart : y ≢ x = λ e. out (rw (more, e) (Contains-push (take place nodes) x)) in
          let was = t.others y (λ h. out (rw more (Contains-append_left (take place nodes) (x ∷ []) y h))) in
          (get_or-set_other before x y v 0 apart ∙ was.0, get_or-set_other noted x y false false apart ∙ was.1);
    }

pub forgotten : {table before : List ℕ} {noted : List Bool} {changes after : DistanceChanges}
    → AreAllNoted table changes
    → IsTakenOver table changes.nodes.items changes.before.items changes.noted.items before noted
    → after.before.items ≡ before → after.noted.items ≡ noted → after.nodes.items ≡ []
    → vec_capacity after.nodes ≡ vec_capacity changes.nodes → IsForgotten table after
forgotten {table} {before} {noted} {changes} {after} all t before_is noted_is empty room = record {
  before = before_is ∙ ext_get_or 0 before table t.before_each (λ x l. elim (in_or_out x changes.nodes.items) [
    | inl h ↦ (t.these x h).0
    | inr out ↦ (t.others x out).0 ∙ elim (cases_eq (slice_index table x) (slice_index changes.before.items x)) [
      | inl e ↦ sym e
      | inr other ↦ absurd (out (all.all x (omega (arith, l, t.before_each)) other))
    ]
  ]);
  noted = rw noted_is t.noted_each;
  room = rw room all.noted.room;
  none =
      λ x is. let is_noted : get_or noted x false ≡ true = rw noted_is at is in elim (in_or_out x changes.nodes.items) [
        | inl h ↦ false≢true (sym (t.these x h).1 ∙ is_noted)
        | inr out ↦ out ((all.noted.same x).0 (sym (t.others x out).1 ∙ is_noted))
      ];
  empty = empty;
}
