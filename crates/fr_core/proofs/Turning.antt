-- The links stay those that the counts give, turn by turn, and the counts stay lawful.
use Rattle.std.proofs.Common.{All, Contains, List, Option, Some, [], ap, arith, eq-eqb, inl, inr, length, map, ne_eqb}
use Rattle.std.proofs.Common.{refl, slice_index, slice_set}
use Rattle.std.proofs.Common.{subst, sym, ℕ, ⊎_elim, ◌+◌, ◌<◌, ◌∙◌, ◌∷◌, ◌≡◌, ◌⊎◌}
use Rattle.std.proofs.lemmas.Bool.{cases_eq, cond-false, cond-true}
use Rattle.std.proofs.lemmas.List.{get_or-set_other, get_or-set_same, length-set}
use Rattle.std.proofs.lemmas.List.Elements.{All-contains, All-from_get_or, Contains-get_or}
use Rattle.std.specs.List.{filter_map}
use Rattle.fr_core.specs.History.{Moment, after, after_all, after_reply}
use Rattle.fr_core.specs.Legal.{CanTurn, IsLegalReply, IsRun}
use Rattle.fr_core.specs.declared.entry.Entry.{Entry}
use Rattle.fr_core.specs.declared.entry.Reply.{Reply}
use Rattle.fr_core.specs.declared.entry.Reply.TheVariants.{Cut, Held, Moved, Sink, Turned}
use Rattle.fr_graph.proofs.Giving.{Points-links_at_from, filter_map-Contains, link_at-kept, link_at-same}
use Rattle.fr_graph.proofs.Giving.{link_at-turned}
use Rattle.fr_graph.proofs.Linking.{joined_below}
use Rattle.fr_graph.proofs.Members.{Contains-head, Contains-tail}
use Rattle.fr_graph.specs.Counts.{AreLawful, IsKept, link_at, links_at}
use Rattle.fr_graph.specs.Links.{IsNet, Joins}
use Rattle.fr_graph.specs.Turn.{IsSink, turn, turned_link}

turned-there : (x a : ℕ) (l : ℕ × ℕ) → l.1 ≡ x → turned_link x l ≡ (x, l.0)
turned-there x a l e = cond-true _ _ _ (eq-eqb l.1 x e)

turned-other : (x : ℕ) (l : ℕ × ℕ) → ¬ (l.1 ≡ x) → turned_link x l ≡ l
turned-other x l ne = cond-false _ _ _ (ne_eqb l.1 x ne)

map_filter_map : {X Y : Type 0} (f g : X → Option Y) (t : Y → Y) (xs : List X)
    → ((x : X) → Contains xs x → (y : Y) × (f x ≡ Some y) × (g x ≡ Some (t y)))
    → map t (filter_map f xs) ≡ filter_map g xs
map_filter_map f g t [] each = refl
map_filter_map f g t (x ∷ xs) each =
    let p = each x (Contains-head x xs) in
    let rest = map_filter_map f g t xs (λ y h. each y (Contains-tail y x xs h)) in
    rw (p.1, p.2) (ap (λ (r : List _). t p.0 ∷ r) rest)

abbrev pub raised : List ℕ → ℕ → List ℕ
raised c x = slice_set c x (slice_index c x + 1)

pub raised-here : (c : List ℕ) (x y : ℕ) → x < length c → y ≡ x → slice_index (raised c x) y ≡ slice_index c y + 1
raised-here c x y l e =
    ap (slice_index (raised c x)) e ∙ get_or-set_same c x (slice_index c x + 1) 0 l
    ∙ ap (λ (z : ℕ). slice_index c z + 1) (sym e)

pub raised-other : (c : List ℕ) (x y : ℕ) → ¬ (y ≡ x) → slice_index (raised c x) y ≡ slice_index c y
raised-other c x y ne = get_or-set_other c x y (slice_index c x + 1) 0 ne

-- what a link gives before and after the turn of x
abbrev TurnsAlike : List ℕ → ℕ → ℕ × ℕ → Type 0
TurnsAlike c x l = (m : ℕ × ℕ) × (link_at c l ≡ Some m) × (link_at (raised c x) l ≡ Some (turned_link x m))

turns_alike : (c : List ℕ) (x a b : ℕ) → x < length c → ¬ (a ≡ b) → IsKept c (a, b)
    → ((w : ℕ) → ¬ (link_at c (a, b) ≡ Some (x, w))) → TurnsAlike c x (a, b)
turns_alike c x a b in_range apart meets out = by_head (cases_eq b x) (cases_eq a x) meets
  where
    by_head : (b ≡ x) ⊎ ¬ (b ≡ x) → (a ≡ x) ⊎ ¬ (a ≡ x) → IsKept c (a, b) → TurnsAlike c x (a, b)
    by_head (inl e) (inl f) m = absurd (apart (f ∙ sym e))
    by_head (inl e) (inr f) (inl m) = (
      (a, b),
      link_at-same c (a, b) m,
      link_at-turned (raised c x) (a, b) (raised-here c x b in_range e ∙ ap (λ (z : ℕ). z + 1) m
          ∙ ap (λ (z : ℕ). z + 1) (sym (raised-other c x a f)))
          ∙ ap (λ (z : ℕ). Some (z, a)) e ∙ ap Some (sym (turned-there x a (a, b) e)),
    )
    by_head (inl e) (inr f) (inr m) = absurd (out a (link_at-turned c (a, b) m ∙ ap (λ (z : ℕ). Some (z, a)) e))
    by_head (inr e) (inl f) (inl m) = absurd (out b (link_at-same c (a, b) m ∙ ap (λ (z : ℕ). Some (z, b)) f))
    by_head (inr e) (inl f) (inr m) = (
      (b, a),
      link_at-turned c (a, b) m,
      link_at-same (raised c x) (a, b) (raised-other c x b e ∙ m ∙ sym (raised-here c x a in_range f))
          ∙ ap (λ (z : ℕ). Some (z, b)) f ∙ ap Some (sym (turned-there x b (b, a) f)),
    )
    by_head (inr e) (inr f) (inl m) = (
      (a, b),
      link_at-same c (a, b) m,
      link_at-same (raised c x) (a, b) (raised-other c x b e ∙ m ∙ sym (raised-other c x a f))
          ∙ ap Some (sym (turned-other x (a, b) e)),
    )
    by_head (inr e) (inr f) (inr m) = (
      (b, a),
      link_at-turned c (a, b) m,
      link_at-turned (raised c x) (a, b) (raised-other c x b e ∙ m ∙ ap (λ (z : ℕ). z + 1) (sym (raised-other c x a f)))
          ∙ ap Some (sym (turned-other x (b, a) f)),
    )

-- the links are those that the counts give, and the counts are lawful
pub record IsLawfulAt (n d : ℕ) (first : List (ℕ × ℕ)) (m : Moment) : Type 0 where
  pub links : m.links ≡ links_at first m.counts
  pub lawful : AreLawful n d first m.counts

pub sink_linked : (first : List (ℕ × ℕ)) (c : List ℕ) (x : ℕ) → IsSink (links_at first c) x → (w : ℕ) × Joins first x w
sink_linked first c x sink =
    (sink.0.0, ⊎_elim (λ h. inr h.0) (λ h. inl h.0) (Points-links_at_from first c sink.0.0 x sink.0.1))

pub All-from_Contains : (P : ℕ × ℕ → Type 0) (xs : List (ℕ × ℕ)) → ((l : ℕ × ℕ) → Contains xs l → P l) → All P xs
All-from_Contains P xs each = All-from_get_or P xs (0, 0) (λ i l. each _ (Contains-get_or xs i (0, 0) l))

module _ (n d : ℕ) (first : List (ℕ × ℕ)) (net : IsNet n first) (c : List ℕ) (lawful : AreLawful n d first c) (x : ℕ)
    (can : CanTurn n d (record { links = links_at first c; counts = c }) x) where
  here : x < length c
  here =
      let s = sink_linked first c x can.sink in omega (arith, (joined_below n first x s.0 net s.1).0, lawful.one_each)

  each_turns : (l : ℕ × ℕ) → Contains first l → TurnsAlike c x l
  each_turns l h = turns_alike c x l.0 l.1 here (All-contains (λ (l : ℕ × ℕ). ¬ (l.0 ≡ l.1)) first l net.no_self h)
      (All-contains (IsKept c) first l lawful.kept h)
      (λ w e. can.sink.1 w (filter_map-Contains (link_at c) first l (x, w) h e))

  pub turn-links_at : turn x (links_at first c) ≡ links_at first (raised c x)
  turn-links_at = map_filter_map (link_at c) (link_at (raised c x)) (turned_link x) first each_turns

  pub turn_lawful : AreLawful n d first (raised c x)
  turn_lawful = record {
    one_each = length-set c x (slice_index c x + 1) ∙ lawful.one_each;
    destination = raised-other c x d (λ e. can.not_destination (sym e)) ∙ lawful.destination;
    alone = λ y alone. raised-other c x y (λ e. let s = sink_linked first c x can.sink in
        alone s.0 (subst (λ (z : ℕ). Joins first z s.0) (sym e) s.1)) ∙ lawful.alone y alone;
    capped = λ y. ⊎_elim (λ e. omega (arith, raised-here c x y here e, can.below_cap, ap (slice_index c) e))
        (λ ne. omega (arith, raised-other c x y ne, lawful.capped y)) (cases_eq y x);
    kept =
        All-from_Contains (IsKept (raised c x)) first
        (λ l h. let t = each_turns l h in link_at-kept (raised c x) l (turned_link x t.0) t.2);
  }

pub can_turn-links_at : (n d : ℕ) (first : List (ℕ × ℕ)) (m : Moment) (x : ℕ) → m.links ≡ links_at first m.counts
    → CanTurn n d m x → CanTurn n d (record { links = links_at first m.counts; counts = m.counts }) x
can_turn-links_at n d first m x e can = record {
  not_destination = can.not_destination;
  below_cap = can.below_cap;
  sink =
      subst (λ (ls : List (ℕ × ℕ)). IsSink ls x) e can.sink;
}

-- a node that can turn is a node
pub can_turn_below : (n d : ℕ) (first : List (ℕ × ℕ)) → IsNet n first → (m : Moment)
    → m.links ≡ links_at first m.counts → (x : ℕ) → CanTurn n d m x → x < n
can_turn_below n d first net m e x can = let s =
    sink_linked first m.counts x (can_turn-links_at n d first m x e can).sink in (joined_below n first x s.0 net s.1).0

pub turn_keeps : (n d : ℕ) (first : List (ℕ × ℕ)) → IsNet n first → (m : Moment) → IsLawfulAt n d first m → (x k : ℕ)
    → CanTurn n d m x → IsLawfulAt n d first (after_reply m x (Turned k))
turn_keeps n d first net m at x k can =
    let can' = can_turn-links_at n d first m x at.links can in
    record {
      links = ap (turn x) at.links ∙ turn-links_at n d first net m.counts at.lawful x can';
      lawful =
          turn_lawful n d first net m.counts at.lawful x can';
    }

reply_keeps : (n d : ℕ) (first : List (ℕ × ℕ)) → IsNet n first → (m : Moment) → IsLawfulAt n d first m
    → (x : ℕ) (r : Reply)
    → IsLegalReply n d m x r → IsLawfulAt n d first (after_reply m x r)
reply_keeps n d first net m at x (Turned k) legal = turn_keeps n d first net m at x k legal.0
reply_keeps n d first net m at x (Held by) legal = at
reply_keeps n d first net m at x (Moved had k) legal = at
reply_keeps n d first net m at x Cut legal = at
reply_keeps n d first net m at x Sink legal = at

pub run_keeps : (n d : ℕ) (first : List (ℕ × ℕ)) → IsNet n first → (m : Moment) → IsLawfulAt n d first m
    → (es : List Entry)
    → IsRun n d m es → IsLawfulAt n d first (after_all m es)
run_keeps n d first net m at [] run = at
run_keeps n d first net m at (e ∷ es) run =
    run_keeps n d first net (after m e) (reply_keeps n d first net m at e.node e.reply run.0.1) es run.1
