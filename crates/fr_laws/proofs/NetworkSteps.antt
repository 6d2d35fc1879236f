-- One step of a network of routers: it turns a sink, or leaves the links as they are.
use Rattle.std.proofs.Common.{Contains, List, ap, arith, eq-eqb, get_or, inl, inr, length, ne_eqb, refl, subst, sym}
use Rattle.std.proofs.Common.{true, ℕ, ⊎_elim, ◌<◌, ◌∙◌, ◌≡◌, ◌≤◌, ◌≢◌, ◌⊎◌, ◌↔◌}
use Rattle.std.proofs.lemmas.Bool.{cases_eq, cases_lt, cond-false, cond-true}
use Rattle.std.proofs.lemmas.List.{get_or-map, length-map}
use Rattle.std.proofs.lemmas.List.Elements.{Contains-get_or}
use Rattle.fr_graph.specs.Links.{Joins, Points}
use Rattle.fr_graph.specs.Turn.{IsSink, turn, turned_link}
use Rattle.fr_node.proofs.Announcing.{HasKept, HasRaised}
use Rattle.fr_node.proofs.Arrivals.{up_linked}
use Rattle.fr_node.proofs.Linking.{up_leads, up_listed}
use Rattle.fr_node.specs.Arrivals.{IsLinkedTo}
use Rattle.fr_node.specs.Histories.{IsHistory}
use Rattle.fr_node.specs.Links.{link_to}
use Rattle.fr_node.specs.Nodes.{router}
use Rattle.fr_node.specs.Routers.{GoesOn, IsBelow, IsFrom}
use Rattle.fr_node.specs.declared.link.Link.{Link}
use Rattle.fr_node.specs.declared.message.Message.{Message}
use Rattle.fr_node.specs.declared.node.Node.{Node}
use Rattle.fr_laws.proofs.Announcing.{router_kept}
use Rattle.fr_laws.proofs.ListedOnce.{linked_up, the_link}
use Rattle.fr_laws.specs.Announcements.{AreLinks, Configuration, IsLower, IsNetwork, IsNews, IsRouter, IsStep}
use Rattle.fr_laws.specs.Announcements.{MayHear, height}

-- Links after a turn

-- where a link after a turn of x comes from
abbrev ComesFromTurn : ℕ → List (ℕ × ℕ) → ℕ → ℕ → Type 0
ComesFromTurn x links u v = ((u ≡ x) × Points links v x) ⊎ ((v ≢ x) × Points links u v)

turned_there : (x : ℕ) (l : ℕ × ℕ) → l.1 ≡ x → turned_link x l ≡ (x, l.0)
turned_there x l e = cond-true _ _ _ (eq-eqb l.1 x e)

turned_other : (x : ℕ) (l : ℕ × ℕ) → l.1 ≢ x → turned_link x l ≡ l
turned_other x l other = cond-false _ _ _ (ne_eqb l.1 x other)

from_turn : (x : ℕ) (links : List (ℕ × ℕ)) (u v : ℕ) → Points (turn x links) u v → ComesFromTurn x links u v
from_turn x links u v (k, within, is) = ⊎_elim
    (λ e. let p : ◌≡◌ {A = ℕ × ℕ} (x, l.0) (u, v) = sym (turned_there x l e) ∙ comes in
    inl (
      sym (ap (λ (z : ℕ × ℕ). z.0) p),
      subst (λ (z : ℕ). Points links z x) (ap (λ (z : ℕ × ℕ). z.1) p)
          (subst (Points links l.0) e there),
    ))
    (λ other. let p : l ≡ (u, v) = sym (turned_other x l other) ∙ comes in
    inr (λ e. other (ap (λ (z : ℕ × ℕ). z.1) p ∙ e), subst (Contains links) p there))
    (cases_eq l.1 x)
  where
    l : ℕ × ℕ
    l = get_or links k (0, 0)

    short : k < length links
    short = omega (arith, within, length-map links (turned_link x))

    there : Contains links (get_or links k (0, 0))
    there = Contains-get_or links k (0, 0) short

    comes : turned_link x (get_or links k (0, 0)) ≡ (u, v)
    comes = sym (get_or-map (turned_link x) links k (0, 0) (u, v) short) ∙ is

into_turn : (x : ℕ) (links : List (ℕ × ℕ)) (l : ℕ × ℕ) → Contains links l → Contains (turn x links) (turned_link x l)
into_turn x links l (k, within, is) = (
  k,
  omega (arith, within, length-map links (turned_link x)),
  get_or-map (turned_link x) links k l (turned_link x l) within ∙ ap (turned_link x) is,
)

into_turned : (x : ℕ) (links : List (ℕ × ℕ)) (u : ℕ) → Points links u x → Points (turn x links) x u
into_turned x links u h = subst (Contains (turn x links)) (turned_there x (u, x) refl) (into_turn x links (u, x) h)

into_other : (x : ℕ) (links : List (ℕ × ℕ)) (u v : ℕ) → v ≢ x → Points links u v → Points (turn x links) u v
into_other x links u v other h = subst (Contains (turn x links)) (turned_other x (u, v) other)
    (into_turn x links (u, v) h)

joins_turned : (x : ℕ) (links : List (ℕ × ℕ)) (u v : ℕ) → Points links u v → Joins (turn x links) u v
joins_turned x links u v h = ⊎_elim
    (λ e. inr (subst (λ (z : ℕ). Points (turn x links) z u) (sym e)
    (into_turned x links u (subst (Points links u) e h))))
    (λ other. inl (into_other x links u v other h))
    (cases_eq v x)

joined_before : (x : ℕ) (links : List (ℕ × ℕ)) (u v : ℕ) → Points (turn x links) u v → Joins links u v
joined_before x links u v h = ⊎_elim (λ t. inr (subst (Points links v) (sym t.0) t.1)) (λ t. inl t.1)
    (from_turn x links u v h)

-- a turn keeps which nodes are connected
same_joined : (x : ℕ) (links : List (ℕ × ℕ)) (u v : ℕ) → Joins links u v ↔ Joins (turn x links) u v
same_joined x links u v = (
  λ j. ⊎_elim (joins_turned x links u v) (λ h. ⊎_elim (λ a. inr a) (λ a. inl a) (joins_turned x links v u h)) j,
  λ j. ⊎_elim (joined_before x links u v)
      (λ h. ⊎_elim (λ a. inr a) (λ a. inl a) (joined_before x links v u h)) j,
)

-- Heights

not_itself : (h x : ℕ) → ¬ IsBelow h x h x
not_itself h x (inl less) = omega (arith, less)
not_itself h x (inr even) = omega (arith, even.1)

pub not_both : (node : ℕ → Node) (x w : ℕ) → IsLower node x w → IsLower node w x → ⊥
not_both node x w (inl a) (inl b) = omega (arith, a, b)
not_both node x w (inl a) (inr b) = omega (arith, a, b.0)
not_both node x w (inr a) (inl b) = omega (arith, a.0, b)
not_both node x w (inr a) (inr b) = omega (arith, a.1, b.1)

-- of two routers that are not below each other in one way, one is below in the other
above_other : (h w k x : ℕ) → w ≢ x → ¬ IsBelow h w k x → IsBelow k x h w
above_other h w k x apart out = ⊎_elim (λ less. inl less) (λ high. ⊎_elim (λ less. absurd (out (inl less)))
    (λ low. let even : h ≡ k = omega (arith, high, low) in inr (
      sym even,
      ⊎_elim (λ less. less)
          (λ up. ⊎_elim (λ less. absurd (out (inr (even, less)))) (λ down. absurd (apart (omega (arith, up, down))))
          (cases_lt w x)) (cases_lt x w),
    ))
    (cases_lt h k)) (cases_lt k h)

still_heard : (node later : ℕ → Node) (y w h : ℕ) → height later y ≡ height node y → height later w ≡ height node w
    → MayHear node y w h → MayHear later y w h
still_heard node later y w h ey ew (inl is) = inl (is ∙ sym ew)
still_heard node later y w h ey ew (inr (inl less)) = inr (inl (omega (arith, less, ey)))
still_heard node later y w h ey ew (inr (inr even)) = inr (inr (even.0 ∙ sym ey, even.1))

still_lower : (node later : ℕ → Node) (w x : ℕ) → height later w ≡ height node w → height later x ≡ height node x
    → IsLower node w x → IsLower later w x
still_lower node later w x ew ex (inl less) = inl (omega (arith, less, ew, ex))
still_lower node later w x ew ex (inr even) = inr (ew ∙ even.0 ∙ sym ex, even.1)

-- One step

module _ (n d : ℕ) (links : List (ℕ × ℕ)) (s t : Configuration) (x : ℕ) (inside : x < n)
    (is : IsNetwork n d links s) (step : IsStep x s t) where
  me : IsRouter d x (s.node x)
  me = is.router x inside

  later : IsRouter d x (t.node x)
  later = router_kept d x (s.node x) (t.node x) me step.messages step.call

  -- what holds of x after the step, and of each other router before it, holds of each router after it
  at_each : (P : ℕ → Node → Type 0) → P x (t.node x) → ((y : ℕ) → y < n → P y (s.node y))
      → (y : ℕ) → y < n → P y (t.node y)
  at_each P here there y l = ⊎_elim (λ e. subst (λ (z : ℕ). P z (t.node z)) (sym e) here)
      (λ other. subst (P y) (sym (step.others y other)) (there y l)) (cases_eq y x)

  same_height : (y : ℕ) → y ≢ x → height t.node y ≡ height s.node y
  same_height y other = ap (λ (a : Node). a.own.announced) (step.others y other)

  same_linked : (y w : ℕ) → y < n → IsLinkedTo (t.node y) w ↔ IsLinkedTo (s.node y) w
  same_linked y w = at_each (λ z a. IsLinkedTo a w ↔ IsLinkedTo (s.node z) w) (
    λ h. up_linked (s.node x) w (sym (step.call.up w) ∙ linked_up (t.node x) w later.once h),
    λ h. up_linked (t.node x) w (step.call.up w ∙ linked_up (s.node x) w me.once h),
  )
      (λ z _. (λ h. h, λ h. h)) y

  joined : (y w : ℕ) → y < n → IsLinkedTo (t.node y) w → Joins links y w
  joined y w l h = (is.linked.up y w l).0 ((same_linked y w l).0 h)

  took : (k : ℕ → ℕ) × IsHistory (t.node x).own k × GoesOn step.messages (s.node x).own.me
      (router (s.node x) me.announced.0) (router (t.node x) k)
  took = step.call.step.goes_on me.announced.0 me.announced.1

  -- what is news after the step was news before it
  still_news : (m : Message) → IsNews (t.node x) m → IsNews (s.node x) m
  still_news m news = record {
    start = omega (arith, news.start, (took.2.start m.from).0);
    echo = news.echo ∙ took.2.boot;
    later = later;
  }
    where
      later : (link_to (s.node x).links.items m.from).peer ≡ m.boot
          → (link_to (s.node x).links.items m.from).heard ≤ m.number
      later same = ⊎_elim
          (λ h. omega (arith, h.1, news.later now))
          (⊎_elim (λ h. absurd (omega (arith, h.0, news.start, same)))
          (λ h. omega (arith, h.4, h.6 (now ∙ sym same), news.later now)))
          (took.2.height m.from)
        where
          now : (link_to (t.node x).links.items m.from).peer ≡ m.boot
          now = omega (arith, news.start, same, (took.2.start m.from).0)

  -- x may hear what it has heard after the step
  heard_now : (l : Link) → Contains (t.node x).links.items l → l.up ≡ true → 0 < l.heard
      → MayHear s.node x l.neighbour l.seen
  heard_now l listed up some = ⊎_elim (λ h. kept h.1 h.2)
      (⊎_elim (λ h. forgot h.1) (λ h. told h.0 h.1 (news h.0 h.1 h.2 h.3 h.6) h.5))
      (took.2.height l.neighbour)
    where
      now : link_to (t.node x).links.items l.neighbour ≡ l
      now = the_link (t.node x).links.items l later.once listed

      was_up : (link_to (s.node x).links.items l.neighbour).up ≡ true
      was_up = sym (step.call.up l.neighbour) ∙ ap (λ (k : Link). k.up) now ∙ up

      kept : (link_to (t.node x).links.items l.neighbour).heard ≡ (link_to (s.node x).links.items l.neighbour).heard
          → (link_to (t.node x).links.items l.neighbour).seen ≡ (link_to (s.node x).links.items l.neighbour).seen
          → MayHear s.node x l.neighbour l.seen
      kept heard seen = subst (MayHear s.node x l.neighbour) (sym seen ∙ ap (λ (k : Link). k.seen) now)
          (subst (λ (w : ℕ). MayHear s.node x w (link_to (s.node x).links.items l.neighbour).seen)
          (up_leads (s.node x).links.items l.neighbour was_up)
          (is.heard x (link_to (s.node x).links.items l.neighbour) inside
          (up_listed (s.node x).links.items l.neighbour was_up) was_up
          (omega (arith, some, heard, ap (λ (k : Link). k.heard) now))))

      forgot : (link_to (t.node x).links.items l.neighbour).heard ≡ 0 → MayHear s.node x l.neighbour l.seen
      forgot none = absurd (omega (arith, none, ap (λ (k : Link). k.heard) now, some))

      news : (m : Message) → IsFrom step.messages (s.node x).own.me l.neighbour m → m.echo ≡ (s.node x).own.boot
          → (link_to (t.node x).links.items l.neighbour).peer ≡ m.boot
          → ((link_to (t.node x).links.items l.neighbour).peer ≡ (link_to (s.node x).links.items l.neighbour).peer
          → (link_to (s.node x).links.items l.neighbour).heard ≤ m.number) → IsNews (s.node x) m
      news m from echo boot order = record {
        start = omega (arith, peer, (took.2.start l.neighbour).0, boot);
        echo = echo;
        later = λ same. omega (
          arith,
          order (boot ∙ sym same ∙ peer),
          ap (λ (w : ℕ). (link_to (s.node x).links.items w).heard) from.from,
        );
      }
        where
          peer : (link_to (s.node x).links.items m.from).peer ≡ (link_to (s.node x).links.items l.neighbour).peer
          peer = ap (λ (w : ℕ). (link_to (s.node x).links.items w).peer) from.from

      told : (m : Message) → IsFrom step.messages (s.node x).own.me l.neighbour m → IsNews (s.node x) m
          → (link_to (t.node x).links.items l.neighbour).seen ≡ m.height → MayHear s.node x l.neighbour l.seen
      told m from news seen = subst (MayHear s.node x l.neighbour) (sym seen ∙ ap (λ (k : Link). k.seen) now)
          (subst (λ (w : ℕ). MayHear s.node x w m.height) from.from
          (subst (λ (y : ℕ). MayHear s.node y m.from m.height) to_x
          (is.said m (step.sent m from.said) (omega (arith, inside, to_x))
          (subst (λ (y : ℕ). IsLinkedTo (s.node y) m.from) (sym to_x)
          (subst (IsLinkedTo (s.node x)) (sym from.from) (up_linked (s.node x) l.neighbour was_up)))
          (subst (λ (y : ℕ). IsNews (s.node y) m) (sym to_x) news))))
        where
          to_x : m.to ≡ x
          to_x = from.to ∙ me.me

  -- the network after the step, with other links
  module _ (after : List (ℕ × ℕ)) (linked : AreLinks n t.node after)
      (carry : (y w h : ℕ) → y < n → Joins links y w → MayHear s.node y w h → MayHear t.node y w h) where
    network_after : IsNetwork n d after t
    network_after = record {
      router = at_each (IsRouter d) later is.router;
      linked = linked;
      heard = λ y l inside listed up some. carry y l.neighbour l.seen inside
          (joined y l.neighbour inside (l, listed, up, refl))
          (at_each (λ z a. (k : Link) → Contains a.links.items k → k.up ≡ true → 0 < k.heard
          → MayHear s.node z k.neighbour k.seen) heard_now (λ z l k. is.heard z k l) y inside l listed up some);
      said = λ m there inside h news. carry m.to m.from m.height inside (joined m.to m.from inside h)
          (⊎_elim
          (λ old. is.said m old inside ((same_linked m.to m.from inside).0 h)
          (at_each (λ z a. IsNews a m → IsNews (s.node z) m) (still_news m) (λ z _ k. k) m.to inside news))
          (λ new. inl new.height)
          (step.said m there));
    }

  -- Without an announcement the links stay
  module _ (kept : HasKept (s.node x) (t.node x)) where
    height_kept : (y : ℕ) → height t.node y ≡ height s.node y
    height_kept y = ⊎_elim
        (λ e. subst (λ (z : ℕ). height t.node z ≡ height s.node z) (sym e) kept.announced) (same_height y)
        (cases_eq y x)

    pub stays : IsNetwork n d links t
    stays = network_after links
        (record {
          up = λ y w l. (
            λ h. joined y w l h,
            λ j. (same_linked y w l).1 ((is.linked.up y w l).1 j),
          );
          down = λ y w h. still_lower s.node t.node w y (height_kept w) (height_kept y) (is.linked.down y w h);
        })
        (λ y w h l j. still_heard s.node t.node y w h (height_kept y) (height_kept w))

  -- An announcement turns its router, which is a sink
  module _ (raised : HasRaised (s.node x) (t.node x)) where
    -- what x has heard of its neighbours is their last height
    seen_now : (l : Link) → Contains (t.node x).links.items l → l.up ≡ true → l.seen ≡ height s.node l.neighbour
    seen_now l listed up = ⊎_elim (λ e. e)
        (λ below. absurd (raised.not_lower l listed up
        (subst (IsBelow l.seen l.neighbour (height s.node x)) (sym me.me) below)))
        (heard_now l listed up (raised.heard l listed up))

    not_self : ¬ Joins links x x
    not_self j = not_itself (height s.node x) x (is.linked.down x x (⊎_elim (λ a. a) (λ a. a) j))

    -- each neighbour w is above x, and no longer after the announcement
    record IsPassed (w : ℕ) : Type 0 where
      apart : w ≢ x
      before : IsLower s.node x w
      now : height s.node w < height t.node x

    passed : (w : ℕ) → Joins links x w → IsPassed w
    passed w j = by ((same_linked x w inside).1 ((is.linked.up x w inside).1 j))
      where
        apart : w ≢ x
        apart e = not_self (subst (Joins links x) e j)

        by : IsLinkedTo (t.node x) w → IsPassed w
        by (l, listed, up, leads) = let seen = seen_now l listed up ∙ ap (height s.node) leads in record {
          apart = apart;
          before = above_other (height s.node w) w (height s.node x) x apart
              (λ below. raised.not_lower l listed up (subst (IsBelow l.seen l.neighbour (height s.node x)) (sym me.me)
              (subst (λ (z : ℕ). IsBelow l.seen z (height s.node x) x) (sym leads)
              (subst (λ (h : ℕ). IsBelow h w (height s.node x) x) (sym seen) below))));
          now = omega (arith, seen, raised.above l listed up);
        }

    none_out : (w : ℕ) → ¬ Points links x w
    none_out w h = not_both s.node x w (passed w (inl h)).before (is.linked.down x w h)

    pub is_sink : IsSink links x
    is_sink = (
      let l = raised.some in ⊎_elim (λ out. absurd (none_out l.0.neighbour out)) (λ into. (l.0.neighbour, into))
          (joined x l.0.neighbour inside (l.0, l.1, l.2, refl)),
      none_out,
    )

    links_turned : AreLinks n t.node (turn x links)
    links_turned = record {
      up = λ y w l. (
        λ h. (same_joined x links y w).0 (joined y w l h),
        λ j. (same_linked y w l).1 ((is.linked.up y w l).1 ((same_joined x links y w).1 j)),
      );
      down = λ y w h. ⊎_elim
          (λ back. down_from_x y w back.0 back.1)
          (λ same. ⊎_elim (λ e. absurd (none_out w (subst (λ (z : ℕ). Points links z w) e same.1)))
          (λ other. still_lower s.node t.node w y (same_height w same.0) (same_height y other)
          (is.linked.down y w same.1))
          (cases_eq y x))
          (from_turn x links y w h);
    }
      where
        down_from_x : (y w : ℕ) → y ≡ x → Points links w x → IsLower t.node w y
        down_from_x y w e h = subst (IsLower t.node w) (sym e)
            (let p = passed w (inr h) in inl (omega (arith, p.now, same_height w p.apart)))

    carry : (y w h : ℕ) → y < n → Joins links y w → MayHear s.node y w h → MayHear t.node y w h
    carry y w h l j may = ⊎_elim
        (λ ex. ⊎_elim
        (λ ew. absurd (not_self (subst (λ (z : ℕ). Joins links z x) ex (subst (Joins links y) ew j))))
        (λ other. subst (λ (z : ℕ). MayHear t.node z w h) (sym ex)
        (to_x w h other (subst (λ (z : ℕ). MayHear s.node z w h) ex may)))
        (cases_eq w x))
        (λ apart. ⊎_elim
        (λ ew. subst (λ (z : ℕ). MayHear t.node y z h) (sym ew)
        (from_x y h apart (subst (Joins links y) ew j) (subst (λ (z : ℕ). MayHear s.node y z h) ew may)))
        (λ other. still_heard s.node t.node y w h (same_height y apart) (same_height w other) may)
        (cases_eq w x))
        (cases_eq y x)
      where
        to_x : (w h : ℕ) → w ≢ x → MayHear s.node x w h → MayHear t.node x w h
        to_x w h other (inl e) = inl (e ∙ sym (same_height w other))
        to_x w h other (inr (inl less)) = inr (inl (omega (arith, less, raised.greater)))
        to_x w h other (inr (inr even)) = inr (inl (omega (arith, even.0, raised.greater)))

        from_x : (y h : ℕ) → y ≢ x → Joins links y x → MayHear s.node y x h → MayHear t.node y x h
        from_x y h apart j (inl e) = inr (lower_now (passed y (⊎_elim (λ a. inr a) (λ a. inl a) j)).before)
          where
            lower_now : IsLower s.node x y → IsBelow h x (height t.node y) y
            lower_now (inl less) = inl (omega (arith, less, e, same_height y apart))
            lower_now (inr even) = inr (e ∙ even.0 ∙ sym (same_height y apart), even.1)
        from_x y h apart j (inr (inl less)) = inr (inl (omega (arith, less, same_height y apart)))
        from_x y h apart j (inr (inr even)) = inr (inr (even.0 ∙ sym (same_height y apart), even.1))

    pub turns : IsNetwork n d (turn x links) t
    turns = network_after (turn x links) links_turned carry
