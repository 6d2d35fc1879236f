-- Where nothing more happens, each router has a way, and ways lead down.
use Rattle.std.proofs.Common.{All, Bool, IsTrue, None, Option, Some, arith, ap, false, get_or, inl, inr, refl, subst}
use Rattle.std.proofs.Common.{suc, sym, true, zero, ℕ, ⊎_elim, ◌*◌, ◌+◌, ◌^◌, ◌<◌, ◌≡◌, ◌≤◌, ◌⊎◌, ◌∙◌, ◌||◌}
use Rattle.std.specs.List.{Contains, list_any}
use Rattle.std.proofs.Math.Nat.{mul-le-mul_right}
use Rattle.std.proofs.lemmas.Bool.{cases_Bool}
use Rattle.std.proofs.lemmas.Bool.Decides.{nat_tests}
use Rattle.std.proofs.lemmas.List.Elements.{All-contains, Contains-get_or}
use Rattle.std.proofs.lemmas.List.Folds.{Any-from_list_any, list_any_at}
use Rattle.fr_node.specs.declared.link.Link.{Link}
use Rattle.fr_node.specs.declared.node.Node.{Node}
use Rattle.fr_node.specs.declared.own.Own.{Own}
use Rattle.fr_node.specs.Arrivals.{Arrive, IsLinkedTo, IsQuiet, IsStill, IsTold, SendsTo}
use Rattle.fr_node.specs.Histories.{IsHistory}
use Rattle.fr_node.specs.Laws.{PacketsArrive}
use Rattle.fr_node.specs.Links.{has_answered, is_lower, is_way, link_to}
use Rattle.fr_node.specs.Nodes.{lets_in}
use Rattle.fr_node.specs.Policies.{IsBest, IsBestOrNone, IsSink, is_higher, is_up, rises_to}
use Rattle.fr_node.proofs.Best.{best_of_all, by_height}
use Rattle.fr_node.proofs.Linking.{up_leads, up_listed}
use Rattle.fr_node.proofs.Policies.{false_true}

-- a neighbour that was heard, at a link that is no way, is not lower
above : (own : Own) (l : Link) → l.up ≡ true → is_way own l ≡ false → is_lower own l ≡ false
above own l up none = grind (arith, nat_tests)

not_lower : (own : Own) (l : Link) → is_lower own l ≡ false → 0 < l.heard → own.used ≤ l.seen
not_lower own l f heard = grind (arith, nat_tests)

pub lower : (own : Own) (l : Link) → is_way own l ≡ true
    → (l.up ≡ true) × ((l.seen < own.used) ⊎ ((l.seen ≡ own.used) × (l.neighbour < own.me)))
lower own l t = grind (arith, nat_tests)

one_more : (a k : ℕ) → (a + 1) * k ≡ a * k + k
one_more a k = grind arith

pub up_linked : (n : Node) (w : ℕ) → (link_to n.links.items w).up ≡ true → IsLinkedTo n w
up_linked n w up = (
  link_to n.links.items w,
  up_listed n.links.items w up,
  up,
  up_leads n.links.items w up,
)

-- a neighbour that has acknowledged the last announcement is let in
pub answered : (own : Own) (l : Link) → own.used_since ≤ own.number → l.acked ≡ own.number → has_answered own l ≡ true
answered own l since acked = grind (arith, nat_tests)

lets : (n : Node) (w : ℕ) → (link_to n.links.items w).up ≡ true → has_answered n.own (link_to n.links.items w) ≡ true
    → IsTrue (lets_in n w)
lets n w up has = rw up (rw has (or_true n.gateway))
  where
    or_true : (b : Bool) → IsTrue (b || true)
    or_true b = grind (arith, nat_tests)

-- what holds of a network in which all messages have arrived
pub record AreTold (routers : ℕ) (node : ℕ → Node) : Type 0 where
  pub me : (x : ℕ) → x < routers → (node x).own.me ≡ x
  pub announced : (x : ℕ) → x < routers → (h : ℕ → ℕ) × IsHistory (node x).own h
  pub told : (x : ℕ) (l : Link) → x < routers → Contains (node x).links.items l → l.up ≡ true → IsTold routers node x l

-- a sink, with a link on which its greatest height was heard
pub record IsHighSink (n : Node) (l : Link) : Type 0 where
  pub sink : IsSink n.own n.links.items
  pub highest : IsBest is_up is_higher n.links.items l
  pub above : n.own.used ≤ l.seen

module _ (routers : ℕ) (node : ℕ → Node) (all : AreTold routers node) (x : ℕ) (within : x < routers) where
  -- a router without ways is a sink
  is_sink : (l : Link) → IsBest is_up is_higher (node x).links.items l
      → All (λ k. is_way (node x).own k ≡ false) (node x).links.items → IsHighSink (node x) l
  is_sink l at none = record {
    sink = λ k d h up. let here = Contains-get_or (node x).links.items k d h in (
      (all.told x (get_or (node x).links.items k d) within here up).heard,
      above (node x).own (get_or (node x).links.items k d) up (none k d h),
    );
    highest = at;
    above = not_lower (node x).own l (above (node x).own l at.good
        (All-contains (λ k. is_way (node x).own k ≡ false) (node x).links.items l none at.listed))
        (all.told x l within at.listed at.good).heard;
  }

  pub way_or_sink : (w : ℕ) → IsLinkedTo (node x) w
      → ((v : ℕ) × SendsTo (node x) v) ⊎ ((l : Link) × IsHighSink (node x) l)
  way_or_sink w linked = ⊎_elim some (λ f. inr (best f (best_of_all is_up is_higher by_height (node x).links.items)))
      (cases_Bool (list_any (is_way (node x).own) (node x).links.items))
    where
      some : list_any (is_way (node x).own) (node x).links.items ≡ true
          → ((v : ℕ) × SendsTo (node x) v) ⊎ ((l : Link) × IsHighSink (node x) l)
      some t = let a = Any-from_list_any (is_way (node x).own) (node x).links.items t in
          inl (a.1.neighbour, (a.1, (a.0, a.2, a.3), a.4, refl))

      no_ways : list_any (is_way (node x).own) (node x).links.items ≡ false
          → All (λ k. is_way (node x).own k ≡ false) (node x).links.items
      no_ways f k d h = ⊎_elim
          (λ t. absurd (false_true _ f (list_any_at (is_way (node x).own) (node x).links.items k d h t)))
          (λ no. no) (cases_Bool (is_way (node x).own (get_or (node x).links.items k d)))

      best : list_any (is_way (node x).own) (node x).links.items ≡ false
          → (r : Option Link) × IsBestOrNone is_up is_higher (node x).links.items r
          → (l : Link) × IsHighSink (node x) l
      best f (None, down) = absurd (false_true _ (All-contains (λ l. is_up l ≡ false) (node x).links.items linked.0
          down linked.1) linked.2)
      best f (Some l, at) = (l, is_sink l at (no_ways f))

  -- a router lets in packets from each neighbour at a link that is up
  pub gate : (w : ℕ) → (link_to (node x).links.items w).up ≡ true → IsTrue (lets_in (node x) w)
  gate w up = let listed = up_listed (node x).links.items w up in
      lets (node x) w up (answered (node x).own (link_to (node x).links.items w) (all.announced x within).1.ends.0
      (all.told x (link_to (node x).links.items w) within listed up).acked)

  -- the neighbour at a way is a router with a link that is up, and it is lower
  pub leads : (w : ℕ) → SendsTo (node x) w → (w < routers) × ((link_to (node w).links.items x).up ≡ true)
      × ((node w).own.used * routers + w < (node x).own.used * routers + x)
  leads w (l, listed, way, to) = subst (λ v. (v < routers) × ((link_to (node v).links.items x).up ≡ true)
      × ((node v).own.used * routers + v < (node x).own.used * routers + x)) to
      (told.within, told.linked, ⊎_elim less even is.1)
    where
      is : (l.up ≡ true) × ((l.seen < (node x).own.used) ⊎ ((l.seen ≡ (node x).own.used)
          × (l.neighbour < (node x).own.me)))
      is = lower (node x).own l way

      told : IsTold routers node x l
      told = all.told x l within listed is.0

      less : l.seen < (node x).own.used
          → (node l.neighbour).own.used * routers + l.neighbour < (node x).own.used * routers + x
      less h = let at_most : (node l.neighbour).own.used + 1 ≤ (node x).own.used = omega (arith, h, told.seen) in
          omega (arith, mul-le-mul_right routers at_most, told.within, one_more (node l.neighbour).own.used routers)

      even : (l.seen ≡ (node x).own.used) × (l.neighbour < (node x).own.me)
          → (node l.neighbour).own.used * routers + l.neighbour < (node x).own.used * routers + x
      even h = omega (arith, h.1, all.me x within, ap (λ (u : ℕ). u * routers) (sym told.seen ∙ h.0))

-- if each member of some routers is a gateway or has a way, and ways of members lead to members
module _ (routers : ℕ) (node : ℕ → Node) (all : AreTold routers node) (Member : ℕ → Type 0)
    (goes : (x : ℕ) → x < routers → Member x → IsTrue (node x).gateway ⊎ ((v : ℕ) × SendsTo (node x) v))
    (on : (x w : ℕ) → x < routers → Member x → SendsTo (node x) w → Member w) where
  to_gateway : (k x : ℕ) → x < routers → Member x → (node x).own.used * routers + x < k → Arrive node k x
  to_gateway zero x within some less = absurd (omega (arith, less))
  to_gateway (suc k) x within some less = ⊎_elim
      (λ g. inl g)
      (λ way. inr (
        way,
        λ v sends. let to = leads routers node all x within v sends in (
          gate routers node all v to.0 x to.1,
          to_gateway k v to.0 (on x v within some sends) (omega (arith, to.2, less)),
        ),
      ))
      (goes x within some)

  pub arrive : (x : ℕ) → x < routers → Member x → (k : ℕ) × Arrive node k x
  arrive x within some = let k = (node x).own.used * routers + x in
      (k + 1, to_gateway (k + 1) x within some (omega arith))

-- a still router without ways would rise
still_no_sink : (n : Node) (l : Link) → IsStill n → IsHighSink n l → l.seen + 1 < 2 ^ 64 → ⊥
still_no_sink n l still high fits = omega (
  arith,
  still.may.settled,
  high.above,
  (still.keeps.stays still.may (l.seen + 1)).1 (subst (λ rise. rises_to rise n (l.seen + 1)) (sym still.full)
      (record { sink = high.sink; highest = (l, high.highest, refl); fits = fits })),
)

module _ (routers : ℕ) (node : ℕ → Node) (quiet : IsQuiet routers node) where
  are_told : AreTold routers node
  are_told = record { me = quiet.me; announced = quiet.announced; told = quiet.told }

  pub has_way : (x : ℕ) → x < routers → IsStill (node x) → (w : ℕ) → IsLinkedTo (node x) w
      → (v : ℕ) × SendsTo (node x) v
  has_way x within still w linked = ⊎_elim
      (λ way. way)
      (λ sink. absurd (still_no_sink (node x) sink.0 still sink.1 (room sink.0 (quiet.told x sink.0 within
      sink.1.highest.listed sink.1.highest.good))))
      (way_or_sink routers node are_told x within w linked)
    where
      room : (l : Link) → IsTold routers node x l → l.seen + 1 < 2 ^ 64
      room l told = omega (arith, told.seen, quiet.room l.neighbour told.within)

pub packets_arrive : PacketsArrive
packets_arrive routers node quiet x w within linked = arrive routers node (are_told routers node quiet)
    (λ y. (v : ℕ) × IsLinkedTo (node y) v)
    (λ y inside links. ⊎_elim (λ g. inl g) (λ still. inr (has_way routers node quiet y inside still links.0 links.1))
    (quiet.still y inside))
    (λ y v inside _ sends. (
      y,
      up_linked (node v) y (leads routers node (are_told routers node quiet) y inside v sends).1,
    ))
    x within (w, linked)
