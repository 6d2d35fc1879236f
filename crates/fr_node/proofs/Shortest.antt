-- Where nothing more happens, routes have the least costs. A router that may not fall is at its best offer or below, and
-- one that may not rise is at its best offer or above.
use Rattle.std.proofs.Common.{IsTrue, List, MatchOption, None, Option, Some, [], arith, get_or, inl, inr}
use Rattle.std.proofs.Common.{min, refl, subst, suc, sym, true, zero, ℕ, ⊎_elim, ◌*◌, ◌+◌, ◌<◌, ◌∷◌, ◌≡◌}
use Rattle.std.proofs.Common.{◌≤◌, ◌⊎◌}
use Rattle.std.specs.List.{Contains}
use Rattle.std.proofs.lemmas.Bool.{cases_lt}
use Rattle.std.proofs.lemmas.Bool.Decides.{nat_tests}
use Rattle.std.proofs.lemmas.List.Elements.{Contains-get_or}
use Rattle.fr_node.specs.declared.link.Link.{Link}
use Rattle.fr_node.specs.declared.message.TheConstants.{CUT_OFF}
use Rattle.fr_node.specs.declared.node.Node.{Node}
use Rattle.fr_node.specs.declared.own.Own.{Own}
use Rattle.fr_node.specs.declared.policy.Rise.{Rise}
use Rattle.fr_node.specs.Arrivals.{Arrive, IsTold, SendsTo}
use Rattle.fr_node.specs.Distances.{IsDistance, IsLeast, IsNearest, NonePasses, distance_over}
use Rattle.fr_node.specs.Links.{has_answered, is_offer, is_way, offer_of}
use Rattle.fr_node.specs.Nodes.{lets_in}
use Rattle.fr_node.specs.Policies.{falls_to, rises_to}
use Rattle.fr_node.specs.Shortest.{ArriveNearest, IsGateway, IsNearestWay, IsPath, IsQuietBelow, IsRoute}
use Rattle.fr_node.specs.Shortest.{IsServed, IsStillBelow, IsWithinCeilings, LostRoutersKnow, RoutesAreShortest}
use Rattle.fr_node.specs.Shortest.{cost_of}
use Rattle.fr_node.proofs.Arrivals.{AreTold, answered, arrive, gate, leads, lower}
use Rattle.fr_node.proofs.Least.{distance_once, least_link, least_listed, least_or_none, none_listed}
use Rattle.fr_node.proofs.Policies.{false_true}

-- One still router, whose gates are all open

module _ (ceiling : ℕ) (n : Node) (still : IsStillBelow ceiling n)
    (opens : (l : Link) → Contains n.links.items l → l.up ≡ true → has_answered n.own l ≡ true) where
  rests : (v : ℕ) → ¬ falls_to n.policy.rise n v
  rests v = (still.keeps.stays still.may v).0

  -- its best offer is not below it
  no_lower : (v : ℕ) → IsLeast (is_offer ceiling) offer_of n.links.items v → n.own.used ≤ v
  no_lower v best = ⊎_elim
      (λ less. absurd (rests v (subst (λ (rise : Rise). falls_to rise n v) (sym still.rise) (record {
        answered = λ k d h up. opens (get_or n.links.items k d) (Contains-get_or n.links.items k d h) up;
        best = best;
        lower = less;
      }))))
      (λ most. most)
      (cases_lt v n.own.used)

  -- it is at the top, if all offers are above it
  at_top : ((l : Link) → Contains n.links.items l → is_offer ceiling l ≡ true → n.own.used < offer_of l)
      → CUT_OFF ≤ n.own.used
  at_top above = omega (
    arith,
    still.may.settled,
    (still.keeps.stays still.may CUT_OFF).1 (subst (λ (rise : Rise). rises_to rise n CUT_OFF) (sym still.rise)
        (record {
          none = λ k d h passes. omega (
            arith,
            still.may.settled,
            above (get_or n.links.items k d) (Contains-get_or n.links.items k d h) passes,
          );
          top = refl;
        })),
  )

  -- so no offer is below it
  pub no_better : (l : Link) → Contains n.links.items l → is_offer ceiling l ≡ true → n.own.used ≤ offer_of l
  no_better l listed passes = let found = least_or_none (is_offer ceiling) offer_of n.links.items in by found.0 found.1
    where
      by : (r : Option ℕ) → MatchOption r (NonePasses (is_offer ceiling) n.links.items)
          (IsLeast (is_offer ceiling) offer_of n.links.items) → n.own.used ≤ offer_of l
      by None none = absurd
          (false_true _ (none_listed (is_offer ceiling) offer_of n.links.items l none listed) passes)
      by (Some v) best = omega (
        arith,
        no_lower v best,
        least_listed (is_offer ceiling) offer_of n.links.items v l best listed passes,
      )

  -- and below the top one is equal to its height
  pub has_offer : n.own.used < CUT_OFF → (l : Link) × Contains n.links.items l × (is_offer ceiling l ≡ true)
      × (offer_of l ≡ n.own.used)
  has_offer below = let found = least_or_none (is_offer ceiling) offer_of n.links.items in by found.0 found.1
    where
      by : (r : Option ℕ) → MatchOption r (NonePasses (is_offer ceiling) n.links.items)
          (IsLeast (is_offer ceiling) offer_of n.links.items)
          → (l : Link) × Contains n.links.items l × (is_offer ceiling l ≡ true) × (offer_of l ≡ n.own.used)
      by None none = absurd (omega (
        arith,
        below,
        at_top (λ l listed passes. absurd
            (false_true _ (none_listed (is_offer ceiling) offer_of n.links.items l none listed) passes)),
      ))
      by (Some v) best = let at = least_link (is_offer ceiling) offer_of n.links.items v best in
          (at.0, at.1, at.2, omega (arith, at.3, no_lower v best, most))
        where
          most : v ≤ n.own.used
          most = ⊎_elim
              (λ less. absurd (omega (
                arith,
                below,
                at_top (λ l listed passes. omega
                    (arith, less, least_listed (is_offer ceiling) offer_of n.links.items v l best listed passes)),
              )))
              (λ l. l)
              (cases_lt n.own.used v)

offer_up : (ceiling : ℕ) (l : Link) → is_offer ceiling l ≡ true
    → (l.up ≡ true) × (0 < l.heard) × (l.seen + l.cost < ceiling)
offer_up ceiling l passes = (
  grind (arith, nat_tests, passes),
  grind (arith, nat_tests, passes),
  grind (arith, nat_tests, passes),
)

is_offered : (ceiling : ℕ) (l : Link) → l.up ≡ true → 0 < l.heard → l.seen + l.cost < ceiling
    → is_offer ceiling l ≡ true
is_offered ceiling l up heard below = grind (arith, nat_tests, up, heard, below)

is_lower_way : (own : Own) (l : Link) → l.up ≡ true → 0 < l.heard → l.seen < own.used → is_way own l ≡ true
is_lower_way own l up heard below = grind (arith, nat_tests, up, heard, below)

-- A network

module _ (routers : ℕ) (ceiling : ℕ → ℕ) (node : ℕ → Node) (quiet : IsQuietBelow routers ceiling node) where
  all : AreTold routers node
  all = record { me = quiet.me; announced = quiet.announced; told = quiet.told }

  height : ℕ → ℕ
  height x = (node x).own.used

  rank : ℕ → ℕ
  rank x = (node x).own.used * routers + x

  opens : (x : ℕ) → x < routers → (l : Link) → Contains (node x).links.items l → l.up ≡ true
      → has_answered (node x).own l ≡ true
  opens x within l listed up = answered (node x).own l (quiet.announced x within).1.ends.0
      (quiet.told x l within listed up).acked

  router : (x : ℕ) → IsStillBelow (ceiling x) (node x) → ¬ IsTrue (node x).gateway
  router x still g = false_true _ still.may.forwards g

  gateway : (x : ℕ) → x < routers → IsTrue (node x).gateway → (node x).own.used ≡ 0
  gateway x within g = ⊎_elim
      (λ (is : IsGateway (node x)). is.height)
      (λ (s : IsStillBelow (ceiling x) (node x)). absurd (router x s g))
      (quiet.still x within)

  -- heights are at most the top
  at_most : (x : ℕ) → x < routers → (node x).own.used ≤ CUT_OFF
  at_most x within = ⊎_elim
      (λ (is : IsGateway (node x)). omega (arith, is.height))
      (λ (s : IsStillBelow (ceiling x) (node x)). s.height)
      (quiet.still x within)

  -- the height of a router is no greater than the cost of any route
  no_higher : (x : ℕ) (ls : List Link) → x < routers → IsPath node x ls → IsWithinCeilings ceiling x ls
      → (node x).own.used ≤ cost_of ls
  no_higher x [] within path fits = omega (arith, gateway x within path)
  no_higher x (l ∷ ls) within path fits = higher (no_higher l.neighbour ls told.within path.2 fits.1)
    where
      told : IsTold routers node x l
      told = quiet.told x l within path.0 path.1

      higher : (node l.neighbour).own.used ≤ cost_of ls → (node x).own.used ≤ l.cost + cost_of ls
      higher there = ⊎_elim
          (λ (is : IsGateway (node x)). omega (arith, is.height))
          (λ (still : IsStillBelow (ceiling x) (node x)). omega (
            arith,
            there,
            told.seen,
            no_better (ceiling x) (node x) still (opens x within) l path.0
                (is_offered (ceiling x) l path.1 told.heard (omega (arith, there, told.seen, fits.0))),
          ))
          (quiet.still x within)

  -- below the top, the neighbour at the best offer
  record HasNext (x : ℕ) : Type 0 where
    link : Link
    listed : Contains (node x).links.items link
    up : link.up ≡ true
    heard : 0 < link.heard
    below : link.seen + link.cost < ceiling x
    height : link.seen + link.cost ≡ (node x).own.used
    cost : 1 ≤ link.cost
    told : IsTold routers node x link

  has_next : (x : ℕ) → x < routers → IsStillBelow (ceiling x) (node x) → (node x).own.used < CUT_OFF → HasNext x
  has_next x within still below = by (has_offer (ceiling x) (node x) still (opens x within) below)
    where
      by : (l : Link) × Contains (node x).links.items l × (is_offer (ceiling x) l ≡ true)
          × (offer_of l ≡ (node x).own.used) → HasNext x
      by (l, listed, passes, e) = let is = offer_up (ceiling x) l passes in record {
        link = l;
        listed = listed;
        up = is.0;
        heard = is.1;
        below = is.2;
        height = e;
        cost = quiet.cost x l within listed;
        told = quiet.told x l within listed is.0;
      }

  -- and there is a route of this cost
  RouteOf : ℕ → Type 0
  RouteOf x = (ls : List Link) × IsRoute ceiling node x ls × (cost_of ls ≡ (node x).own.used)

  Routes : ℕ → Type 0
  Routes k = (x : ℕ) → x < routers → (node x).own.used < CUT_OFF → (node x).own.used < k → RouteOf x

  routes_more : (k : ℕ) → Routes k → Routes (suc k)
  unfolding Routes RouteOf
  routes_more k before x within below less = ⊎_elim
      (λ (is : IsGateway (node x)). ([], record { path = is.gateway; within = tt }, sym is.height))
      (λ still. by (has_next x within still below))
      (quiet.still x within)
    where
      by : HasNext x → (ls : List Link) × IsRoute ceiling node x ls × (cost_of ls ≡ (node x).own.used)
      by next = on (before next.link.neighbour next.told.within
          (omega (arith, below, next.height, next.told.seen))
          (omega (arith, less, next.height, next.cost, next.told.seen)))
        where
          on : (ls : List Link) × IsRoute ceiling node next.link.neighbour ls
              × (cost_of ls ≡ (node next.link.neighbour).own.used)
              → (ls : List Link) × IsRoute ceiling node x ls × (cost_of ls ≡ (node x).own.used)
          on (ls, there, e) = (
            next.link ∷ ls,
            record {
              path = (next.listed, next.up, there.path);
              within = (omega (arith, e, next.told.seen, next.below), there.within);
            },
            omega (arith, e, next.told.seen, next.height),
          )

  routes_first : Routes 0
  unfolding Routes
  routes_first x within below less = absurd (omega (arith, less))

  routes : (k : ℕ) → Routes k
  routes zero = routes_first
  routes (suc k) = routes_more k (routes k)

  route : (x : ℕ) → x < routers → (node x).own.used < CUT_OFF → RouteOf x
  unfolding Routes
  route x within below = routes ((node x).own.used + 1) x within below (omega arith)

  -- Distances

  -- a way leads to a lower router
  record HasWay (x : ℕ) (l : Link) : Type 0 where
    up : l.up ≡ true
    told : IsTold routers node x l
    lower : (node l.neighbour).own.used * routers + l.neighbour < (node x).own.used * routers + x
    most : l.seen ≤ (node x).own.used
    distance : IsDistance (node l.neighbour) l.distance

  way : (x : ℕ) (l : Link) → x < routers → Contains (node x).links.items l → is_way (node x).own l ≡ true → HasWay x l
  way x l within listed t = record {
    up = up;
    told = quiet.told x l within listed up;
    lower = (leads routers node all x within l.neighbour (l, listed, t, refl)).2;
    most = ⊎_elim (λ less. omega (arith, less)) (λ same. omega (arith, same.0)) (lower (node x).own l t).1;
    distance = quiet.distance x l within listed up;
  }
    where
      up : l.up ≡ true
      up = (lower (node x).own l t).0

  gate_distance : (x : ℕ) → x < routers → IsTrue (node x).gateway → IsDistance (node x) (node x).own.used
  gate_distance x within g = record {
    gateway = λ _. gateway x within g;
    near = λ forwards. absurd (forwards g);
    far = λ forwards. absurd (forwards g);
  }

  -- the distance of a router below the top is its height
  Known : ℕ → Type 0
  Known k = (x : ℕ) → x < routers → (node x).own.used < CUT_OFF → (node x).own.used * routers + x < k
      → IsDistance (node x) (node x).own.used

  known_more : (k : ℕ) → Known k → Known (suc k)
  unfolding Known
  known_more k before x within below less = ⊎_elim
      (λ (is : IsGateway (node x)). gate_distance x within is.gateway)
      (λ still. by still (has_next x within still below))
      (quiet.still x within)
    where
      -- the distance over a way
      over : (l : Link) → Contains (node x).links.items l → is_way (node x).own l ≡ true
          → distance_over l ≡ min (l.seen + l.cost) CUT_OFF
      over l listed t = let is = way x l within listed t in omega (
        arith,
        is.told.seen,
        distance_once (node l.neighbour) l.distance (node l.neighbour).own.used is.distance (before l.neighbour
            is.told.within (omega (arith, is.told.seen, is.most, below)) (omega (arith, is.lower, less))),
      )

      by : IsStillBelow (ceiling x) (node x) → HasNext x → IsDistance (node x) (node x).own.used
      by still next = record {
        gateway = λ g. absurd (router x still g);
        near = λ _ d nearest. omega (arith, least d nearest, most d nearest);
        far = λ _ none. absurd (false_true _
            (none_listed (is_way (node x).own) distance_over (node x).links.items next.link none next.listed) first);
      }
        where
          first : is_way (node x).own next.link ≡ true
          first = is_lower_way (node x).own next.link next.up next.heard (omega (arith, next.height, next.cost))

          least : (d : ℕ) → IsNearest (node x).own (node x).links.items d → d ≤ (node x).own.used
          least d nearest = omega (
            arith,
            least_listed (is_way (node x).own) distance_over (node x).links.items d next.link nearest next.listed first,
            over next.link next.listed first,
            next.height,
          )

          most : (d : ℕ) → IsNearest (node x).own (node x).links.items d → (node x).own.used ≤ d
          most d nearest = at (least_link (is_way (node x).own) distance_over (node x).links.items d nearest)
            where
              at : (l : Link) × Contains (node x).links.items l × (is_way (node x).own l ≡ true) × (distance_over l ≡ d)
                  → (node x).own.used ≤ d
              at (l, listed, t, e) = ⊎_elim
                  (λ offered. omega (
                    arith,
                    below,
                    over l listed t,
                    e,
                    no_better (ceiling x) (node x) still (opens x within) l listed
                        (is_offered (ceiling x) l is.up is.told.heard offered),
                  ))
                  (λ high. omega (arith, below, over l listed t, e, high, next.below, next.height))
                  (cases_lt (l.seen + l.cost) (ceiling x))
                where
                  is : HasWay x l
                  is = way x l within listed t

  known_first : Known 0
  unfolding Known
  known_first x within below less = absurd (omega (arith, less))

  known : (k : ℕ) → Known k
  known zero = known_first
  known (suc k) = known_more k (known k)

  distance : (x : ℕ) → x < routers → (node x).own.used < CUT_OFF → IsDistance (node x) (node x).own.used
  unfolding Known
  distance x within below = known ((node x).own.used * routers + x + 1) x within below (omega arith)

  -- Packets

  goes : (x : ℕ) → x < routers → (node x).own.used < CUT_OFF → IsTrue (node x).gateway ⊎ ((w : ℕ) × SendsTo (node x) w)
  goes x within below = ⊎_elim
      (λ (is : IsGateway (node x)). inl is.gateway)
      (λ still. inr (by (has_next x within still below)))
      (quiet.still x within)
    where
      by : HasNext x → (w : ℕ) × SendsTo (node x) w
      by next = (
        next.link.neighbour,
        (
          next.link,
          next.listed,
          is_lower_way (node x).own next.link next.up next.heard (omega (arith, next.height, next.cost)),
          refl,
        ),
      )

  goes_on : (x w : ℕ) → x < routers → (node x).own.used < CUT_OFF → SendsTo (node x) w → (node w).own.used < CUT_OFF
  goes_on x w within below (l, listed, t, to) = subst (λ (v : ℕ). (node v).own.used < CUT_OFF) to
      (let is = way x l within listed t in omega (arith, is.told.seen, is.most, below))

  arrives : (x : ℕ) → x < routers → (node x).own.used < CUT_OFF → (k : ℕ) × Arrive node k x
  arrives = arrive routers node all (λ x. (node x).own.used < CUT_OFF) goes goes_on

  -- by nearest ways
  Nearest : ℕ → Type 0
  Nearest k = (x : ℕ) → x < routers → (node x).own.used < CUT_OFF → (node x).own.used < k
      → ArriveNearest node k x (node x).own.used

  nearest_more : (k : ℕ) → Nearest k → Nearest (suc k)
  unfolding Nearest
  nearest_more k before x within below less = ⊎_elim
      (λ (is : IsGateway (node x)). inl (is.gateway, is.height))
      (λ still. inr (first (has_next x within still below), each))
      (quiet.still x within)
    where
      here : IsDistance (node x) (node x).own.used
      here = distance x within below

      -- over a nearest way, the distance is the height
      exact : (l : Link) → IsNearestWay (node x) l → (l.seen + l.cost ≡ (node x).own.used)
      exact l is = let to = way x l within is.listed is.way in omega (
        arith,
        below,
        to.told.seen,
        distance_once (node x) (distance_over l) (node x).own.used is.nearest here,
        distance_once (node l.neighbour) l.distance (node l.neighbour).own.used to.distance
            (distance l.neighbour to.told.within (omega (arith, to.told.seen, to.most, below))),
      )

      first : HasNext x → (l : Link) × IsNearestWay (node x) l
      first next = (
        next.link,
        record {
          listed = next.listed;
          way = lower_way;
          nearest = subst (IsDistance (node x)) (omega (
            arith,
            below,
            next.height,
            next.told.seen,
            distance_once (node next.link.neighbour) next.link.distance (node next.link.neighbour).own.used
                (quiet.distance x next.link within next.listed next.up)
                (distance next.link.neighbour next.told.within (omega (arith, next.height, next.told.seen, below))),
          )) here;
        },
      )
        where
          lower_way : is_way (node x).own next.link ≡ true
          lower_way = is_lower_way (node x).own next.link next.up next.heard (omega (arith, next.height, next.cost))

      each : (l : Link) → IsNearestWay (node x) l → IsTrue (lets_in (node l.neighbour) x)
          × ((e : ℕ) × ((node x).own.used ≡ l.cost + e) × ArriveNearest node k l.neighbour e)
      each l is = let to = way x l within is.listed is.way in (
        gate routers node all l.neighbour to.told.within x to.told.linked,
        (
          (node l.neighbour).own.used,
          omega (arith, exact l is, to.told.seen),
          before l.neighbour to.told.within (omega (arith, to.told.seen, to.most, below)) (omega (
            arith,
            less,
            to.told.seen,
            exact l is,
            quiet.cost x l within is.listed,
          )),
        ),
      )

  nearest_first : Nearest 0
  unfolding Nearest
  nearest_first x within below less = absurd (omega (arith, less))

  nearest : (k : ℕ) → Nearest k
  nearest zero = nearest_first
  nearest (suc k) = nearest_more k (nearest k)

  -- a router below the top is served
  served : (x : ℕ) → x < routers → (node x).own.used < CUT_OFF → IsServed ceiling node x
  unfolding RouteOf Nearest
  served x within below = record {
    height = record {
      some = route x within below;
      least = λ ls is. no_higher x ls within is.path is.within;
    };
    distance = distance x within below;
    arrive = arrives x within below;
    nearest = ((node x).own.used + 1, nearest ((node x).own.used + 1) x within below (omega arith));
  }

  -- and a router with a route is below the top
  below_top : (x : ℕ) (ls : List Link) → x < routers → IsRoute ceiling node x ls → (node x).own.used < CUT_OFF
  below_top x [] within is = omega (arith, gateway x within is.path)
  below_top x (l ∷ ls) within is = omega (
    arith,
    no_higher x (l ∷ ls) within is.path is.within,
    is.within.0,
    quiet.bits x within,
  )

  -- Routers without a path

  NoPath : ℕ → Type 0
  NoPath x = (ls : List Link) → ¬ IsPath node x ls

  lost_top : (x : ℕ) → x < routers → NoPath x → (node x).own.used ≡ CUT_OFF
  unfolding NoPath RouteOf
  lost_top x within none = ⊎_elim
      (λ below. absurd (by (route x within below)))
      (λ high. omega (arith, high, at_most x within))
      (cases_lt (node x).own.used CUT_OFF)
    where
      by : (ls : List Link) × IsRoute ceiling node x ls × (cost_of ls ≡ (node x).own.used) → ⊥
      by (ls, is, e) = none ls is.path

  Lost : ℕ → Type 0
  Lost k = (x : ℕ) → x < routers → NoPath x → (node x).own.used * routers + x < k → IsDistance (node x) CUT_OFF

  lost_more : (k : ℕ) → Lost k → Lost (suc k)
  unfolding Lost NoPath
  lost_more k before x within none less = record {
    gateway = λ g. absurd (none [] g);
    near = λ _ d nearest. by d (least_link (is_way (node x).own) distance_over (node x).links.items d nearest);
    far = λ _ _. refl;
  }
    where
      by : (d : ℕ) → (l : Link) × Contains (node x).links.items l × (is_way (node x).own l ≡ true)
          × (distance_over l ≡ d) → CUT_OFF ≡ d
      by d (l, listed, t, e) = let is = way x l within listed t in omega (
        arith,
        e,
        distance_once (node l.neighbour) l.distance CUT_OFF is.distance (before l.neighbour is.told.within
            (λ ls path. none (l ∷ ls) (listed, is.up, path)) (omega (arith, is.lower, less))),
      )

  lost_first : Lost 0
  unfolding Lost
  lost_first x within none less = absurd (omega (arith, less))

  lost : (k : ℕ) → Lost k
  lost zero = lost_first
  lost (suc k) = lost_more k (lost k)

  knows : (x : ℕ) → x < routers → ((ls : List Link) → ¬ IsPath node x ls)
      → ((node x).own.used ≡ CUT_OFF) × IsDistance (node x) CUT_OFF
  unfolding Lost NoPath
  knows x within none = (
    lost_top x within none,
    lost ((node x).own.used * routers + x + 1) x within none (omega arith),
  )

pub routes_are_shortest : RoutesAreShortest
routes_are_shortest routers ceiling node quiet x ls within is = served routers ceiling node quiet x within
    (below_top routers ceiling node quiet x ls within is)

pub lost_routers_know : LostRoutersKnow
lost_routers_know routers ceiling node quiet x within none = knows routers ceiling node quiet x within none
